use Rattle.std.proofs.Common.{◌≡◌, ◌∙◌, ◌+◌, ◌<◌, ◌++◌, ◌∷◌, [], List, None, ap, arith, drop, get_or, length, map, sym}
use Rattle.std.specs.List.{zip}
use Rattle.std.proofs.lemmas.List.{append-nil, get_or_read}
use Rattle.gp_ask.specs.IntervalForms.{Open, interval_row, still_open}
use Rattle.gp_ask.proofs.IntervalLemmas.{pushed-more, zip-more, zip-none}
use Rattle.gp_ask.proofs.intervals.push_open.Goals as goal

pub left-preserved : goal.left-preserved
left-preserved c =
    let rows = c.args.open.now.rows.items in
    let froms = c.args.open.now.froms.items in
    let i = c.left.i in
    let row = c.index.result.now in
    let old : List Open = zip rows froms in
    let inside : i < length rows = omega arith in
    let among : i < length froms = omega (arith, c.requires) in
    let is : drop i old ≡ (row, get_or froms i 0) ∷ drop (i + 1) old = zip-more rows froms c.requires i row inside c.index.ensures in
    let alike : c.index-in-left.result.now ≡ get_or froms i 0 = get_or_read froms i c.index-in-left.result.now among c.index-in-left.ensures 0 in
    record {
      within = omega arith;
      ended =
          pushed-more c.left.ended.items c.push_interval.new.rows.items (interval_row (still_open (row, get_or froms i 0))) (map interval_row (map still_open (drop (i + 1) old)))
          (map interval_row (map still_open (drop i old))) (c.args.ended.now.items ++ map interval_row (map still_open old))
          (c.in_ok-push_interval.ensures ∙ ap (λ n. c.left.ended.items ++ interval_row (record { row = row; from = n; to = None }) ∷ []) alike)
          (ap (λ (list : List Open). map interval_row (map still_open list)) is) c.left.invariant.ended;
    }

pub returns : goal.returns
returns c =
    let rows = c.args.open.now.rows.items in
    let froms = c.args.open.now.froms.items in
    let none : drop c.left.i (zip rows froms) ≡ [] = zip-none rows froms c.requires c.left.i (omega arith) in
    sym (append-nil c.left.ended.items) ∙ ap (λ (list : List Open). c.left.ended.items ++ map interval_row (map still_open list)) (sym none) ∙ c.left.invariant.ended
