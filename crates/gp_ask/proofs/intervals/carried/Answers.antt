use Rattle.std.proofs.Common.{◌≡◌, ◌∙◌, ◌+◌, ◌<◌, ◌++◌, ◌∷◌, [], ℕ, List, Some, ap, arith, drop, get_or, length, map, refl, sym}
use Rattle.std.specs.List.{zip}
use Rattle.std.specs.declared.cmp.Ordering.TheVariants.{Less, Equal, Greater}
use Rattle.std.proofs.lemmas.List.{append-nil, at_drop_all, drop_more, get_or_read}
use Rattle.gp_base.specs.declared.cell.Cell.{Cell}
use Rattle.gp_ask.specs.IntervalForms.{Open, carried, closed, ended, interval_row}
use Rattle.gp_ask.specs.Intervals.{Interval}
use Rattle.gp_ask.proofs.DeltaLemmas.{rows_compared}
use Rattle.gp_ask.proofs.IntervalLemmas.{carries-at, closes-at, pushed-more, zip-more, zip-none}
use Rattle.gp_ask.proofs.intervals.carried.Goals as goal
use Rattle.gp_ask.proofs.intervals.carried.Goals.{then-both-test+else-j-rows, else-both-test}

-- the first of the rows that remain
next-row : (rows : List (List Cell)) (j : ℕ) (row : List Cell) → j < length rows → row ≡ get_or rows j row → drop j rows ≡ row ∷ drop (j + 1) rows
next-row rows j row within is = drop_more rows j row within ∙ ap (λ (own : List Cell). own ∷ drop (j + 1) rows) (sym is)

-- an interval that ended
ended-row : (version : ℕ) (row other : List Cell) (from begun : ℕ) → other ≡ row → begun ≡ from → interval_row (record { row = other; from = begun; to = Some version }) ≡ interval_row (ended version (row, from))
ended-row version row other from begun same alike = λ i. interval_row (record { row = same i; from = alike i; to = Some version })

pub both-preserved-in-Less : goal.both-preserved-in-Less
both-preserved-in-Less c =
    let rows = c.args.open.now.rows.items in
    let froms = c.args.open.now.froms.items in
    let news = c.args.rows.now in
    let i = c.both.i in
    let j = c.both.j in
    let row = c.index.result.now in
    let other = c.index-rows-j.result in
    let old : List Open = zip rows froms in
    let inside : i < length rows = omega arith in
    let among : i < length froms = omega (arith, c.requires) in
    let is : drop i old ≡ (row, get_or froms i 0) ∷ drop (i + 1) old = zip-more rows froms c.requires i row inside c.index.ensures in
    let step = carries-at c.args.version (row, get_or froms i 0) (drop (i + 1) old) (drop i old) is other (drop j news) (drop (j + 1) news) (next-row news j other c.if-j-rows.true c.index-rows-j.is) Less (c.in-Less.ensures ∙ rows_compared row other) in
    let same : c.index-in-Less.result.now ≡ row = get_or_read rows i c.index-in-Less.result.now inside c.index-in-Less.ensures row ∙ sym c.index.ensures in
    let alike : c.index-in-Less-2.result.now ≡ get_or froms i 0 = get_or_read froms i c.index-in-Less-2.result.now among c.index-in-Less-2.ensures 0 in
    record {
      i_within = omega arith;
      j_within = omega arith;
      froms = ap (λ (list : List ℕ). c.both.froms.items ++ list) (sym step.0) ∙ c.both.invariant.froms;
      ended =
          pushed-more c.both.ended.items c.push_interval.new.rows.items (interval_row (ended c.args.version (row, get_or froms i 0))) (map interval_row (closed c.args.version (drop (i + 1) old) (drop j news)))
          (map interval_row (closed c.args.version (drop i old) (drop j news))) (c.args.ended.now.items ++ map interval_row (closed c.args.version old news))
          (c.in_ok-push_interval-in-Less.ensures ∙ ap (λ (own : List Cell). c.both.ended.items ++ own ∷ []) (ended-row c.args.version row c.index-in-Less.result.now (get_or froms i 0) c.index-in-Less-2.result.now same alike))
          (ap (map interval_row) step.1) c.both.invariant.ended;
    }

pub both-preserved-in-Greater : goal.both-preserved-in-Greater
both-preserved-in-Greater c =
    let rows = c.args.open.now.rows.items in
    let froms = c.args.open.now.froms.items in
    let news = c.args.rows.now in
    let i = c.both.i in
    let j = c.both.j in
    let row = c.index.result.now in
    let other = c.index-rows-j.result in
    let old : List Open = zip rows froms in
    let inside : i < length rows = omega arith in
    let is : drop i old ≡ (row, get_or froms i 0) ∷ drop (i + 1) old = zip-more rows froms c.requires i row inside c.index.ensures in
    let step = carries-at c.args.version (row, get_or froms i 0) (drop (i + 1) old) (drop i old) is other (drop j news) (drop (j + 1) news) (next-row news j other c.if-j-rows.true c.index-rows-j.is) Greater (c.in-Greater.ensures ∙ rows_compared row other) in
    record {
      i_within = omega arith;
      j_within = omega arith;
      froms =
          pushed-more c.both.froms.items c.push.new.self.items c.args.version (carried c.args.version (drop i old) (drop (j + 1) news)) (carried c.args.version (drop i old) (drop j news)) (carried c.args.version old news)
          c.in_ok-push-in-Greater.ensures.items step.0 c.both.invariant.froms;
      ended = ap (λ (list : List Interval). c.both.ended.items ++ map interval_row list) (sym step.1) ∙ c.both.invariant.ended;
    }

pub both-preserved : goal.both-preserved
both-preserved c =
    let rows = c.args.open.now.rows.items in
    let froms = c.args.open.now.froms.items in
    let news = c.args.rows.now in
    let i = c.both.i in
    let j = c.both.j in
    let row = c.index.result.now in
    let other = c.index-rows-j.result in
    let old : List Open = zip rows froms in
    let inside : i < length rows = omega arith in
    let among : i < length froms = omega (arith, c.requires) in
    let is : drop i old ≡ (row, get_or froms i 0) ∷ drop (i + 1) old = zip-more rows froms c.requires i row inside c.index.ensures in
    let step = carries-at c.args.version (row, get_or froms i 0) (drop (i + 1) old) (drop i old) is other (drop j news) (drop (j + 1) news) (next-row news j other c.if-j-rows.true c.index-rows-j.is) Equal (c.in-Equal.ensures ∙ rows_compared row other) in
    let alike : c.index-in-Equal.result.now ≡ get_or froms i 0 = get_or_read froms i c.index-in-Equal.result.now among c.index-in-Equal.ensures 0 in
    record {
      i_within = omega arith;
      j_within = omega arith;
      froms =
          pushed-more c.both.froms.items c.push-in-Equal.new.self.items (get_or froms i 0) (carried c.args.version (drop (i + 1) old) (drop (j + 1) news)) (carried c.args.version (drop i old) (drop j news)) (carried c.args.version old news)
          (c.in_ok-push-in-Equal.ensures.items ∙ ap (λ n. c.both.froms.items ++ n ∷ []) alike) step.0 c.both.invariant.froms;
      ended = ap (λ (list : List Interval). c.both.ended.items ++ map interval_row list) (sym step.1) ∙ c.both.invariant.ended;
    }

pub left-init : goal.left-init
left-init c = record {
  i_within = c.both.invariant.i_within;
  j_within = c.both.invariant.j_within;
  rows_done = elim c.both-test.branch [ then-both-test+else-j-rows w ↦ λ below. omega arith | else-both-test w ↦ λ below. omega arith ];
  froms = c.both.invariant.froms;
  ended = refl;
}

pub left-preserved : goal.left-preserved
left-preserved c =
    let rows = c.args.open.now.rows.items in
    let froms = c.args.open.now.froms.items in
    let news = c.args.rows.now in
    let i = c.left.i in
    let j = c.both.j in
    let row = c.index-in-left.result.now in
    let old : List Open = zip rows froms in
    let inside : i < length rows = omega arith in
    let among : i < length froms = omega (arith, c.requires) in
    let is : drop i old ≡ (row, get_or froms i 0) ∷ drop (i + 1) old = zip-more rows froms c.requires i row inside c.index-in-left.ensures in
    let none : drop j news ≡ [] = at_drop_all (λ (list : List (List Cell)). list) news j (c.left.invariant.rows_done inside) in
    let step = closes-at c.args.version (row, get_or froms i 0) (drop (i + 1) old) (drop i old) is (drop j news) none in
    let alike : c.index-in-left-2.result.now ≡ get_or froms i 0 = get_or_read froms i c.index-in-left-2.result.now among c.index-in-left-2.ensures 0 in
    record {
      i_within = omega arith;
      j_within = c.left.invariant.j_within;
      rows_done = λ below. c.left.invariant.rows_done inside;
      froms = ap (λ (list : List ℕ). c.both.froms.items ++ list) (sym step.0) ∙ c.left.invariant.froms;
      ended =
          pushed-more c.left.ended.items c.push_interval-in-left.new.rows.items (interval_row (ended c.args.version (row, get_or froms i 0))) (map interval_row (closed c.args.version (drop (i + 1) old) (drop j news)))
          (map interval_row (closed c.args.version (drop i old) (drop j news))) (c.both.ended.items ++ map interval_row (closed c.args.version (drop c.both.i old) (drop j news)))
          (c.in_ok-push_interval.ensures ∙ ap (λ n. c.left.ended.items ++ interval_row (record { row = row; from = n; to = Some c.args.version }) ∷ []) alike)
          (ap (map interval_row) step.1) c.left.invariant.ended;
    }

pub right-init : goal.right-init
right-init c =
    let rows = c.args.open.now.rows.items in
    let froms = c.args.open.now.froms.items in
    let news = c.args.rows.now in
    let j = c.both.j in
    let none : drop c.left.i (zip rows froms) ≡ [] = zip-none rows froms c.requires c.left.i (omega arith) in
    record {
      j_within = c.left.invariant.j_within;
      froms = ap (λ (list : List Open). c.both.froms.items ++ carried c.args.version list (drop j news)) (sym none) ∙ c.left.invariant.froms;
    }

pub right-preserved : goal.right-preserved
right-preserved c =
    let news = c.args.rows.now in
    let j = c.right.j in
    record {
      j_within = omega arith;
      froms =
          pushed-more c.right.froms.items c.push-in-right.new.self.items c.args.version (map (λ row. c.args.version) (drop (j + 1) news)) (map (λ row. c.args.version) (drop j news))
          (carried c.args.version (zip c.args.open.now.rows.items c.args.open.now.froms.items) news) c.in_ok-push.ensures.items
          (ap (map (λ row. c.args.version)) (drop_more news j [] c.right-test.true)) c.right.invariant.froms;
    }

pub returns-clause-ended : goal.returns-clause-ended
returns-clause-ended c =
    let rows = c.args.open.now.rows.items in
    let froms = c.args.open.now.froms.items in
    let none : drop c.left.i (zip rows froms) ≡ [] = zip-none rows froms c.requires c.left.i (omega arith) in
    sym (append-nil c.left.ended.items)
    ∙ ap (λ (list : List Open). c.left.ended.items ++ map interval_row (closed c.args.version list (drop c.both.j c.args.rows.now))) (sym none)
    ∙ c.left.invariant.ended
    ∙ c.both.invariant.ended
