use Rattle.std.proofs.Common.{◌≡◌, List, ◌+◌, ◌++◌, drop, map, sym, ap, ◌∙◌, arith}
use Rattle.std.specs.declared.cmp.Ordering.TheVariants.{Less, Equal, Greater}
use Rattle.std.proofs.lemmas.List.{get_or_read}
use Rattle.gp_ask.specs.Deltas.{Signed, added, delta, removed, with_sign}
use Rattle.gp_ask.proofs.DeltaLemmas.{first_of, one_more, rows_compared}
use Rattle.gp_ask.proofs.deltas.delta_rows.Goals as goal

pub both-preserved-in-Less : goal.both-preserved-in-Less
both-preserved-in-Less c =
    let rows = c.args.rows.now in
    let others = c.args.others.now in
    let first = first_of rows others c.both.i c.both.j c.index-rows-i.result c.index-others-j.result c.both-test.true c.if-j-others.true c.index-rows-i.is c.index-others-j.is Less (c.in-Less.ensures ∙ rows_compared c.index-rows-i.result c.index-others-j.result) in
    let same : c.index-rows-i-in-Less.result ≡ c.index-rows-i.result = get_or_read rows c.both.i c.index-rows-i-in-Less.result c.both-test.true c.index-rows-i-in-Less.is c.index-rows-i.result ∙ sym c.index-rows-i.is in
    record {
      i_within = omega arith;
      j_within = omega arith;
      all =
          one_more c.both.lines c.push.new.self c.in_ok-signed_row-in-Less.field-0 (removed c.index-rows-i.result) (delta (drop (c.both.i + 1) rows) (drop c.both.j others)) (delta (drop c.both.i rows) (drop c.both.j others)) (map with_sign (delta rows others))
          c.in_ok-push-in-Less.ensures.ok (c.in_ok-signed_row-in-Less.ensures ∙ ap (λ row. with_sign (removed row)) same) first c.both.invariant.all;
    }

pub both-preserved-in-Greater : goal.both-preserved-in-Greater
both-preserved-in-Greater c =
    let rows = c.args.rows.now in
    let others = c.args.others.now in
    let first = first_of rows others c.both.i c.both.j c.index-rows-i.result c.index-others-j.result c.both-test.true c.if-j-others.true c.index-rows-i.is c.index-others-j.is Greater (c.in-Greater.ensures ∙ rows_compared c.index-rows-i.result c.index-others-j.result) in
    let same : c.index-others-j-in-Greater.result ≡ c.index-others-j.result = get_or_read others c.both.j c.index-others-j-in-Greater.result c.if-j-others.true c.index-others-j-in-Greater.is c.index-others-j.result ∙ sym c.index-others-j.is in
    record {
      i_within = omega arith;
      j_within = omega arith;
      all =
          one_more c.both.lines c.push-in-Greater.new.self c.in_ok-signed_row-in-Greater.field-0 (added c.index-others-j.result) (delta (drop c.both.i rows) (drop (c.both.j + 1) others)) (delta (drop c.both.i rows) (drop c.both.j others)) (map with_sign (delta rows others))
          c.in_ok-push-in-Greater.ensures.ok (c.in_ok-signed_row-in-Greater.ensures ∙ ap (λ row. with_sign (added row)) same) first c.both.invariant.all;
    }

pub both-preserved : goal.both-preserved
both-preserved c =
    let rows = c.args.rows.now in
    let others = c.args.others.now in
    let first = first_of rows others c.both.i c.both.j c.index-rows-i.result c.index-others-j.result c.both-test.true c.if-j-others.true c.index-rows-i.is c.index-others-j.is Equal (c.in-Equal.ensures ∙ rows_compared c.index-rows-i.result c.index-others-j.result) in
    record {
      i_within = omega arith;
      j_within = omega arith;
      all = ap (λ (list : List Signed). c.both.lines ++ map with_sign list) (sym first) ∙ c.both.invariant.all;
    }
