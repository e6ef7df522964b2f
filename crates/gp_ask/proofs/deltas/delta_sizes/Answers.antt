use Rattle.std.proofs.Common.{◌≡◌, suc, ◌+◌, drop, ap, ◌∙◌, arith}
use Rattle.std.specs.declared.cmp.Ordering.TheVariants.{Less, Equal, Greater}
use Rattle.gp_ask.specs.DeltaForms.{added_in, removed_in}
use Rattle.gp_ask.specs.Deltas.{delta}
use Rattle.gp_ask.proofs.DeltaLemmas.{first_of, rows_compared}
use Rattle.gp_ask.proofs.deltas.delta_sizes.Goals as goal

pub both-preserved-in-Less : goal.both-preserved-in-Less
both-preserved-in-Less c =
    let rows = c.args.rows.now in
    let others = c.args.others.now in
    let first = first_of rows others c.both.i c.both.j c.index-rows-i.result c.index-others-j.result c.both-test.true c.if-j-others.true c.index-rows-i.is c.index-others-j.is Less (c.in-Less.ensures ∙ rows_compared c.index-rows-i.result c.index-others-j.result) in
    let lost : removed_in (delta (drop c.both.i rows) (drop c.both.j others)) ≡ suc (removed_in (delta (drop (c.both.i + 1) rows) (drop c.both.j others))) = ap removed_in first in
    let gained : added_in (delta (drop c.both.i rows) (drop c.both.j others)) ≡ added_in (delta (drop (c.both.i + 1) rows) (drop c.both.j others)) = ap added_in first in
    record {
      i_within = omega arith;
      j_within = omega arith;
      few_removed = omega arith;
      few_added = omega arith;
      all_removed = omega arith;
      all_added = omega arith;
    }

pub both-preserved-in-Greater : goal.both-preserved-in-Greater
both-preserved-in-Greater c =
    let rows = c.args.rows.now in
    let others = c.args.others.now in
    let first = first_of rows others c.both.i c.both.j c.index-rows-i.result c.index-others-j.result c.both-test.true c.if-j-others.true c.index-rows-i.is c.index-others-j.is Greater (c.in-Greater.ensures ∙ rows_compared c.index-rows-i.result c.index-others-j.result) in
    let lost : removed_in (delta (drop c.both.i rows) (drop c.both.j others)) ≡ removed_in (delta (drop c.both.i rows) (drop (c.both.j + 1) others)) = ap removed_in first in
    let gained : added_in (delta (drop c.both.i rows) (drop c.both.j others)) ≡ suc (added_in (delta (drop c.both.i rows) (drop (c.both.j + 1) others))) = ap added_in first in
    record {
      i_within = omega arith;
      j_within = omega arith;
      few_removed = omega arith;
      few_added = omega arith;
      all_removed = omega arith;
      all_added = omega arith;
    }

pub both-preserved : goal.both-preserved
both-preserved c =
    let rows = c.args.rows.now in
    let others = c.args.others.now in
    let first = first_of rows others c.both.i c.both.j c.index-rows-i.result c.index-others-j.result c.both-test.true c.if-j-others.true c.index-rows-i.is c.index-others-j.is Equal (c.in-Equal.ensures ∙ rows_compared c.index-rows-i.result c.index-others-j.result) in
    let lost : removed_in (delta (drop c.both.i rows) (drop c.both.j others)) ≡ removed_in (delta (drop (c.both.i + 1) rows) (drop (c.both.j + 1) others)) = ap removed_in first in
    let gained : added_in (delta (drop c.both.i rows) (drop c.both.j others)) ≡ added_in (delta (drop (c.both.i + 1) rows) (drop (c.both.j + 1) others)) = ap added_in first in
    record {
      i_within = omega arith;
      j_within = omega arith;
      few_removed = omega arith;
      few_added = omega arith;
      all_removed = omega arith;
      all_added = omega arith;
    }
