use Rattle.std.proofs.Common.{None, ap, sym, ◌∙◌}
use Rattle.std.specs.List.{flat_map}
use Rattle.std.proofs.lemmas.List.{drop_all}
use Rattle.gp_txn.specs.LeastSoFar.{least_of}
use Rattle.gp_txn.specs.Passes.{of_entry, row_lates}
use Rattle.gp_txn.proofs.ConflictLemmas.{lates-entries}
use Rattle.gp_txn.proofs.conflict.least_slot.Goals as goal

pub returns : goal.returns
returns c =
    let slots = c.args.slots.now in
    let carried = c.args.carried.now in
    let spans = c.args.spans.now in
    ap (λ rest. least_of c.loop-placed.found (flat_map (of_entry row_lates carried c.args.v spans) rest)) (sym (drop_all c.loop-placed.placed-index slots c.loop-placed-test.false))
    ∙ c.loop-placed.invariant
    ∙ ap (least_of None) (lates-entries carried c.args.v spans slots c.requires)
