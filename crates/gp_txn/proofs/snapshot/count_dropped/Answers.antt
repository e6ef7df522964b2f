use Rattle.std.proofs.Common.{ap, arith, length}
use Rattle.std.specs.List.{flat_map}
use Rattle.std.proofs.lemmas.List.{drop_all}
use Rattle.gp_txn.specs.Passes.{of_entry, row_dropped}
use Rattle.gp_txn.proofs.ViewLemmas.{dropped-entries}
use Rattle.gp_txn.proofs.snapshot.count_dropped.Goals as goal

pub returns : goal.returns
returns c =
    let slots = c.args.slots.now in
    let carried = c.args.carried.now in
    let spans = c.args.spans.now in
    let none = ap (λ rest. length (flat_map (of_entry row_dropped carried c.args.v spans) rest)) (drop_all c.loop-placed.placed-index slots c.loop-placed-test.false) in
    omega (arith, none, dropped-entries carried c.args.v spans slots c.requires, c.loop-placed.invariant.rest)
