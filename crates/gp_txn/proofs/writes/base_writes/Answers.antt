use Rattle.std.proofs.Common.{◌++◌, ap, sym, ◌∙◌}
use Rattle.std.specs.List.{flat_map}
use Rattle.std.proofs.lemmas.List.{append-nil, drop_all}
use Rattle.gp_txn.specs.Passes.{of_entry, row_writes}
use Rattle.gp_txn.proofs.PutLemmas.{writes-entries}
use Rattle.gp_txn.proofs.writes.base_writes.Goals as goal

pub returns : goal.returns
returns c =
    let slots = c.args.slots.now in
    let carried = c.args.carried.now in
    let spans = c.args.spans.now in
    sym (append-nil c.loop-placed.writes.items)
    ∙ ap (λ rest. c.loop-placed.writes.items ++ flat_map (of_entry row_writes carried c.args.v spans) rest) (sym (drop_all c.loop-placed.placed-index slots c.loop-placed-test.false))
    ∙ c.loop-placed.invariant
    ∙ writes-entries carried c.args.v spans slots c.requires
