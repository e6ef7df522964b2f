use Rattle.std.proofs.Common.{ap, arith, length}
use Rattle.std.specs.List.{flat_map}
use Rattle.std.proofs.lemmas.List.{drop_all}
use Rattle.gp_base.specs.Annotated.{unannotated}
use Rattle.gp_versions.specs.Commits.{live_rows}
use Rattle.gp_txn.specs.Passes.{of_entry, row_writes}
use Rattle.gp_txn.proofs.PutLemmas.{writes-entries}
use Rattle.gp_txn.proofs.span_count.count_base.Goals as goal

pub returns-clause-count : goal.returns-clause-count
returns-clause-count c =
    let slots = c.args.slots.now in
    let carried = c.args.carried.now in
    let spans = c.args.spans.now in
    let none = ap (λ rest. length (live_rows unannotated (flat_map (of_entry row_writes carried c.args.v spans) rest))) (drop_all c.loop-placed.placed-index slots c.loop-placed-test.false) in
    let all = ap (λ writes. length (live_rows unannotated writes)) (writes-entries carried c.args.v spans slots c.requires) in
    omega (arith, none, all, c.loop-placed.invariant.rest)
