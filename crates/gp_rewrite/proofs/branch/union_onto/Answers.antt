use Rattle.std.proofs.Common.{length}
use Rattle.gp_algebra.specs.Views.{branch_view}
use Rattle.gp_rewrite.specs.Meaning.{branch_is_there}
use Rattle.gp_rewrite.proofs.PlaceLemmas.{item_passes}
use Rattle.gp_rewrite.proofs.branch.union_onto.Goals as goal

pub branch_query-requires : goal.branch_query-requires
branch_query-requires c =
    item_passes (branch_is_there (length c.args.tables.now)) branch_view c.args.others.now c.loop-branch.branch-index c.branch-item.result
    c.loop-branch-test.true c.branch-item.is c.requires
