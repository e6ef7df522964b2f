use Rattle.std.proofs.Common.{◌+◌, ◌*◌}
use Rattle.gp_base.specs.Identities.{nodes, nodes_in}
use Rattle.gp_base.specs.IdentityForms.{sources_of}
use Rattle.gp_base.proofs.row_id.+identity_order.Given as goal

abbrev pub decreases-RowId::compare : goal.decreases-RowId::compare
decreases-RowId::compare l = 2 * nodes l.self.now

abbrev pub decreases-compare_sources : goal.decreases-compare_sources
decreases-compare_sources l = 2 * nodes_in (sources_of l.left.now) + 1
