use Rattle.std.proofs.Common.{◌+◌, ◌*◌}
use Rattle.gp_base.specs.Identities.{nodes, nodes_in}
use Rattle.gp_base.specs.IdentityForms.{sources_of}
use Rattle.gp_versions.proofs.key.+fold.Given as goal

abbrev pub decreases-fold_id : goal.decreases-fold_id
decreases-fold_id l = 2 * nodes l.id.now

abbrev pub decreases-fold_all : goal.decreases-fold_all
decreases-fold_all l = 2 * nodes_in (sources_of l.ids.now) + 1
