use Rattle.std.proofs.Common.{◌+◌, ◌*◌}
use Rattle.gp_base.specs.Identities.{nodes, nodes_in}
use Rattle.gp_base.specs.IdentityForms.{sources_of}
use Rattle.gp_base.proofs.display.+id_text.Given as goal

abbrev pub decreases-push_id : goal.decreases-push_id
decreases-push_id l = 2 * nodes l.id.now

abbrev pub decreases-push_sources : goal.decreases-push_sources
decreases-push_sources l = 2 * nodes_in (sources_of l.ids.now) + 1

abbrev pub decreases-push_others : goal.decreases-push_others
decreases-push_others l = 2 * nodes_in (sources_of l.ids.now) + 1
