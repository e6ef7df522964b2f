use Rattle.std.proofs.Common.{◌+◌, ◌*◌}
use Rattle.gp_algebra.specs.QueryViews.{annotated_view}
use Rattle.gp_algebra.proofs.QuerySizes.{query_size}
use Rattle.gp_kexec.proofs.table.KInputs.+contents.Given as goal

abbrev pub decreases-table : goal.decreases-table
decreases-table g l = 2 * query_size (annotated_view l.query.now)

abbrev pub decreases-updated : goal.decreases-updated
decreases-updated g l = 2 * query_size (annotated_view l.input.now) + 1

abbrev pub decreases-published : goal.decreases-published
decreases-published g l = 2 * (query_size (annotated_view l.base.now) + (query_size (annotated_view l.mine.now) + query_size (annotated_view l.later.now))) + 1
