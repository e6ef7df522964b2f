use Rattle.std.proofs.Common.{◌+◌, ◌*◌}
use Rattle.gp_algebra.specs.QueryViews.{annotated_view}
use Rattle.gp_algebra.proofs.QuerySizes.{query_size}
use Rattle.gp_prov.proofs.queries.+plain.Given as goal

abbrev pub decreases-plain_query : goal.decreases-plain_query
decreases-plain_query l = 4 * query_size (annotated_view l.query.now)

abbrev pub decreases-plain_box : goal.decreases-plain_box
decreases-plain_box l = 4 * query_size (annotated_view l.query.now) + 1

abbrev pub decreases-plain_pair : goal.decreases-plain_pair
decreases-plain_pair l = 4 * (query_size (annotated_view l.left.now) + query_size (annotated_view l.right.now)) + 2

abbrev pub decreases-plain_filter : goal.decreases-plain_filter
decreases-plain_filter l = 4 * query_size (annotated_view l.input.now) + 2

abbrev pub decreases-plain_projection : goal.decreases-plain_projection
decreases-plain_projection l = 4 * query_size (annotated_view l.input.now) + 2

abbrev pub decreases-plain_new_rows : goal.decreases-plain_new_rows
decreases-plain_new_rows l = 4 * query_size (annotated_view l.rows.now) + 2

abbrev pub decreases-plain_publish : goal.decreases-plain_publish
decreases-plain_publish l = 4 * (query_size (annotated_view l.base.now) + query_size (annotated_view l.mine.now) + query_size (annotated_view l.later.now)) + 3
