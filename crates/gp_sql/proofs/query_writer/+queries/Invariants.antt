use Rattle.std.proofs.Common.{◌+◌, ◌*◌}
use Rattle.gp_algebra.specs.PlainViews.{query_view}
use Rattle.gp_sql.proofs.QuerySizes.{query_size}
use Rattle.gp_sql.proofs.query_writer.+queries.Given as goal

abbrev pub decreases-push_query : goal.decreases-push_query
decreases-push_query l = 4 * query_size (query_view l.query.now)

abbrev pub decreases-push_numbered : goal.decreases-push_numbered
decreases-push_numbered l = 4 * query_size (query_view l.query.now) + 1

abbrev pub decreases-push_operand : goal.decreases-push_operand
decreases-push_operand l = 4 * query_size (query_view l.query.now) + 2

abbrev pub decreases-push_filter : goal.decreases-push_filter
decreases-push_filter l = 4 * query_size (query_view l.input.now) + 3

abbrev pub decreases-push_project : goal.decreases-push_project
decreases-push_project l = 4 * query_size (query_view l.input.now) + 3

abbrev pub decreases-push_product : goal.decreases-push_product
decreases-push_product l = 4 * (query_size (query_view l.left.now) + query_size (query_view l.right.now)) + 3

abbrev pub decreases-push_union : goal.decreases-push_union
decreases-push_union l = 4 * (query_size (query_view l.left.now) + query_size (query_view l.right.now)) + 3

abbrev pub decreases-push_publish : goal.decreases-push_publish
decreases-push_publish l = 4 * (query_size (query_view l.base.now) + (query_size (query_view l.mine.now) + query_size (query_view l.later.now))) + 3
