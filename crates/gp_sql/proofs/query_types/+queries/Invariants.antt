use Rattle.std.proofs.Common.{◌+◌, ◌*◌}
use Rattle.gp_algebra.specs.PlainViews.{query_view}
use Rattle.gp_sql.proofs.QuerySizes.{query_size}
use Rattle.gp_sql.proofs.query_types.+queries.Given as goal

abbrev pub decreases-query_types : goal.decreases-query_types
decreases-query_types l = 4 * query_size (query_view l.query.now)

abbrev pub decreases-types_of_both : goal.decreases-types_of_both
decreases-types_of_both l = 4 * (query_size (query_view l.left.now) + query_size (query_view l.right.now)) + 2

abbrev pub decreases-types_of_publish : goal.decreases-types_of_publish
decreases-types_of_publish l = 4 * (query_size (query_view l.base.now) + (query_size (query_view l.mine.now) + query_size (query_view l.later.now))) + 3
