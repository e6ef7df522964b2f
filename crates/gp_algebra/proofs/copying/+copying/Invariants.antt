use Rattle.std.proofs.Common.{◌+◌, ◌*◌}
use Rattle.gp_algebra.specs.QueryViews.{annotated_view}
use Rattle.gp_algebra.proofs.QuerySizes.{query_size}
use Rattle.gp_algebra.proofs.copying.+copying.Given as goal

abbrev pub decreases-copy_query : goal.decreases-copy_query
decreases-copy_query l = 4 * query_size (annotated_view l.query.now)

abbrev pub decreases-copy_boxed : goal.decreases-copy_boxed
decreases-copy_boxed l = 4 * query_size (annotated_view l.query.now) + 1

abbrev pub decreases-copy_both : goal.decreases-copy_both
decreases-copy_both l = 4 * (query_size (annotated_view l.left.now) + query_size (annotated_view l.right.now)) + 2

abbrev pub decreases-copy_filter : goal.decreases-copy_filter
decreases-copy_filter l = 4 * query_size (annotated_view l.input.now) + 2

abbrev pub decreases-copy_projection : goal.decreases-copy_projection
decreases-copy_projection l = 4 * query_size (annotated_view l.input.now) + 2

abbrev pub decreases-copy_publication : goal.decreases-copy_publication
decreases-copy_publication l =
    4 * (query_size (annotated_view l.base.now) + (query_size (annotated_view l.mine.now) + query_size (annotated_view l.later.now))) + 3
