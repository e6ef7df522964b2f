use Rattle.std.proofs.Common.{map, subst}
use Rattle.gp_algebra.specs.Views.{select_view}
use Rattle.gp_syntax.specs.Views.{block_view, query_view}
use Rattle.gp_check.specs.Checking.{checked_query}
use Rattle.gp_check.specs.Views.{Checks}
use Rattle.gp_check.proofs.FittingLemmas.{select_fits_if_checked}
use Rattle.gp_check.proofs.checker.check_query.Goals as goal

pub returns-clause-fits : goal.returns-clause-fits
returns-clause-fits c =
    select_fits_if_checked c.args.catalog.now (query_view c.args.query.now) c.check_blocks.result
    (subst (λ blocks. Checks select_view c.check_blocks.result (checked_query c.args.catalog.now (map block_view blocks))) c.as_slice.ensures c.check_blocks.ensures)
