use Rattle.gp_syntax.specs.Views.{command_view}
use Rattle.gp_check.proofs.FittingLemmas.{statement_fits_if_checked}
use Rattle.gp_check.proofs.checker.check.Goals as goal

pub returns-clause-fits : goal.returns-clause-fits
returns-clause-fits c =
    statement_fits_if_checked c.args.catalog.now (command_view c.args.command.now) c.requires c.check_statement.result c.check_statement.ensures
