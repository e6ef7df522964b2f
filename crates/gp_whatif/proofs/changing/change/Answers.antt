use Rattle.gp_log.specs.Logs.{log_view}
use Rattle.gp_syntax.specs.Views.{changes_view}
use Rattle.gp_whatif.proofs.FittingMore.{keeps_replayable}
use Rattle.gp_whatif.proofs.changing.change.Goals as goal

pub returns-clause-replayable : goal.returns-clause-replayable
returns-clause-replayable c = λ is valid fine.
    keeps_replayable c.all_made.result (log_view c.args.log.now.entries) (changes_view c.args.changes.now) c.all_made.ensures c.requires.statements is valid fine
