use Rattle.gp_base.specs.Annotated.{unannotated}
use Rattle.gp_whatif.proofs.CoherentLogs.{changes_coherent, history_coherent, replayable_coherent}
use Rattle.gp_whatif.proofs.laws.changed_logs_are_coherent.Goals as goal

pub returns-clause-changed : goal.returns-clause-changed
returns-clause-changed c limits entries new changes checks is e = changes_coherent limits checks entries new changes is e

pub returns-clause-histories : goal.returns-clause-histories
returns-clause-histories c limits lines checks = history_coherent unannotated limits checks lines

pub returns-clause-replayable : goal.returns-clause-replayable
returns-clause-replayable c entries is = replayable_coherent entries is
