use Rattle.gp_log.specs.Logs.{log_view}
use Rattle.gp_ask.specs.HistoryForms.{AreByIdentity}
use Rattle.gp_ask.proofs.narrowing.are_by_identity.Given as goal

-- of the first statements, this many
abbrev pub invariant-loop-before : goal.invariant-loop-before
invariant-loop-before l = AreByIdentity l.table l.t l.before (log_view l.log.entries)
