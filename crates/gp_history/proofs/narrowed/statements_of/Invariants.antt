use Rattle.std.proofs.Common.{◌≡◌, map}
use Rattle.gp_algebra.specs.Views.{statement_view}
use Rattle.gp_log.specs.Logs.{log_view}
use Rattle.gp_machine.specs.Entries.{log_of}
use Rattle.gp_history.specs.Narrowing.{statements_upto}
use Rattle.gp_history.proofs.narrowed.statements_of.Given as goal

abbrev pub invariant-loop-ran : goal.invariant-loop-ran
invariant-loop-ran l = map (λ stmt. statement_view stmt.now) l.statements.items ≡ statements_upto (log_of (log_view l.log.entries)) l.t l.ran
