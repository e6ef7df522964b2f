use Rattle.std.proofs.Common.{◌≡◌}
use Rattle.gp_log.specs.Logs.{log_view}
use Rattle.gp_whatif.specs.Remade.{HasRun}
use Rattle.gp_whatif.proofs.replaying.run_again.Given as goal

-- the rows are as they were, and it has run the statements so far
abbrev pub invariant-loop-ran : goal.invariant-loop-ran
invariant-loop-ran l = (l.versions ≡ l.initial.versions) × HasRun (log_view l.log.entries) l.before l.initial.versions l.ran l.active
