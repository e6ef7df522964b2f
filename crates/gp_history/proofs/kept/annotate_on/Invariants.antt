use Rattle.std.proofs.Common.{◌-◌}
use Rattle.gp_log.specs.Logs.{log_view}
use Rattle.gp_reenact.specs.Reenacting.{spans_of}
use Rattle.gp_history.specs.Keeping.{IsKept}
use Rattle.gp_history.proofs.kept.annotate_on.Given as goal

abbrev pub invariant-loop-known : goal.invariant-loop-known
invariant-loop-known g l = IsKept (g.N.Annotator.domain l.annotator) (log_view l.log.entries) (spans_of l.versions) l.known

abbrev pub decreases-loop-known : goal.decreases-loop-known
decreases-loop-known g l = l.v - l.known.version
