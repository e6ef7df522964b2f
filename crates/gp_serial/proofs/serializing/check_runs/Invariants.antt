use Rattle.std.proofs.Common.{◌≡◌, None}
use Rattle.gp_log.specs.Contents.{entries}
use Rattle.gp_log.specs.Parameters.{parameters}
use Rattle.gp_reenact.specs.Reenacting.{spans_of}
use Rattle.gp_serial.specs.Serializing.{runs_refusal}
use Rattle.gp_serial.proofs.serializing.check_runs.Given as goal

-- none of the first versions is refused
abbrev pub invariant-loop-before : goal.invariant-loop-before
invariant-loop-before l = runs_refusal parameters (entries l.log) (spans_of l.versions) l.before ≡ None
