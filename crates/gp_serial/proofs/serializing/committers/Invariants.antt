use Rattle.std.proofs.Common.{◌≡◌, map}
use Rattle.gp_log.specs.Contents.{entries}
use Rattle.gp_machine.specs.Entries.{committer_of}
use Rattle.gp_machine.specs.Precedence.{numbers}
use Rattle.gp_serial.proofs.serializing.committers.Given as goal

-- those of the first versions
abbrev pub invariant-loop-before : goal.invariant-loop-before
invariant-loop-before l = l.committers.items ≡ map (λ version. committer_of version (entries l.log)) (numbers l.before)
