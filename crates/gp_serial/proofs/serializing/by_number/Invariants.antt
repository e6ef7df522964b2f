use Rattle.std.proofs.Common.{◌≡◌}
use Rattle.std.specs.Prelude.{filter, is_some}
use Rattle.gp_log.specs.Contents.{entries}
use Rattle.gp_machine.specs.Entries.{version_of}
use Rattle.gp_machine.specs.Precedence.{numbers}
use Rattle.gp_serial.proofs.serializing.by_number.Given as goal

-- those among the first numbers
abbrev pub invariant-loop-before : goal.invariant-loop-before
invariant-loop-before l = l.numbers.items ≡ filter (λ t. is_some (version_of t (entries l.log))) (numbers l.before)
