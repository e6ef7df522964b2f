use Rattle.std.proofs.Common.{◌≡◌, ◌≤◌, ◌-◌}
use Rattle.gprom_cli.specs.Generated as spec
use Rattle.gprom_cli.proofs.generated.generate_script.Given as goal

-- the rounds so far
abbrev pub invariant-loop-round : goal.invariant-loop-round
invariant-loop-round l = (l.script.items ≡ spec.generated_script l.round) × (l.round ≤ l.rounds)

abbrev pub decreases-loop-round : goal.decreases-loop-round
decreases-loop-round l = l.rounds - l.round
