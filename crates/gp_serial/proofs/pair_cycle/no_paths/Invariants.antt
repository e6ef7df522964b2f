use Rattle.std.proofs.Common.{◌≡◌, None}
use Rattle.std.specs.Prelude.{replicate}
use Rattle.gp_serial.proofs.pair_cycle.no_paths.Given as goal

-- as many as turns
abbrev pub invariant-loop : goal.invariant-loop
invariant-loop l = l.paths.items ≡ replicate l.counter None
