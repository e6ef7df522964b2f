use Rattle.std.proofs.Common.{◌≡◌, None, drop, get_or}
use Rattle.std.specs.Prelude.{find}
use Rattle.gp_serial.specs.PathForms.{has_steps}
use Rattle.gp_serial.proofs.pair_cycle.next_down.Given as goal

-- the numbers that remain decide
abbrev pub invariant-loop-t : goal.invariant-loop-t
invariant-loop-t l = find (λ t. has_steps l.steps (get_or l.paths t None)) (drop l.t-index l.list) ≡ find (λ t. has_steps l.steps (get_or l.paths t None)) l.list
