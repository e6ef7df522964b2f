use Rattle.std.proofs.Common.{◌≡◌, ◌++◌, drop}
use Rattle.std.specs.Prelude.{◌==◌, filter, not}
use Rattle.gp_serial.proofs.order.without.Given as goal

-- the numbers that remain give the others
abbrev pub invariant-loop-other : goal.invariant-loop-other
invariant-loop-other l = l.others.items ++ filter (λ other. not (other == l.t)) (drop l.other-index l.left) ≡ filter (λ other. not (other == l.t)) l.left
