use Rattle.std.proofs.Common.{◌≡◌, drop}
use Rattle.gp_serial.specs.CycleForms.{first_step}
use Rattle.gp_serial.specs.Relations.{is_edge}
use Rattle.gp_serial.proofs.cycle.first_step.Given as goal

-- the numbers that remain decide
abbrev pub invariant-loop-place : goal.invariant-loop-place
invariant-loop-place l = first_step (is_edge l.graph) l.from (drop l.place l.all) (drop l.place l.flagged) ≡ first_step (is_edge l.graph) l.from l.all l.flagged
