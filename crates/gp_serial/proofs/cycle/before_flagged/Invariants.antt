use Rattle.std.proofs.Common.{◌≡◌, ◌++◌, drop, map}
use Rattle.std.specs.Prelude.{is_some}
use Rattle.gp_serial.specs.CycleForms.{first_step}
use Rattle.gp_serial.specs.Relations.{is_edge}
use Rattle.gp_serial.proofs.cycle.before_flagged.Given as goal

-- the numbers that remain give the other flags
abbrev pub invariant-loop-from : goal.invariant-loop-from
invariant-loop-from l =
    l.flags.items ++ map (λ from. is_some (first_step (is_edge l.graph) from l.all l.flagged)) (drop l.from-index l.all)
    ≡ map (λ from. is_some (first_step (is_edge l.graph) from l.all l.flagged)) l.all
