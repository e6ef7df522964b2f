use Rattle.std.proofs.Common.{◌≡◌, ◌++◌, ◌-◌}
use Rattle.gp_serial.specs.PathForms as f
use Rattle.gp_serial.proofs.pair_cycle.push_down.Given as goal

-- the steps that remain give the rest
abbrev pub invariant-loop-done : goal.invariant-loop-done
invariant-loop-done l =
    l.cycle.items ++ f.down (f.list_at l.lists) l.paths (l.steps - l.done) l.last ≡ l.initial.cycle.items ++ f.down (f.list_at l.lists) l.paths l.steps l.from
