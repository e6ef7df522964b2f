use Rattle.std.proofs.Common.{◌≡◌, ◌-◌, length}
use Rattle.gp_serial.specs.PathForms as f
use Rattle.gp_serial.proofs.pair_cycle.paths_to.Given as goal

-- the levels that remain give the rest
abbrev pub invariant-loop-steps : goal.invariant-loop-steps
invariant-loop-steps l = f.paths_from (f.list_at l.lists) (l.most - l.steps) l.steps l.level.items l.paths.items ≡ f.paths_to (f.list_at l.lists) (length l.lists) l.most l.last
