use Rattle.std.proofs.Common.{◌≡◌, ◌++◌, drop}
use Rattle.gp_serial.specs.PathForms as f
use Rattle.gp_serial.proofs.pair_cycle.reach_each.Given as goal

-- the numbers that remain give the rest
abbrev pub invariant-loop-t : goal.invariant-loop-t
invariant-loop-t l = record {
  paths : f.reach_each l.steps l.least (drop l.t-index l.from) l.paths.items ≡ f.reach_each l.steps l.least l.from l.initial.paths.items;
  next : l.next.items ++ f.fresh l.steps l.least (drop l.t-index l.from) l.paths.items ≡ l.initial.next.items ++ f.fresh l.steps l.least l.from l.initial.paths.items;
}
