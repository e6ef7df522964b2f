use Rattle.std.proofs.Common.{◌≡◌, ◌++◌, drop}
use Rattle.gp_serial.specs.PathForms as f
use Rattle.gp_serial.proofs.pair_cycle.next_level.Given as goal

-- the numbers that remain give the rest
abbrev pub invariant-loop-t : goal.invariant-loop-t
invariant-loop-t l = record {
  paths : f.spread (f.list_at l.lists) l.steps (drop l.t-index l.level) l.paths.items ≡ f.spread (f.list_at l.lists) l.steps l.level l.initial.paths.items;
  next : l.next.items ++ f.next_level (f.list_at l.lists) l.steps (drop l.t-index l.level) l.paths.items ≡ f.next_level (f.list_at l.lists) l.steps l.level l.initial.paths.items;
}
