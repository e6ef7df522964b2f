use Rattle.std.proofs.Common.{true, length, take}
use Rattle.gp_serial.specs.PathForms as f
use Rattle.gp_serial.proofs.pair_cycle.insert_each.Given as goal

-- the cycles of the numbers so far were inserted
abbrev pub invariant-loop-b : goal.invariant-loop-b
invariant-loop-b l = f.Inserts l.most (f.cycles_to (f.list_at l.before) (f.list_at l.after) (length l.before) l.to_a (take l.b-index l.backs)) l.initial.cycles.keys l.cycles.keys l.lines true
