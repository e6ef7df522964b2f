use Rattle.std.proofs.Common.{true, length, take}
use Rattle.gp_serial.specs.Relations.{is_edge}
use Rattle.gp_serial.specs.PathForms as f
use Rattle.gp_serial.proofs.pair_cycle.insert_all.Given as goal

-- the cycles of the numbers so far were inserted
abbrev pub invariant-loop-a : goal.invariant-loop-a
invariant-loop-a l =
    f.Inserts l.most (f.all_cycles (is_edge l.graph) l.versions l.all (f.list_at l.before) (f.list_at l.after) (length l.before) l.steps (take l.a-index l.all)) l.initial.cycles.keys l.cycles.keys l.lines true
