use Rattle.gp_serial.specs.Relations.{is_edge}
use Rattle.gp_serial.specs.PathForms as f
use Rattle.gp_serial.proofs.pair_cycle.all_before.Given as goal

abbrev pub invariant-loop-t : goal.invariant-loop-t
invariant-loop-t l = f.AreLists (f.before (is_edge l.graph) l.all) l.t l.lists.items
