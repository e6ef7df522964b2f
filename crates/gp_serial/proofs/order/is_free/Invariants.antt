use Rattle.std.proofs.Common.{◌≡◌, drop}
use Rattle.gp_serial.specs.Graphs as s
use Rattle.gp_serial.specs.Relations.{is_edge}
use Rattle.gp_serial.proofs.order.is_free.Given as goal

-- the numbers that remain decide
abbrev pub invariant-loop-other : goal.invariant-loop-other
invariant-loop-other l = s.is_free (is_edge l.graph) (drop l.other-index l.left) l.t ≡ s.is_free (is_edge l.graph) l.left l.t
