use Rattle.std.proofs.Common.{◌≡◌, drop}
use Rattle.std.specs.Prelude.{find}
use Rattle.gp_serial.specs.Graphs as s
use Rattle.gp_serial.specs.Relations.{is_edge}
use Rattle.gp_serial.proofs.order.first_free.Given as goal

-- the numbers that remain decide
abbrev pub invariant-loop-t : goal.invariant-loop-t
invariant-loop-t l = find (s.is_free (is_edge l.graph) l.left) (drop l.t-index l.left) ≡ find (s.is_free (is_edge l.graph) l.left) l.left
