use Rattle.std.proofs.Common.{◌≡◌, ◌++◌, ◌-◌, length}
use Rattle.gp_serial.specs.Graphs.{ordered}
use Rattle.gp_serial.specs.Relations.{is_edge}
use Rattle.gp_serial.proofs.order.order_of.Given as goal

-- the numbers that are left give the rest of the order
abbrev pub invariant-loop : goal.invariant-loop
invariant-loop l = l.order.items ++ ordered (is_edge l.graph) (length l.all - l.counter) l.left.items ≡ ordered (is_edge l.graph) (length l.all) l.all
