use Rattle.std.proofs.Common.{◌≡◌, ◌++◌, drop, map}
use Rattle.std.specs.Fmt.{decimal}
use Rattle.gp_ask.proofs.serial.order_lines.Given as goal

-- the transactions that remain give the other lines
abbrev pub invariant-loop-t : goal.invariant-loop-t
invariant-loop-t l = l.lines ++ map decimal (drop l.t-index l.order) ≡ map decimal l.order
