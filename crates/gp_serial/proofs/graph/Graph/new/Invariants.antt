use Rattle.std.proofs.Common.{◌≡◌, false, map, replicate}
use Rattle.gp_serial.proofs.graph.Graph.new.Given as goal

-- as many rows as turns, each of as many flags
abbrev pub invariant-loop : goal.invariant-loop
invariant-loop l = map (λ row. row.items) l.rows.items ≡ replicate l.counter (replicate l.count false)
