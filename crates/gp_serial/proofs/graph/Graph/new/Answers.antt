use Rattle.std.proofs.Common.{◌≡◌, ℕ, Bool, false, map, replicate, subst, arith, Vec, Global}
use Rattle.gp_serial.proofs.GraphLemmas.{rows_square}
use Rattle.gp_serial.proofs.graph.Graph.new.Goals as goal

pub invariant_of-result : goal.invariant_of-result
invariant_of-result c =
    let rows = c.loop.rows.items in
    let count = c.args.count in
    let all : c.loop.counter ≡ count = omega (arith, c.loop-test.false, c.loop.auto.counter-end) in
    rows_square count rows (subst (λ (n : ℕ). map (λ (row : Vec Bool Global). row.items) rows ≡ replicate n (replicate count false)) all c.loop.invariant)
