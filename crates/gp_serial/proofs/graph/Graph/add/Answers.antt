use Rattle.std.proofs.Common.{◌<◌, Bool, List, length, arith, Vec, Global}
use Rattle.gp_serial.proofs.GraphLemmas.{added}
use Rattle.gp_serial.proofs.graph.Graph.add.Goals as goal

pub returns-then-a-len-clause-edges : goal.returns-then-a-len-clause-edges
returns-then-a-len-clause-edges c = λ x y there within.
    let rows = c.self.inside.rows.items in
    let flags : Vec Bool Global → List Bool = λ v. v.items in
    let inside : c.args.a < length rows = omega (arith, c.if-a-len.true, c.len.ensures, c.self.inside.rows.ok.0) in
    added flags rows c.args.self.now c.args.a c.args.b x y c.index_mut.result.now c.set_flag.new.flags c.self.view_is c.self.invariant inside c.index_mut.ensures.value c.set_flag.ensures there within
