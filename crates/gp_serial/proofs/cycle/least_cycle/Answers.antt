use Rattle.std.proofs.Common.{◌≡◌, ◌+◌, ◌∙◌, ℕ, List, Some, None, ap, sym, Vec, Global}
use Rattle.std.specs.Prelude.{find}
use Rattle.std.specs.Option.{option_map}
use Rattle.gp_serial.specs.Graphs.{is_cycle, lists_of}
use Rattle.gp_serial.specs.Relations.{is_edge}
use Rattle.gp_serial.proofs.CycleLemmas.{shortest_first, shortest_here, shortest_none}
use Rattle.gp_serial.proofs.cycle.least_cycle.Goals as goal

pub returns-in-Some : goal.returns-in-Some
returns-in-Some c =
    let edge = is_edge c.args.graph.now in
    let all = c.args.all.now in
    let count = c.loop-count.count in
    let cycle = c.in-Some.cycle.items in
    let items : Vec ℕ Global → List ℕ = λ v. v.items in
    let found : find (is_cycle edge) (lists_of (count + 1) all) ≡ Some cycle = sym c.in_ok-cycle.ensures ∙ ap (option_map items) c.in-Some.is in
    sym (shortest_here edge all count (Some cycle) c.loop-count-test.true found) ∙ c.loop-count.invariant ∙ shortest_first edge all

pub loop-count-preserved : goal.loop-count-preserved
loop-count-preserved c =
    let edge = is_edge c.args.graph.now in
    let all = c.args.all.now in
    let count = c.loop-count.count in
    let items : Vec ℕ Global → List ℕ = λ v. v.items in
    let none : find (is_cycle edge) (lists_of (count + 1) all) ≡ None = sym c.in_ok-cycle.ensures ∙ ap (option_map items) c.in_default.is in
    sym (shortest_here edge all count None c.loop-count-test.true none) ∙ c.loop-count.invariant

pub returns : goal.returns
returns c =
    let edge = is_edge c.args.graph.now in
    let all = c.args.all.now in
    c.new.ensures.items ∙ sym (shortest_none edge all c.loop-count.count c.loop-count-test.false) ∙ c.loop-count.invariant ∙ shortest_first edge all
