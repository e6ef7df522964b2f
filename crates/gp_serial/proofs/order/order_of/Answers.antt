use Rattle.std.proofs.Common.{◌≡◌, ◌+◌, ◌-◌, ℕ, suc, List, ◌++◌, length, Some, None, ap, sym, subst, ◌∙◌, arith}
use Rattle.std.specs.Prelude.{find}
use Rattle.gp_serial.specs.Graphs.{is_free, ordered}
use Rattle.gp_serial.specs.Relations.{is_edge}
use Rattle.gp_serial.proofs.OrderLemmas.{order_stops, order_turns, without}
use Rattle.gp_serial.proofs.order.order_of.Goals as goal

pub returns-in-None : goal.returns-in-None
returns-in-None c =
    let edge = is_edge c.args.graph.now in
    let left = c.loop.left.items in
    let none : find (is_free edge left) left ≡ None = sym (subst (λ (list : List ℕ). None ≡ find (is_free edge list) list) c.deref.ensures.value c.in-None.ensures) in
    sym (order_stops edge c.loop.order.items left (length c.args.all.now - c.loop.counter) none) ∙ c.loop.invariant

pub loop-preserved : goal.loop-preserved
loop-preserved c =
    let edge = is_edge c.args.graph.now in
    let left = c.loop.left.items in
    let t = c.in-Some.t in
    let count = length c.args.all.now - c.loop.counter in
    let more = length c.args.all.now - (c.loop.counter + 1) in
    let one : count ≡ suc more = omega (arith, c.loop-test.true) in
    let found : find (is_free edge left) left ≡ Some t = sym (subst (λ (list : List ℕ). Some t ≡ find (is_free edge list) list) c.deref.ensures.value c.in-Some.ensures) in
    let others : c.in_ok-left-in-Some.left.items ≡ without t left = c.in_ok-left-in-Some.ensures ∙ ap (without t) c.deref-in-Some.ensures.value in
    (λ i. c.in_ok-push-in-Some.ensures.items i ++ ordered edge more (others i)) ∙ order_turns edge c.loop.order.items left count more t one found ∙ c.loop.invariant
