use Rattle.std.proofs.Common.{◌≡◌, ◌∙◌, ℕ, List, Some, ap, get_or, sym, Vec, Global}
use Rattle.std.specs.Option.{option_map}
use Rattle.std.proofs.lemmas.List.{drop_all}
use Rattle.gp_serial.specs.CycleForms.{first_cycle, first_walk}
use Rattle.gp_serial.specs.Relations.{is_edge}
use Rattle.gp_serial.proofs.CycleLemmas.{cycle_found, cycle_here}
use Rattle.gp_serial.proofs.cycle.cycle_of.Goals as goal

pub returns-in-Some : goal.returns-in-Some
returns-in-Some c =
    let edge = is_edge c.args.graph.now in
    let all = c.args.all.now in
    let count = c.args.count in
    let place = c.loop-first.first-index in
    let cycle = c.in-Some.cycle.items in
    let items : Vec ℕ Global → List ℕ = λ v. v.items in
    let found : first_walk edge all (get_or all place 0) count ≡ Some cycle = sym c.in_ok-cycle.ensures ∙ ap (option_map items) c.in-Some.is in
    sym (cycle_here edge all count place all (Some cycle) c.loop-first-test.true found) ∙ c.loop-first.invariant ∙ cycle_found edge all count c.requires

pub returns : goal.returns
returns c =
    let edge = is_edge c.args.graph.now in
    let all = c.args.all.now in
    let count = c.args.count in
    sym (ap (first_cycle edge all count) (drop_all c.loop-first.first-index all c.loop-first-test.false)) ∙ c.loop-first.invariant ∙ cycle_found edge all count c.requires
