use Rattle.std.proofs.Common.{◌≡◌, ◌+◌, ◌-◌, ◌∙◌, ℕ, suc, Bool, List, [], ◌∷◌, ◌++◌, map, Some, None, ap, sym, arith, Vec, Global}
use Rattle.std.specs.Option.{option_map}
use Rattle.gp_serial.specs.CycleForms.{first_step, reaches}
use Rattle.gp_serial.specs.Relations.{is_edge}
use Rattle.gp_serial.proofs.CycleLemmas.{first_path, level_at, walk_begins, walk_goes, walk_stops}
use Rattle.gp_serial.proofs.cycle.cycle_from.Goals as goal

pub loop-steps-init : goal.loop-steps-init
loop-steps-init c =
    let edge = is_edge c.args.graph.now in
    let all = c.args.all.now in
    let first = c.args.first in
    ap (λ (own : List ℕ). option_map (λ (others : List ℕ). own ++ others) (first_path edge all first (c.args.count - 1) first))
    (c.in_ok-push.ensures.items ∙ ap (λ (own : List ℕ). own ++ first ∷ []) c.in_ok-cycle.ensures.items)
    ∙ walk_begins edge all first c.args.count c.requires

pub returns-in-None : goal.returns-in-None
returns-in-None c =
    let edge = is_edge c.args.graph.now in
    let all = c.args.all.now in
    let first = c.args.first in
    let last = c.loop-steps.last in
    let left = c.args.count - c.loop-steps.steps in
    let steps = c.args.count - 1 - c.loop-steps.steps in
    let flags : Vec Bool Global → List Bool = λ v. v.items in
    let one : left ≡ suc steps = omega (arith, c.loop-steps-test.true) in
    let flagged : c.deref.result.now ≡ map (reaches edge all first steps) all =
    c.deref.ensures.value
    ∙ level_at edge all first flags steps (c.args.count - 1) c.in_ok-levels.levels.items c.index.result.now c.in_ok-levels.ensures (omega (arith, c.loop-steps-test.true, c.loop-steps.auto.steps)) c.index.ensures in
    let none : first_step edge last all (map (reaches edge all first steps) all) ≡ None = sym (c.in-None.ensures ∙ ap (first_step edge last all) flagged) in
    sym (walk_stops edge all first last left steps c.loop-steps.cycle.items one none) ∙ c.loop-steps.invariant

pub loop-steps-preserved : goal.loop-steps-preserved
loop-steps-preserved c =
    let edge = is_edge c.args.graph.now in
    let all = c.args.all.now in
    let first = c.args.first in
    let last = c.loop-steps.last in
    let next = c.in-Some.next in
    let left = c.args.count - c.loop-steps.steps in
    let steps = c.args.count - 1 - c.loop-steps.steps in
    let flags : Vec Bool Global → List Bool = λ v. v.items in
    let one : left ≡ suc steps = omega (arith, c.loop-steps-test.true) in
    let fewer : c.args.count - (c.loop-steps.steps + 1) ≡ steps = omega arith in
    let flagged : c.deref.result.now ≡ map (reaches edge all first steps) all =
    c.deref.ensures.value
    ∙ level_at edge all first flags steps (c.args.count - 1) c.in_ok-levels.levels.items c.index.result.now c.in_ok-levels.ensures (omega (arith, c.loop-steps-test.true, c.loop-steps.auto.steps)) c.index.ensures in
    let step : first_step edge last all (map (reaches edge all first steps) all) ≡ Some next = sym (c.in-Some.ensures ∙ ap (first_step edge last all) flagged) in
    (λ i. option_map (λ (others : List ℕ). c.in_ok-push-in-Some.ensures.items i ++ others) (first_path edge all first (fewer i) next))
    ∙ walk_goes edge all first last next left steps c.loop-steps.cycle.items one step
    ∙ c.loop-steps.invariant
