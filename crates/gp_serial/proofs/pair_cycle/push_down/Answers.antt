use Rattle.std.proofs.Common.{◌≡◌, ◌+◌, ◌-◌, ◌∙◌, ◌++◌, ◌∷◌, [], ℕ, suc, List, Some, None, ap, arith, get_or, sym}
use Rattle.std.specs.Prelude.{find}
use Rattle.gp_serial.specs.PathForms.{down, has_steps, list_at}
use Rattle.gp_serial.proofs.PairLemmas.{down_goes, down_stops}
use Rattle.gp_serial.proofs.pair_cycle.push_down.Goals as goal

pub returns-in-None : goal.returns-in-None
returns-in-None c =
    let to = list_at c.args.lists.now in
    let paths = c.args.paths.now in
    let steps = c.args.steps - 1 - c.loop-done.done in
    let one : c.args.steps - c.loop-done.done ≡ suc steps = omega (arith, c.loop-done-test.true) in
    let none : find (λ t. has_steps steps (get_or paths t None)) (to c.loop-done.last) ≡ None =
    ap (find (λ t. has_steps steps (get_or paths t None))) (sym c.list_at.ensures) ∙ sym c.next_down.ensures ∙ c.in-None.is in
    down_stops to paths (c.args.steps - c.loop-done.done) steps c.loop-done.last c.loop-done.cycle.items one none ∙ c.loop-done.invariant

pub loop-done-preserved : goal.loop-done-preserved
loop-done-preserved c =
    let to = list_at c.args.lists.now in
    let paths = c.args.paths.now in
    let next = c.in-Some.next in
    let steps = c.args.steps - 1 - c.loop-done.done in
    let one : c.args.steps - c.loop-done.done ≡ suc steps = omega (arith, c.loop-done-test.true) in
    let fewer : c.args.steps - (c.loop-done.done + 1) ≡ steps = omega arith in
    let step : find (λ t. has_steps steps (get_or paths t None)) (to c.loop-done.last) ≡ Some next =
    ap (find (λ t. has_steps steps (get_or paths t None))) (sym c.list_at.ensures) ∙ sym c.next_down.ensures ∙ c.in-Some.is in
    ap (λ (own : List ℕ). own ++ down to paths (c.args.steps - (c.loop-done.done + 1)) next) c.in_ok-push-in-Some.ensures.items
    ∙ ap (λ n. (c.loop-done.cycle.items ++ next ∷ []) ++ down to paths n next) fewer
    ∙ down_goes to paths (c.args.steps - c.loop-done.done) steps c.loop-done.last next c.loop-done.cycle.items one step
    ∙ c.loop-done.invariant
