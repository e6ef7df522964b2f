use Rattle.std.proofs.Common.{◌≡◌, ◌+◌, ◌-◌, ◌∙◌, ℕ, suc, List, ap, arith, sym}
use Rattle.gp_serial.specs.PathForms.{list_at, next_level, spread, paths_from}
use Rattle.gp_serial.proofs.pair_cycle.paths_to.Goals as goal

pub loop-steps-preserved : goal.loop-steps-preserved
loop-steps-preserved c =
    let from = list_at c.args.lists.now in
    let steps = c.loop-steps.steps in
    let level = c.loop-steps.level.items in
    let paths = c.loop-steps.paths.items in
    let more = c.args.most - 1 - steps in
    let one : c.args.most - steps ≡ suc more = omega (arith, c.loop-steps-test.true) in
    let fewer : c.args.most - (steps + 1) ≡ more = omega arith in
    let next : steps + 1 ≡ suc steps = omega arith in
    let later : c.in_ok-level.level.items ≡ next_level from (suc steps) level paths =
    c.in_ok-level.ensures.next ∙ ap (λ (own : List ℕ). next_level from (steps + 1) own paths) c.deref.ensures.value ∙ ap (λ n. next_level from n level paths) next in
    let now : c.next_level.new.paths.items ≡ spread from (suc steps) level paths =
    c.in_ok-level.ensures.paths ∙ ap (λ (own : List ℕ). spread from (steps + 1) own paths) c.deref.ensures.value ∙ ap (λ n. spread from n level paths) next in
    ap (λ n. paths_from from n (steps + 1) c.in_ok-level.level.items c.next_level.new.paths.items) fewer
    ∙ ap (λ n. paths_from from more n c.in_ok-level.level.items c.next_level.new.paths.items) next
    ∙ (λ i. paths_from from more (suc steps) (later i) (now i))
    ∙ ap (λ n. paths_from from n steps level paths) (sym one)
    ∙ c.loop-steps.invariant
