use Rattle.std.proofs.Common.{◌≡◌, ◌+◌, ◌∙◌, ◌++◌, ◌∷◌, ap, subst, sym, List, ℕ, map, drop}
use Rattle.std.specs.List.{flat_map}
use Rattle.gp_algebra.specs.Plain.{PlainStep}
use Rattle.gp_algebra.specs.PlainViews.{step_view}
use Rattle.gp_sql.specs.declared.query_types.StepType.{StepType}
use Rattle.gp_sql.specs.NamedQueries.{translated_steps}
use Rattle.gp_sql.specs.Spelling.{other_expression}
use Rattle.gp_sql.specs.StepLists.{types_after}
use Rattle.gp_sql.specs.Types.{no_types, query_types, steps_types, with_types}
use Rattle.gp_sql.specs.WrittenQueries.{WritesStep}
use Rattle.gp_sql.proofs.ListLemmas.{drop-get, item-there, one-more}
use Rattle.gp_sql.proofs.WriterLemmas.{after-more, named-kept, number-kept, types-kept}
use Rattle.gp_sql.proofs.program_writer.push_steps.Goals as goal

pub loop-step-preserved : goal.loop-step-preserved
loop-step-preserved c =
    let tables = c.args.catalog.now in
    let steps = c.args.steps.now in
    let place = c.loop-step.step-index in
    let x = c.step-item.result in
    let inv = c.loop-step.invariant in
    let types = types_after c.loop-step.known no_types in
    let later = types_after c.push.new.self no_types in
    let rest : List PlainStep = map step_view (drop (place + 1) steps) in
    let here : map step_view (drop place steps) ≡ step_view x ∷ rest =
    ap (map step_view) (drop-get steps place x (item-there steps place x c.loop-step-test.true c.step-item.is))
    ∙ ap (λ (m : ℕ). step_view x ∷ map step_view (drop m steps)) (sym (one-more place)) in
    let known : c.in_ok-types.types ≡ record { j = x.j; types = query_types tables types (step_view x).query } =
    c.in_ok-types.ensures
    ∙ ap (λ (known : List StepType). record { j = x.j; types = query_types tables (types_after known no_types) (step_view x).query }) c.as_slice-in-loop-step.ensures in
    let same : later ≡ with_types (step_view x).j (query_types tables types (step_view x).query) types =
    ap (λ (known : List StepType). types_after known no_types) c.in_ok-push.ensures.ok
    ∙ after-more c.loop-step.known c.in_ok-types.types no_types
    ∙ ap (λ (y : StepType). with_types y.j y.types types) known in
    let written =
    subst (λ (known : List StepType). WritesStep tables (types_after known no_types) (step_view x) c.loop-step.n c.in_ok-n.n c.loop-step.before.items c.push_step.new.before.items)
    c.as_slice.ensures c.in_ok-n.ensures in
    record {
      types = types-kept tables types later (step_view x) rest same _ (ap (λ (all : List PlainStep). steps_types tables all types) (sym here) ∙ inv.types);
      number =
          number-kept tables types later (step_view x) rest same c.loop-step.n c.in_ok-n.n _ written.number
          (ap (λ (all : List PlainStep). (translated_steps tables types all c.loop-step.n).next) (sym here) ∙ inv.number);
      named =
          named-kept tables types later (step_view x) rest same c.loop-step.n c.in_ok-n.n c.loop-step.before.items c.push_step.new.before.items _ written.number written.named
          (ap (λ (all : List PlainStep). c.loop-step.before.items ++ flat_map (other_expression tables) (translated_steps tables types all c.loop-step.n).before) (sym here) ∙ inv.named);
    }
