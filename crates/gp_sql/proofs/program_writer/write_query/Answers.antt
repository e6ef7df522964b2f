use Rattle.std.proofs.Common.{◌≡◌, ◌∙◌, IfOk, ap, subst, List, ℕ, map}
use Rattle.gp_algebra.specs.declared.program.Step.{Step}
use Rattle.gp_algebra.specs.declared.plain.PQuery.{PQuery}
use Rattle.gp_algebra.specs.PlainViews.{query_view, step_view}
use Rattle.gp_sql.specs.declared.query_types.StepType.{StepType}
use Rattle.gp_sql.specs.NamedQueries.{known_types, translated}
use Rattle.gp_sql.specs.StepLists.{types_after}
use Rattle.gp_sql.specs.Types.{no_types, query_types}
use Rattle.gp_sql.specs.WrittenQueries.{Writes, WritesSteps, assembled}
use Rattle.gp_sql.proofs.WriterLemmas.{whole-text}
use Rattle.gp_sql.proofs.program_writer.write_query.Goals as goal

pub returns : goal.returns
returns c =
    let tables = c.args.catalog.now in
    let steps = c.args.program.now.steps in
    let last = query_view c.args.program.now.last in
    let known = c.push_steps.new.known in
    let due = c.as_slice-due.result.now in
    let before = c.push_steps.new.before.items in
    let later = c.push_query.new.before.items in
    let body = c.push_query.new.body.items in
    let first =
    subst (λ (all : List (Step PQuery)). WritesSteps tables (map step_view all) known c.in_ok-n.n c.new-before.result.items before) c.as_slice.ensures c.in_ok-n.ensures in
    let writes = subst (λ (start : List ℕ). WritesSteps tables (map step_view steps) known c.in_ok-n.n start before) c.new-before.ensures.items first in
    let types =
    c.as_slice-due.ensures
    ∙ c.in_ok-due.ensures
    ∙ ap (λ (known : List StepType). known_types (query_types tables (types_after known no_types) last)) c.as_slice-2.ensures in
    let second =
    subst (λ (known : List StepType). Writes tables (translated tables (types_after known no_types) due last c.in_ok-n.n) c.in_ok-push_query.field-0 before later c.new-body.result.items body)
    c.as_slice-3.ensures c.in_ok-push_query.ensures in
    let body-writes =
    subst (λ (start : List ℕ). Writes tables (translated tables (types_after known no_types) due last c.in_ok-n.n) c.in_ok-push_query.field-0 before later start body)
    c.new-body.ensures.items second in
    let text =
    (λ i. assembled (c.deref.ensures.value i) (c.deref-2.ensures.value i))
    ∙ whole-text tables (map step_view steps) last known due c.in_ok-n.n c.in_ok-push_query.field-0 before later body writes types body-writes in
    subst (λ (z : List ℕ). IfOk c.assembled.result (λ text. text.items ≡ z)) text c.assembled.ensures
