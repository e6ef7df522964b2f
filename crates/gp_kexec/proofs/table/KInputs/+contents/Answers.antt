use Rattle.std.proofs.Common.{◌≡◌, IfOk, List, map, sym, ap, subst, ◌∙◌}
use Rattle.std.specs.Option.{option_map}
use Rattle.gp_algebra.specs.AnnotatedQueries as q
use Rattle.gp_algebra.specs.AnnotatedMeaning.{Derived, meaning}
use Rattle.gp_algebra.specs.QueryViews.{annotated_view, change_view}
use Rattle.gp_algebra.specs.declared.annotated.AQuery.{AQuery}
use Rattle.gp_algebra.specs.declared.annotated.Change.{Change}
use Rattle.gp_expr.specs.Views.{cond_view, expr_view}
use Rattle.gp_expr.specs.declared.expr.Expr.{Expr}
use Rattle.std.specs.declared.option.Option.{Option}
use Rattle.gp_kexec.specs.Evaluating.{changed_by, held_after}
use Rattle.gp_kexec.specs.Rows.{environment_view, held_view}
use Rattle.gp_kexec.specs.Valuing.{values_in}
use Rattle.gp_kexec.proofs.PublishingLemmas.{published_same}
use Rattle.gp_kexec.proofs.TableLemmas.{filtered_is, scanned_is}
use Rattle.gp_kexec.proofs.table.KInputs.+contents.Goals as goal

pub published-returns : goal.published-returns
published-returns g t c =
    subst (λ (found : List (Derived g.row.K.Denot)). IfOk c.publish.result (λ rows. map held_view rows.items ≡ found))
    (published_same (map held_view c.deref.result.now) _ (map held_view c.deref-2.result.now) _ (map held_view c.deref-3.result.now) _
    (ap (map held_view) c.deref.ensures.value ∙ c.in_ok-base.ensures) (ap (map held_view) c.deref-2.ensures.value ∙ c.in_ok-mine.ensures) (ap (map held_view) c.deref-3.ensures.value ∙ c.in_ok-later.ensures))
    c.publish.ensures

pub table-returns-in-Scan : goal.table-returns-in-Scan
table-returns-in-Scan g t c =
    let k = g.K.Semiring in
    let kind = values_in k c.args.self.now.valuation.now in
    let env = environment_view c.args.self.now.env.now in
    subst (λ (query : AQuery). IfOk c.scanned_rows.result (λ rows. map held_view rows.items ≡ meaning kind (held_after c.args.self.now.steps.now) env (annotated_view query))) (sym c.in-Scan.is)
    (subst (λ (found : List (Derived g.row.K.Denot)). IfOk c.scanned_rows.result (λ rows. map held_view rows.items ≡ found))
    (scanned_is kind c.scan.result.now (env c.in-Scan.version c.in-Scan.table) c.scan.ensures) c.scanned_rows.ensures)

pub table-returns-in_ok-table-in-Filter : goal.table-returns-in_ok-table-in-Filter
table-returns-in_ok-table-in-Filter g t c =
    let k = g.K.Semiring in
    let meant = λ (query : AQuery).
    meaning (values_in k c.args.self.now.valuation.now) (held_after c.args.self.now.steps.now) (environment_view c.args.self.now.env.now) (annotated_view query) in
    subst (λ (query : AQuery). map held_view c.filtered.result.items ≡ meant query) (sym c.in-Filter.is)
    (filtered_is (cond_view c.in-Filter.cond) c.filtered.result.items c.in_ok-table-in-Filter.field-0.items (meant c.in-Filter.input.value) c.filtered.ensures
    (c.in_ok-table-in-Filter.ensures ∙ ap meant c.deref.ensures))

pub table-returns-in-Project : goal.table-returns-in-Project
table-returns-in-Project g t c =
    let k = g.K.Semiring in
    let kind = values_in k c.args.self.now.valuation.now in
    let meant = meaning kind (held_after c.args.self.now.steps.now) (environment_view c.args.self.now.env.now) in
    let change = option_map change_view c.in-Project.change in
    subst (λ (query : AQuery). IfOk c.updated.result (λ rows. map held_view rows.items ≡ meant (annotated_view query))) (sym c.in-Project.is)
    (subst (λ (exprs : List Expr). IfOk c.updated.result (λ rows. map held_view rows.items ≡ meant (q.project (annotated_view c.in-Project.input.value) (map expr_view exprs) change))) c.as_slice.ensures
    (subst (λ (input : AQuery). IfOk c.updated.result (λ rows. map held_view rows.items ≡ meant (q.project (annotated_view input) (map expr_view c.as_slice.result.now) change))) c.deref-in-Project.ensures c.updated.ensures))

pub updated-returns-in_ok-token-in-Some : goal.updated-returns-in_ok-token-in-Some
updated-returns-in_ok-token-in-Some g t c =
    let k = g.K.Semiring in
    let kind = values_in k c.args.self.now.valuation.now in
    let meant = meaning kind (held_after c.args.self.now.steps.now) (environment_view c.args.self.now.env.now) in
    let exprs = map expr_view c.args.exprs.now in
    let cond = cond_view c.in-Some.change.cond in
    let rows = ap (map held_view) c.deref.ensures.value ∙ c.in_ok-rows-in-Some.ensures in
    subst (λ (change : Option Change). IfOk c.changed_rows.result (λ rows. map held_view rows.items ≡ meant (q.project (annotated_view c.args.input.now) exprs (option_map change_view change)))) (sym c.in-Some.is)
    (subst (λ (found : List (Derived g.row.K.Denot)). IfOk c.changed_rows.result (λ rows. map held_view rows.items ≡ found))
    (λ i. map (changed_by k.times_of (c.in_ok-token-in-Some.ensures i) exprs cond) (rows i)) c.changed_rows.ensures)
