use Rattle.std.proofs.Common.{◌≡◌, ◌∷◌, ℕ, List, Some, refl, sym, ◌∙◌, ap, subst, length}
use Rattle.std.specs.Prelude.{slice_get}
use Rattle.gp_base.specs.declared.table.Column.{Column}
use Rattle.gp_base.specs.declared.table.Table.{Table}
use Rattle.gp_log.specs.LogFacts.{tables_in}
use Rattle.gp_log.specs.Logs.{log_view}
use Rattle.gp_versions.specs.declared.span.Span.{Span}
use Rattle.gp_dump.specs.Reading.{AreDue, verdict_from}
use Rattle.gp_dump.specs.Rules.{Sections}
use Rattle.gp_dump.proofs.ReadLemmas.{continues-err, table-fails, table-step}
use Rattle.gp_dump.proofs.RowLemmas.{are-due}
use Rattle.gp_dump.proofs.read.next_table.Goals as goal

-- the table at the place of the code is the one that is due
found-at : (catalog tables : List Table) (spans : List (List Span)) (place : ℕ) (table : Table) → slice_get catalog place ≡ Some table → catalog ≡ tables → length spans ≡ place → slice_get tables (length spans) ≡ Some table
found-at catalog tables spans place table found same count = ap (slice_get tables) count ∙ ap (λ (ts : List Table). slice_get ts place) (sym same) ∙ found

pub returns-in_err-spans-in-Ok-clause-verdict : goal.returns-in_err-spans-in-Ok-clause-verdict
returns-in_err-spans-in-Ok-clause-verdict c tables count same =
    let log = log_view c.args.log.now.entries in
    let found = found-at c.catalog.result.now (tables_in log) tables c.args.place c.table-table.result.now c.table-table.ensures c.catalog.ensures count in
    let due = subst (λ (cols : List Column). AreDue cols c.commits.result log tables) (sym c.as_slice-cols.ensures) (are-due log tables c.table-table.result.now c.commits.result found c.commits.ensures) in
    let here =
    c.in_ok-text.ensures.verdict (Sections log tables) refl
    ∙ table-step log tables c.table-table.result.now c.in_ok-text.text.now c.args.before c.in-Ok.count c.args.rest.number _ found same c.in-Ok.ensures.value in
    continues-err c.from_residual-in_err-spans-in-Ok.result _ c.in_err-spans-in-Ok.field-0.0 _ _ c.from_residual-in_err-spans-in-Ok.ensures.1 here (c.in_err-spans-in-Ok.ensures.verdict log tables due)

pub returns-in_ok-spans-in-Ok-clause-verdict : goal.returns-in_ok-spans-in-Ok-clause-verdict
returns-in_ok-spans-in-Ok-clause-verdict c tables count same =
    let log = log_view c.args.log.now.entries in
    let found = found-at c.catalog.result.now (tables_in log) tables c.args.place c.table-table.result.now c.table-table.ensures c.catalog.ensures count in
    let due = subst (λ (cols : List Column). AreDue cols c.commits.result log tables) (sym c.as_slice-cols.ensures) (are-due log tables c.table-table.result.now c.commits.result found c.commits.ensures) in
    c.in_ok-text.ensures.verdict (Sections log tables) refl
    ∙ table-step log tables c.table-table.result.now c.in_ok-text.text.now c.args.before c.in-Ok.count c.args.rest.number _ found same c.in-Ok.ensures.value
    ∙ c.in_ok-spans-in-Ok.ensures.verdict log tables due
    ∙ ap (λ (spans : List Span). verdict_from c.in_ok-spans-in-Ok.behind.bytes.now (Sections log (spans ∷ tables)) c.in_ok-spans-in-Ok.behind.number) (sym c.from_spans.ensures.spans)

pub returns-in-Err-clause-verdict : goal.returns-in-Err-clause-verdict
returns-in-Err-clause-verdict c tables count same =
    let log = log_view c.args.log.now.entries in
    let found = found-at c.catalog.result.now (tables_in log) tables c.args.place c.table-table.result.now c.table-table.ensures c.catalog.ensures count in
    table-fails log tables c.table-table.result.now c.in_ok-text.text.now c.args.before c.in-Err.stop c.args.rest.number _ _ c.at.result found same c.at.ensures
    (c.in_ok-text.ensures.verdict (Sections log tables) refl) c.in-Err.ensures.value
