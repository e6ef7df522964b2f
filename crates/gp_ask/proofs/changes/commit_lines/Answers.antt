use Rattle.std.proofs.Common.{◌≡◌, ◌+◌, ◌<◌, ◌++◌, ◌∙◌, ℕ, List, None, Some, ap, drop, get_or, length, subst, sym}
use Rattle.std.specs.List.{slice_get}
use Rattle.std.proofs.lemmas.List.{append_assoc}
use Rattle.gp_base.specs.declared.table.Table.{Table}
use Rattle.gp_dump.specs.Views.{tables_view}
use Rattle.gp_log.specs.LogFacts.{tables_in}
use Rattle.gp_log.specs.Logs.{log_view}
use Rattle.gp_versions.specs.declared.span.Span.{Span}
use Rattle.gp_versions.specs.Spans.{Versions}
use Rattle.gp_ask.specs.ChangeForms.{spans_texts, tables_texts}
use Rattle.gp_ask.proofs.ChangesLemmas.{tables-more}
use Rattle.gp_ask.proofs.changes.commit_lines.Goals as goal

pub loop-place-preserved : goal.loop-place-preserved
loop-place-preserved c =
    let dump = c.args.dump.now in
    let tables = tables_in (log_view dump.log.entries) in
    let place = c.loop-place.place in
    let version = c.args.version in
    let table = c.table.result.now in
    let own = c.versions-item.result in
    let there : slice_get tables place ≡ Some table = subst (λ (all : List Table). slice_get all place ≡ Some table) c.catalog.ensures c.table.ensures in
    let within : place < length dump.versions = subst (λ (all : List Versions). place < length all) c.as_slice-versions-items.ensures c.loop-place-test.true in
    let is : own ≡ get_or dump.versions place own = subst (λ (all : List Versions). own ≡ get_or all place own) c.as_slice-versions-items.ensures c.versions-item.is in
    let others = tables_texts version (drop (place + 1) tables) (tables_view (drop (place + 1) dump.versions)) in
    ap (λ (lines : List (List ℕ)). lines ++ others) (c.in_ok-push_table.ensures ∙ ap (λ (spans : List Span). c.loop-place.lines ++ spans_texts table.name version None spans) c.as_slice.ensures.spans)
    ∙ append_assoc c.loop-place.lines (spans_texts table.name version None own.spans) others
    ∙ ap (λ (lines : List (List ℕ)). c.loop-place.lines ++ lines) (sym (tables-more version tables dump.versions place table own there within is))
    ∙ c.loop-place.invariant
