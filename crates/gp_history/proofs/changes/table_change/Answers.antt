use Rattle.std.proofs.Common.{Global, List, None, Some, Vec, ap, arith, map, subst, suc, sym, true, ℕ, ◌+◌, ◌∙◌, ◌≡◌}
use Rattle.std.specs.List.{list_any}
use Rattle.std.specs.Prelude.{◌&&◌, not}
use Rattle.gp_algebra.specs.Statements.{Statement, width_of}
use Rattle.gp_algebra.specs.Views.{statement_view}
use Rattle.gp_compose.specs.Composed.{writes}
use Rattle.gp_compose.specs.Composing.{published_table}
use Rattle.gp_kexec.specs.declared.held.Held.{Held}
use Rattle.gp_log.specs.LogFacts.{tables_in}
use Rattle.gp_log.specs.LogFitting.{SpanFits}
use Rattle.gp_log.specs.Logs.{log_view}
use Rattle.gp_machine.specs.Entries.{log_of, statement_count, version_of}
use Rattle.gp_machine.specs.Points.{version_before}
use Rattle.gp_machine.specs.Questions.{transaction_refusal}
use Rattle.gp_reenact.specs.Reenacting.{spans_of}
use Rattle.gp_versions.specs.declared.span.Span.{Span}
use Rattle.gp_history.specs.Changes.{FindsRows, is_touched}
use Rattle.gp_history.specs.Narrowing.{IsNarrow, narrow_spans, statements_upto}
use Rattle.gp_history.specs.Noted.{row_view}
use Rattle.gp_history.proofs.ChangeLemmas.{few_change, kept_few}
use Rattle.gp_history.proofs.MakerLemmas.{maker_known}
use Rattle.gp_history.proofs.NarrowingLemmas.{few_fit, versions_are}
use Rattle.gp_history.proofs.changes.table_change.Goals as goal

pub published_program-requires-clause-known : goal.published_program-requires-clause-known
published_program-requires-clause-known g c =
    let entries = log_view c.args.log.now.entries in
    subst (λ (t : ℕ). transaction_refusal t entries ≡ None) (sym c.requires.maker) (maker_known entries c.requires.sound.sessions c.args.before c.requires.within)

pub returns-then-is_untouched : goal.returns-then-is_untouched
returns-then-is_untouched g c =
    let domain = g.N.Annotator.domain c.args.annotator.now in
    let image = g.met.N.Annotator.is_image c.args.annotator.now in
    let entries = log_view c.args.log.now.entries in
    let versions = c.args.versions.now in
    let before = c.args.before in
    let table = c.args.table in
    let narrowed = c.args.narrowed.now in
    let narrow = subst (λ (t : ℕ). IsNarrow (log_of entries) t before (spans_of versions) c.args.known.now narrowed) c.requires.maker c.requires.narrowed in
    let next : suc before ≡ before + 1 = omega arith in
    let statements : List Statement = map (λ stmt. statement_view stmt.now) c.args.statements.now in
    let are = subst (λ (t : ℕ). statements ≡ statements_upto (log_of entries) t (statement_count t entries)) c.requires.maker c.requires.statements in
    let same : (not (list_any (λ statement. writes (Some statement) table) statements) && not (list_any (is_touched (suc before)) (narrow_spans narrowed table))) ≡ true =
    (λ i. not (list_any (λ statement. writes (Some statement) table) statements) && not (list_any (is_touched (next i)) (sym c.spans-spans.ensures i))) ∙ sym c.is_untouched.ensures ∙ c.if-is_untouched.true in
    kept_few domain image entries versions c.requires.sound before c.requires.within table c.args.known.now c.requires.known narrowed narrow statements are same

pub rows-requires-clause-program : goal.rows-requires-clause-program
rows-requires-clause-program g c =
    let entries = log_view c.args.log.now.entries in
    c.in_ok-published_program.ensures
    ∙ ap (λ (t : ℕ). published_table (width_of (tables_in entries)) (log_of entries) t (version_before (version_of t entries)) c.args.table) c.requires.maker

pub rows-requires-clause-fit : goal.rows-requires-clause-fit
rows-requires-clause-fit g c = λ table.
    let domain = g.N.Annotator.domain c.args.annotator.now in
    let entries = log_view c.args.log.now.entries in
    few_fit domain (log_of entries) c.args.t c.args.before (spans_of c.args.versions.now) (λ place. (c.requires.narrowed place).apart) (λ place. (c.requires.narrowed place).whole)
    c.args.known.now c.requires.known c.args.narrowed.now c.requires.narrowed (SpanFits (width_of (tables_in entries) table)) table (c.requires.sound.spans table)

pub rows-requires-clause-known : goal.rows-requires-clause-known
rows-requires-clause-known g c =
    let domain = g.N.Annotator.domain c.args.annotator.now in
    let entries = log_view c.args.log.now.entries in
    let held = versions_are domain (log_of entries) c.args.t c.args.before (spans_of c.args.versions.now) (λ place. (c.requires.narrowed place).apart) (λ place. (c.requires.narrowed place).whole)
    c.args.known.now c.requires.known c.args.narrowed.now c.requires.narrowed in
    λ version table. λ i. held i version table

pub whole_change-requires-clause-program : goal.whole_change-requires-clause-program
whole_change-requires-clause-program g c =
    let entries = log_view c.args.log.now.entries in
    c.in_ok-published_program.ensures
    ∙ ap (λ (t : ℕ). published_table (width_of (tables_in entries)) (log_of entries) t (version_before (version_of t entries)) c.args.table) c.requires.maker

pub returns-in-Ok : goal.returns-in-Ok
returns-in-Ok g c =
    let domain = g.N.Annotator.domain c.args.annotator.now in
    let image = g.met.N.Annotator.is_image c.args.annotator.now in
    let entries = log_view c.args.log.now.entries in
    let versions = c.args.versions.now in
    let before = c.args.before in
    let table = c.args.table in
    let narrowed = c.args.narrowed.now in
    let rows = map row_view c.in-Ok.rows.items in
    let view = λ (rows : Vec (Held g.row.A.Denot) Global). map row_view rows.items in
    let next : before + 1 ≡ suc before = omega arith in
    let narrow = subst (λ (t : ℕ). IsNarrow (log_of entries) t before (spans_of versions) c.args.known.now narrowed) c.requires.maker c.requires.narrowed in
    let finds =
    subst (λ (n : ℕ). FindsRows rows (narrow_spans narrowed table) n table c.rows_change.result) next
    (subst (λ (spans : List Span). FindsRows rows spans (before + 1) table c.rows_change.result) c.spans-spans.ensures
    (subst (λ (held : List (Held g.row.A.Denot)). FindsRows (map row_view held) (map (λ span. span.now) c.spans-spans.result.now) (before + 1) table c.rows_change.result) c.deref.ensures.value c.rows_change.ensures)) in
    few_change domain image entries versions c.requires.sound before c.requires.within table c.args.known.now c.requires.known narrowed narrow view c.in-Ok.rows c.in-Ok.ensures c.rows_change.result finds
