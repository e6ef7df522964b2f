use Rattle.std.proofs.Common.{Err, Global, List, Ok, Vec, ap, arith, map, subst, suc, sym, ℕ, ◌+◌, ◌∙◌, ◌≡◌}
use Rattle.gp_algebra.specs.Statements.{width_of}
use Rattle.gp_kexec.specs.declared.held.Held.{Held}
use Rattle.gp_log.specs.LogFacts.{tables_in}
use Rattle.gp_log.specs.LogFitting.{SpanFits}
use Rattle.gp_log.specs.Logs.{log_view}
use Rattle.gp_machine.specs.Entries.{log_of}
use Rattle.gp_reenact.specs.Reenacting.{spans_of}
use Rattle.gp_versions.specs.declared.span.Span.{Span}
use Rattle.gp_versions.specs.TableSpans.{NoOverlap}
use Rattle.gp_history.specs.Changes.{ChangesTable, FindsRows, stopped}
use Rattle.gp_history.specs.Narrowing.{narrow_spans, narrow_versions}
use Rattle.gp_history.specs.Noted.{row_view}
use Rattle.gp_history.specs.declared.error.HistoryStop.{HistoryStop}
use Rattle.gp_history.proofs.ChangeLemmas.{found_change, stopped_change}
use Rattle.gp_history.proofs.NarrowedChange.{whole_fits, whole_past, whole_publishes}
use Rattle.gp_history.proofs.changes.whole_change.Goals as goal

pub rows-requires-clause-fit : goal.rows-requires-clause-fit
rows-requires-clause-fit g c =
    let domain = g.N.Annotator.domain c.args.annotator.now in
    let entries = log_view c.args.log.now.entries in
    whole_fits domain (log_of entries) (spans_of c.args.versions.now) (narrow_spans c.in_ok-whole.whole) c.args.of.now.before c.in_ok-whole.ensures.spans
    (λ table. SpanFits (width_of (tables_in entries) table)) c.requires.sound.spans

pub rows-requires-clause-known : goal.rows-requires-clause-known
rows-requires-clause-known g c =
    let domain = g.N.Annotator.domain c.args.annotator.now in
    let entries = log_view c.args.log.now.entries in
    whole_past domain (log_of entries) (spans_of c.args.versions.now) (narrow_spans c.in_ok-whole.whole) c.args.of.now.before c.in_ok-whole.ensures.spans
    c.args.known.now c.requires.known (narrow_versions c.in_ok-whole.whole) c.in_ok-whole.ensures.versions

pub returns-in-Ok : goal.returns-in-Ok
returns-in-Ok g c =
    let domain = g.N.Annotator.domain c.args.annotator.now in
    let image = g.met.N.Annotator.is_image c.args.annotator.now in
    let entries = log_view c.args.log.now.entries in
    let versions = c.args.versions.now in
    let before = c.args.of.now.before in
    let table = c.args.of.now.table in
    let whole = c.in_ok-whole.whole in
    let rows = map row_view c.in-Ok.rows.items in
    let view = λ (rows : Vec (Held g.row.A.Denot) Global). map row_view rows.items in
    let next : before + 1 ≡ suc before = omega arith in
    let apart = subst (λ (spans : List Span). NoOverlap spans) c.spans_in-all.ensures.spans c.spans_in-all.ensures.apart in
    let finds =
    subst (λ (n : ℕ). FindsRows rows (spans_of versions table) n table c.rows_change.result) next
    (subst (λ (spans : List Span). FindsRows rows spans (before + 1) table c.rows_change.result) (c.spans.ensures ∙ c.in_ok-whole.ensures.spans table)
    (subst (λ (held : List (Held g.row.A.Denot)). FindsRows (map row_view held) (map (λ span. span.now) c.spans.result.now) (before + 1) table c.rows_change.result) c.deref.ensures.value c.rows_change.ensures)) in
    let ran = whole_publishes domain (log_of entries) (spans_of versions) (narrow_spans whole) before c.in_ok-whole.ensures.spans whole.most c.in_ok-whole.ensures.most view table (Ok c.in-Ok.rows) c.in-Ok.ensures in
    found_change domain image entries versions c.requires.sound before c.requires.within table view c.in-Ok.rows ran apart c.rows_change.result finds

pub returns : goal.returns
returns g c =
    let domain = g.N.Annotator.domain c.args.annotator.now in
    let image = g.met.N.Annotator.is_image c.args.annotator.now in
    let entries = log_view c.args.log.now.entries in
    let versions = c.args.versions.now in
    let before = c.args.of.now.before in
    let table = c.args.of.now.table in
    let whole = c.in_ok-whole.whole in
    let view = λ (rows : Vec (Held g.row.A.Denot) Global). map row_view rows.items in
    let ran = whole_publishes domain (log_of entries) (spans_of versions) (narrow_spans whole) before c.in_ok-whole.ensures.spans whole.most c.in_ok-whole.ensures.most view table (Err c.in-Err.stop) c.in-Err.ensures in
    subst (λ (stop : HistoryStop). ChangesTable domain (log_of entries) (spans_of versions) before table (Err stop)) (sym (c.stopped.ensures ∙ ap (λ (t : ℕ). stopped t c.in-Err.stop) c.requires.maker))
    (stopped_change domain image entries versions c.requires.sound before c.requires.within table view c.in-Err.stop ran)
