use Rattle.std.proofs.Common.{Global, List, Option, Vec, [], ap, arith, length, map, subst, suc, sym, ℕ, ◌++◌, ◌+◌, ◌<◌, ◌∷◌, ◌∙◌, ◌≡◌}
use Rattle.std.proofs.lemmas.List.{length-map}
use Rattle.std.specs.BTreeMap.{BTreeMap}
use Rattle.gp_base.specs.Identities.{Identity}
use Rattle.gp_algebra.specs.Views.{statement_view}
use Rattle.gp_log.specs.LogFacts.{tables_in}
use Rattle.gp_log.specs.Logs.{log_view}
use Rattle.gp_machine.specs.Annotating.{annotation_of, computed}
use Rattle.gp_machine.specs.Entries.{log_of}
use Rattle.gp_reenact.specs.Reenacting.{spans_of}
use Rattle.gp_versions.specs.declared.span.Span.{Span}
use Rattle.gp_history.specs.Changes.{AreChanges}
use Rattle.gp_history.proofs.CommitLemmas.{Partly, partly_all, partly_more, partly_stop}
use Rattle.gp_history.proofs.changes.changes_of.Goals as goal

pub of_commit-requires-clause-known : goal.of_commit-requires-clause-known
of_commit-requires-clause-known g c = λ table.
    let domain = g.N.Annotator.domain c.args.annotator.now in
    let entries = log_view c.args.log.now.entries in
    let spans = spans_of c.args.versions.now in
    ap length (c.requires.known.tables table)
    ∙ length-map (spans table) (λ (span : Span). annotation_of domain span.id (computed domain (log_of entries) spans c.args.before span.from table))

pub of_commit-requires-clause-statements : goal.of_commit-requires-clause-statements
of_commit-requires-clause-statements g c = ap (map (λ stmt. statement_view stmt.now)) c.deref.ensures.value ∙ c.in_ok-statements.ensures

pub table_change-requires-clause-statements : goal.table_change-requires-clause-statements
table_change-requires-clause-statements g c = ap (map (λ stmt. statement_view stmt.now)) c.deref-in-loop-table.ensures.value ∙ c.in_ok-statements.ensures

pub returns-in-Err : goal.returns-in-Err
returns-in-Err g c =
    let domain = g.N.Annotator.domain c.args.annotator.now in
    let image = g.met.N.Annotator.is_image c.args.annotator.now in
    let entries = log_view c.args.log.now.entries in
    let spans = spans_of c.args.versions.now in
    let less : c.loop-table.table < length (tables_in entries) = omega (arith, c.loop-table-test.true, c.len-table-end.ensures.len, ap length c.catalog.ensures) in
    partly_stop domain entries spans c.args.before image c.requires.sound.statements c.requires.sound.spans
    (λ (changes : Vec (Option (BTreeMap Identity g.row.A.Denot)) Global). AreChanges domain (log_of entries) spans c.args.before (length (tables_in entries)) changes.items)
    c.loop-table.table c.loop-table.changes.items c.in-Err.stop c.loop-table.invariant less c.in-Err.ensures

pub loop-table-preserved : goal.loop-table-preserved
loop-table-preserved g c =
    let domain = g.N.Annotator.domain c.args.annotator.now in
    let image = g.met.N.Annotator.is_image c.args.annotator.now in
    let entries = log_view c.args.log.now.entries in
    let spans = spans_of c.args.versions.now in
    let next : suc c.loop-table.table ≡ c.loop-table.table + 1 = omega arith in
    subst (λ (changes : List (Option (BTreeMap Identity g.row.A.Denot))). Partly domain entries spans c.args.before (c.loop-table.table + 1) changes) (sym c.in_ok-push.ensures.items)
    (subst (λ (n : ℕ). Partly domain entries spans c.args.before n (c.loop-table.changes.items ++ c.in-Ok.change ∷ [])) next
    (partly_more domain entries spans c.args.before image c.requires.sound.statements c.requires.sound.spans
    c.loop-table.table c.loop-table.changes.items c.in-Ok.change c.loop-table.invariant c.in-Ok.ensures))

pub returns : goal.returns
returns g c =
    let domain = g.N.Annotator.domain c.args.annotator.now in
    let image = g.met.N.Annotator.is_image c.args.annotator.now in
    let entries = log_view c.args.log.now.entries in
    let spans = spans_of c.args.versions.now in
    let all : c.loop-table.table ≡ length (tables_in entries) =
    omega (arith, c.loop-table-test.false, c.loop-table.auto.table-end, c.len-table-end.ensures.len, ap length c.catalog.ensures) in
    partly_all domain entries spans c.args.before image c.requires.sound.statements c.requires.sound.spans c.loop-table.table c.loop-table.changes.items c.loop-table.invariant all
