-- What becomes of a table, from the rows that its program gave.
use Rattle.std.proofs.Common.{◌≡◌, ℕ, zero, suc, ◌<◌, ◌==◌, true, false, List, sym, ap, ◌∙◌, Option, None, Some, Result, Ok, Err}
use Rattle.std.specs.BTreeMap.{BTreeMap}
use Rattle.std.specs.List.{list_any}
use Rattle.std.specs.Prelude.{◌&&◌, not}
use Rattle.std.proofs.lemmas.Bool.{and_parts}
use Rattle.gp_algebra.specs.Statements.{Statement, width_of}
use Rattle.gp_base.specs.declared.limit.TheConstants.{MAX_TABLE_ROWS}
use Rattle.gp_base.specs.Annotated.{Annotated, Annotations}
use Rattle.gp_base.specs.Identities.{Identity}
use Rattle.gp_compose.specs.Composed.{writes}
use Rattle.gp_compose.specs.Composing.{published_table}
use Rattle.gp_exec.specs.declared.error.ExecStop.{ExecStop}
use Rattle.gp_exec.specs.declared.error.ExecStop.TheVariants as exec
use Rattle.gp_log.specs.LogFacts.{tables_in}
use Rattle.gp_machine.specs.Entries.{Entry, Log, log_of, versions_in}
use Rattle.gp_machine.specs.Points.{version_before}
use Rattle.gp_reenact.specs.Reenacting.{spans_of}
use Rattle.gp_versions.specs.declared.span.Span.{Span}
use Rattle.gp_versions.specs.Spans.{Versions}
use Rattle.gp_versions.specs.TableSpans.{AreWhole, NoOverlap}
use Rattle.gp_history.specs.Changes.{ChangesTable, FindsRows, Publishes, is_touched, made, maker, maker_program, stopped}
use Rattle.gp_history.specs.Images.{IsImage}
use Rattle.gp_history.specs.Narrowing.{IsNarrow, narrow_spans, statements_upto}
use Rattle.gp_history.specs.Sound.{IsSound}
use Rattle.gp_history.specs.SpanAnnotations.{AreAnnotated}
use Rattle.gp_history.specs.declared.error.HistoryStop.{HistoryStop}
use Rattle.gp_history.specs.declared.narrowed.Narrowed.{Narrowed}
use Rattle.gp_history.proofs.CommitLemmas.{rows_change}
use Rattle.gp_history.proofs.MakerLemmas.{maker_positive, maker_version}
use Rattle.gp_history.proofs.NarrowedChange.{narrow_change}
use Rattle.gp_history.proofs.NarrowingLemmas.{all_leave, all_room, begun_away, few_fit, finds_all, kept, kept_unmarked, narrows, not_own, stays, touched_all}
use Rattle.gp_history.proofs.NarrowLemmas.{not_false}
use Rattle.gp_history.proofs.SeekingLemmas.{unwritten-all}

-- the program that the log asks for is the one of the commit that makes the version
module _ (entries : List Entry) (versions : List Versions) (sound : IsSound entries versions) (before : ℕ) (within : before < versions_in entries) (table : ℕ) where
  abbrev pub columns : ℕ → ℕ
  columns = width_of (tables_in entries)

  abbrev pub t : ℕ
  t = maker (log_of entries) before

  pub some : zero < t
  some = maker_positive entries sound.sessions before within

  pub program_same : maker_program entries before table ≡ published_table columns (log_of entries) t before table
  program_same = ap (λ (o : Option ℕ). published_table columns (log_of entries) t (version_before o) table) (maker_version entries sound.sessions before within)

module _ {M : Type 0} (domain : Annotations M) (image : IsImage domain) (entries : List Entry) (versions : List Versions) (sound : IsSound entries versions) (before : ℕ) (within : before < versions_in entries) (table : ℕ) where
  abbrev spans : ℕ → List Span
  spans = spans_of versions

  abbrev log : Log
  log = log_of entries

  -- a table that needs no look
  pub kept_change : list_any (λ statement. writes (Some statement) table) (statements_upto log (maker log before) (log.statement_count (maker log before))) ≡ false → list_any (is_touched (suc before)) (spans table) ≡ false
      → ChangesTable domain log spans before table (Ok None)
  kept_change unwritten untouched = record {
    unwritten = unwritten-all log (maker log before) (log.statement_count (maker log before)) table unwritten;
    untouched = untouched;
  }

  -- the rows of its program, looked at
  pub found_change : {X : Type 0} (view : X → List (Annotated M)) (found : X) → Publishes domain log spans before spans MAX_TABLE_ROWS view table (Ok found) → NoOverlap (spans table)
      → (result : Result (Option (BTreeMap Identity M)) HistoryStop) → FindsRows (view found) (spans table) (suc before) table result → ChangesTable domain log spans before table result
  found_change view found ran apart result finds = rows_change domain entries spans before table apart (view found) ran.1 ran.0 result finds

  module _ (known : List (List M)) (are : AreAnnotated domain log spans before known) (narrowed : Narrowed M) (narrow : IsNarrow log (maker log before) before spans known narrowed) where
    apart : (place : ℕ) → NoOverlap (spans place)
    apart place = (narrow place).apart

    whole : (place : ℕ) → AreWhole (spans place)
    whole place = (narrow place).whole

    -- a table that needs no look, by the row versions that matter
    pub kept_few : (statements : List Statement) → statements ≡ statements_upto log (maker log before) (log.statement_count (maker log before))
        → (not (list_any (λ statement. writes (Some statement) table) statements) && not (list_any (is_touched (suc before)) (narrow_spans narrowed table))) ≡ true → ChangesTable domain log spans before table (Ok None)
    kept_few statements are_statements same =
        let parts = and_parts (not (list_any (λ statement. writes (Some statement) table) statements)) (not (list_any (is_touched (suc before)) (narrow_spans narrowed table))) same in
        kept_change (ap (list_any (λ statement. writes (Some statement) table)) (sym are_statements) ∙ not_false (list_any (λ statement. writes (Some statement) table) statements) parts.0)
        (sym (touched_all domain log (maker log before) before spans apart whole known are narrowed narrow table) ∙ not_false (list_any (is_touched (suc before)) (narrow_spans narrowed table)) parts.1)

    -- the rows of its program over these, looked at
    pub few_change : {X : Type 0} (view : X → List (Annotated M)) (found : X) → Publishes domain log spans before (narrow_spans narrowed) narrowed.most view table (Ok found)
        → (result : Result (Option (BTreeMap Identity M)) HistoryStop) → FindsRows (view found) (narrow_spans narrowed table) (suc before) table result → ChangesTable domain log spans before table result
    few_change view found ran result finds =
        narrow_change domain entries spans (narrow_spans narrowed) before narrowed.most
        (stays domain log (maker log before) before spans apart whole known are narrowed narrow) (kept domain log (maker log before) before spans apart whole known are narrowed narrow)
        (narrows domain log (maker log before) before spans apart whole known are narrowed narrow) (kept_unmarked domain log (maker log before) before spans apart whole known are narrowed narrow)
        (not_own domain log (maker log before) before spans apart whole known are narrowed narrow) (all_leave domain log (maker log before) before spans apart whole known are narrowed narrow)
        (all_room domain log (maker log before) before spans apart whole known are narrowed narrow)
        table (view found) ran.1 ran.0 (apart table)
        (few_fit domain log (maker log before) before spans apart whole known are narrowed narrow
        (λ (span : Span). (span.from == suc before) ≡ true → stays domain log (maker log before) before spans apart whole known are narrowed narrow table span.id ≡ false) table
        (begun_away domain log (maker log before) before spans apart whole known are narrowed narrow table))
        (λ notes. finds_all domain log (maker log before) before spans apart whole known are narrowed narrow table notes (made domain log spans before table))
        result finds

  -- its program stopped
  pub stopped_change : {X : Type 0} (view : X → List (Annotated M)) (stop : ExecStop) → Publishes domain log spans before spans MAX_TABLE_ROWS view table (Err stop)
      → ChangesTable domain log spans before table (Err (stopped (maker log before) stop))
  stopped_change view (exec.Rows j) ran = ran
  stopped_change view (exec.Ancestry j) ran = ran
  stopped_change view exec.Answer ran = absurd ran
  stopped_change view exec.NoMemory ran = tt
