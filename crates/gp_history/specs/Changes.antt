-- Machinery: what one commit changes.
use Rattle.std.specs.Prelude.{◌≡◌, ℕ, suc, ◌==◌, ◌||◌, ◌⊎◌, is_some, Bool, true, false, List, [], ◌∷◌, length, map, Option, Some, None, Result, Ok, Err, unwrap_or, slice_get, set, if◌then◌else◌}
use Rattle.std.specs.BTreeMap.{BTreeMap, get}
use Rattle.std.specs.List.{AllByRecursion, list_all, list_any}
use Rattle.std.specs.Option.{option_map, option_or}
use Rattle.std.specs.List.Sorted.{IsPermutation}
use Rattle.gp_base.specs.declared.refusal.Refusal.{Refusal}
use Rattle.gp_base.specs.declared.refusal.Refusal.TheVariants.{E25, E26}
use Rattle.gp_base.specs.declared.table.Table.{Table}
use Rattle.gp_base.specs.Annotated.{Annotations, Annotated, Database, Environment}
use Rattle.gp_base.specs.Identities.{Identity, identity_cmp}
use Rattle.gp_algebra.specs.AnnotatedQueries as q
use Rattle.gp_algebra.specs.AnnotatedQueries.{Program, Query}
use Rattle.gp_algebra.specs.Statements.{width_of}
use Rattle.gp_compose.specs.Composed.{last_write}
use Rattle.gp_compose.specs.Composing.{published_table}
use Rattle.gp_exec.specs.declared.error.ExecStop.{ExecStop}
use Rattle.gp_exec.specs.declared.error.ExecStop.TheVariants as exec
use Rattle.gp_log.specs.Parameters.{parameters}
use Rattle.gp_log.specs.LogFacts.{tables_in}
use Rattle.gp_machine.specs.Annotating.{annotated, annotation_of, computed}
use Rattle.gp_machine.specs.Committed.{cleared}
use Rattle.gp_machine.specs.Entries.{Entry, Log, log_of, version_of}
use Rattle.gp_machine.specs.HistorySpans.{as_of}
use Rattle.gp_machine.specs.Parameters.{Parameters}
use Rattle.gp_machine.specs.Points.{RunStop, run_stop, version_before}
use Rattle.gp_machine.specs.Questions.{difference_refusal, stop_refusal}
use Rattle.gp_machine.specs.Runs.{at_commit}
use Rattle.gp_versions.specs.declared.span.Span.{Span}
use Rattle.gp_versions.specs.Spans.{Versions}
use Rattle.gp_history.specs.Agreement.{agree, key_of, keys_agree}
use Rattle.gp_history.specs.Matching.{keys_of}
use Rattle.gp_history.specs.Noted.{first_noted, first_written}
use Rattle.gp_history.specs.declared.error.HistoryStop.{HistoryStop}
use Rattle.gp_history.specs.declared.error.HistoryStop.TheVariants.{Inconsistent, Rows, Ancestry, NoMemory}

-- the stop of a history, of a program of the transaction; a step has the number of its statement
abbrev pub stopped : ℕ → ExecStop → HistoryStop
stopped t (exec.Rows j) = Rows t j
stopped t (exec.Ancestry j) = Ancestry t j
stopped t exec.Answer = NoMemory
stopped t exec.NoMemory = NoMemory

-- ---- one table

abbrev pub ends_at : ℕ → Option ℕ → Bool
ends_at version None = false
ends_at version (Some to) = to == version

-- a span that begins or ends at a version
abbrev pub is_touched : ℕ → Span → Bool
is_touched version span = (span.from == version) || ends_at version span.to

-- the transaction has no statement that writes the table, and none of its spans begins or ends at the version
pub record IsKept (log : Log) (t version table : ℕ) (spans : List Span) : Type 0 where
  pub unwritten : last_write log t (log.statement_count t) table ≡ None
  pub untouched : list_any (is_touched version) spans ≡ false

-- whether each span that begins with the version has an annotation among these
abbrev pub is_noted : {M : Type 0} → ℕ → BTreeMap Identity M → Span → Bool
is_noted version notes span = if span.from == version then is_some (get identity_cmp notes span.id) else true

abbrev pub are_noted : {M : Type 0} → ℕ → BTreeMap Identity M → List Span → Bool
are_noted version notes spans = list_all (is_noted version notes) spans

-- the annotations of all rows, or of those that the transaction wrote, if these are enough
abbrev pub AreNotes : {M : Type 0} → List (Annotated M) → List Span → ℕ → BTreeMap Identity M → Type 0
AreNotes rows spans version notes =
    ((id : Identity) → get identity_cmp notes id ≡ first_noted id rows)
    ⊎ (((id : Identity) → get identity_cmp notes id ≡ first_written id rows) × (are_noted version notes spans ≡ true))

-- what looking at computed rows answers
abbrev pub FindsRows : {M : Type 0} → List (Annotated M) → List Span → ℕ → ℕ → Result (Option (BTreeMap Identity M)) HistoryStop → Type 0
FindsRows rows spans version table (Ok None) = ⊥
FindsRows rows spans version table (Ok (Some notes)) = (keys_agree (map key_of rows) (keys_of version spans) ≡ true) × AreNotes rows spans version notes
FindsRows rows spans version table (Err (Inconsistent u place)) = (keys_agree (map key_of rows) (keys_of version spans) ≡ false) × ((u ≡ version) × (place ≡ table))
FindsRows rows spans version table (Err (Rows t k)) = ⊥
FindsRows rows spans version table (Err (Ancestry t k)) = ⊥
FindsRows rows spans version table (Err NoMemory) = Unit {0}

-- ---- the annotations of spans

module _ {M : Type 0} (one : M) where
  -- none is known
  abbrev pub ones : List Versions → List (List M)
  ones versions = map (λ (table : Versions). map (λ (span : Span). one) table.spans) versions

  -- that of the span at a place is looked up, if the span begins with the version
  abbrev pub renewed_span : ℕ → BTreeMap Identity M → Span → ℕ → List M → List M
  renewed_span version found span at annotations =
      if span.from == version then set annotations at (unwrap_or (get identity_cmp found span.id) one) else annotations

  -- those of all spans that begin with the version
  abbrev pub renewed : ℕ → BTreeMap Identity M → List Span → List M → List M
  renewed version found [] annotations = annotations
  renewed version found (span ∷ spans) [] = []
  renewed version found (span ∷ spans) (annotation ∷ annotations) =
      (if span.from == version then unwrap_or (get identity_cmp found span.id) one else annotation) ∷ renewed version found spans annotations

  abbrev pub renewed_by : ℕ → Option (Option (BTreeMap Identity M)) → List Span → List M → List M
  renewed_by version None spans annotations = annotations
  renewed_by version (Some None) spans annotations = annotations
  renewed_by version (Some (Some found)) spans annotations = renewed version found spans annotations

  -- other tables than the one at the place keep theirs
  abbrev pub renewed_at : ℕ → ℕ → BTreeMap Identity M → List Span → List M → ℕ → List M
  renewed_at version at found spans annotations table = if table == at then renewed version found spans annotations else annotations

  -- and where its rows were found
  abbrev pub changed_at : ℕ → ℕ → Option (BTreeMap Identity M) → List Span → List M → ℕ → List M
  changed_at version at change spans annotations table = if table == at then renewed_by version (Some change) spans annotations else annotations

-- ---- the commit that makes a version

-- the limits of its run, where an INSERT may leave this many rows
abbrev pub limited_to : ℕ → Parameters
limited_to most = record parameters { rows = most }

-- the transaction that makes it
abbrev pub maker : Log → ℕ → ℕ
maker log before = log.committer (suc before)

-- the program of a table that it published
abbrev pub maker_program : List Entry → ℕ → ℕ → Program
maker_program entries before table =
    let t = maker (log_of entries) before in published_table (width_of (tables_in entries)) (log_of entries) t (version_before (version_of t entries)) table

module _ {M : Type 0} (domain : Annotations M) where
  -- the annotations that were found are those of the rows, for each span that begins with the version
  abbrev pub Finds : ℕ → BTreeMap Identity M → List Span → List (Annotated M) → Type 0
  Finds version found spans made =
      AllByRecursion (λ (span : Span). (span.from == version) ≡ true → unwrap_or (get identity_cmp found span.id) domain.one ≡ annotation_of domain span.id made) spans

  -- what becomes of a table: it is as before, or its rows were found
  abbrev pub IsChange : Log → ℕ → ℕ → ℕ → List Span → List (Annotated M) → Option (BTreeMap Identity M) → Type 0
  IsChange log t version table spans made None = IsKept log t version table spans
  IsChange log t version table spans made (Some found) = Finds version found spans made

  module _ (log : Log) (spans : ℕ → List Span) (before : ℕ) where
    -- the versions before it, of these spans
    abbrev pub past_of : (ℕ → List Span) → Environment M
    past_of few = annotated domain few (computed domain log spans before)

    abbrev pub past : Environment M
    past = past_of spans

    -- what its transaction publishes of them, and the version that it makes
    abbrev pub published_of : (ℕ → List Span) → Database M
    published_of few = at_commit domain log (maker log before) before (past_of few)

    abbrev pub published_whole : Database M
    published_whole = published_of spans

    abbrev pub made : Database M
    made = cleared published_whole

    -- the rows that the spans have
    abbrev pub held : Database M
    held = as_of domain spans (suc before)

    -- where its run over these spans stops, if an INSERT may leave this many rows
    abbrev pub stop_within : (ℕ → List Span) → ℕ → Option RunStop
    stop_within few most = run_stop domain (limited_to most) log (maker log before) (log.statement_count (maker log before)) (past_of few)

    abbrev pub maker_stop : Option RunStop
    maker_stop = run_stop domain parameters log (maker log before) (log.statement_count (maker log before)) past

    -- what running the program of a table that it published gives, over these spans and within this limit: its rows in any order, or its stop
    abbrev pub Publishes : {X : Type 0} → (ℕ → List Span) → ℕ → (X → List (Annotated M)) → ℕ → Result X ExecStop → Type 0
    Publishes few most view table (Ok found) = (stop_within few most ≡ None) × IsPermutation (view found) (published_of few table)
    Publishes few most view table (Err (exec.Rows j)) = option_map stop_refusal (stop_within few most) ≡ Some (E25 (maker log before) j)
    Publishes few most view table (Err (exec.Ancestry j)) = option_map stop_refusal (stop_within few most) ≡ Some (E26 (maker log before) j)
    Publishes few most view table (Err exec.Answer) = ⊥
    Publishes few most view table (Err exec.NoMemory) = Unit {0}

    -- what looking at one table answers
    abbrev pub ChangesTable : ℕ → Result (Option (BTreeMap Identity M)) HistoryStop → Type 0
    ChangesTable table (Ok None) = IsKept log (maker log before) (suc before) table (spans table)
    ChangesTable table (Ok (Some found)) =
        (maker_stop ≡ None) × ((agree (made table) (held table) ≡ true) × Finds (suc before) found (spans table) (made table))
    ChangesTable table (Err (Inconsistent version place)) =
        (maker_stop ≡ None) × ((agree (made table) (held table) ≡ false) × ((version ≡ suc before) × (place ≡ table)))
    ChangesTable table (Err (Rows t k)) = option_map stop_refusal maker_stop ≡ Some (E25 t k)
    ChangesTable table (Err (Ancestry t k)) = option_map stop_refusal maker_stop ≡ Some (E26 t k)
    ChangesTable table (Err NoMemory) = Unit {0}

    -- the changes of all tables, this many
    pub record AreChanges (count : ℕ) (changes : List (Option (BTreeMap Identity M))) : Type 0 where
      pub many : length changes ≡ count
      pub each : (table : ℕ) (change : Option (BTreeMap Identity M)) → slice_get changes table ≡ Some change
          → IsChange log (maker log before) (suc before) table (spans table) (made table) change

    -- the first stop of the commit: in the run of its transaction, or in the first table that differs
    abbrev pub commit_stop : List Table → Option Refusal
    commit_stop catalogue =
        option_or (option_map stop_refusal maker_stop) (difference_refusal domain parameters agree catalogue (suc before) (length catalogue) made held)
