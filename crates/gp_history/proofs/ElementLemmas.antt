-- Programs over versions with elements of a semiring.
use Rattle.std.proofs.Common.{◌≡◌, ℕ, zero, suc, ◌<◌, ◌≤◌, ◌==◌, ◌&&◌, true, false, cond, List, [], ◌∷◌, ◌++◌, length, get_or, take, map, refl, sym, ap, ◌∙◌, subst, arith, Result, Ok, Err}
use Rattle.std.specs.Option.{option_map}
use Rattle.std.proofs.lemmas.Bool.{and_parts, eq-eqb, eqb-true}
use Rattle.std.proofs.lemmas.List.Sorted.{IsPermutation-refl}
use Rattle.std.specs.List.Sorted.{IsPermutation}
use Rattle.gp_algebra.specs.declared.plain.ScanAt.{ScanAt}
use Rattle.gp_algebra.specs.AnnotatedQueries.{Program}
use Rattle.gp_algebra.specs.AnnotatedMeaning.{Derived, program_meaning, scanned}
use Rattle.gp_algebra.specs.Scans.{annotated_program_scans}
use Rattle.gp_algebra.specs.Stops as stops
use Rattle.gp_base.specs.declared.cell.Cell.{Cell}
use Rattle.gp_base.specs.declared.row_id.TheConstants.{MAX_NODES}
use Rattle.gp_base.specs.Annotated.{Annotated, Annotations, Environment}
use Rattle.gp_base.specs.Order.{row_cmp}
use Rattle.gp_compose.proofs.ProgramLemmas.{table_program_is_built}
use Rattle.gp_exec.specs.declared.error.ExecStop.{ExecStop}
use Rattle.gp_exec.specs.declared.error.ExecStop.TheVariants as exec
use Rattle.gp_base.specs.declared.limit.TheConstants.{MAX_ANSWER_ROWS, MAX_TABLE_ROWS}
use Rattle.gp_kexec.specs.declared.env.KEnv.{KEnv}
use Rattle.gp_kexec.specs.declared.env.KRow.{KRow}
use Rattle.gp_kexec.specs.declared.env.KScanned.{KScanned}
use Rattle.gp_kexec.specs.declared.held.Held.{Held}
use Rattle.gp_kexec.specs.AnnotatedStops.{program_stop}
use Rattle.gp_kexec.specs.Rows.{environment_view, held_view, pair_view, pairs_of, scanned_rows, stored_view}
use Rattle.gp_kexec.specs.Running.{IsSomeTableProgram, Runs, RunsTable}
use Rattle.gp_log.specs.LogFacts.{tables_in}
use Rattle.gp_log.specs.LogFitting.{SpansFit}
use Rattle.gp_machine.specs.Entries.{Entry, Log, log_of, versions_in}
use Rattle.gp_reenact.specs.Reenacting.{spans_of}
use Rattle.gp_reenact.proofs.StopLemmas.{scanned_once, step_stop}
use Rattle.gp_semiring.specs.Sums.{summed}
use Rattle.gp_versions.specs.declared.span.Span.{Span}
use Rattle.gp_versions.specs.Spans.{Versions}
use Rattle.gp_history.specs.Changes.{Publishes, maker_program, past_of, published_of, stop_within}
use Rattle.gp_history.specs.Images.{IsImage}
use Rattle.gp_history.specs.Noted.{row_view}
use Rattle.gp_history.specs.Running.{SumsOver}
use Rattle.gp_history.specs.Scanning.{AgreesOn, IsScanned}
use Rattle.gp_history.specs.Sound.{IsSound}
use Rattle.gp_history.proofs.AnnotatedScans.{program_meaning_agrees, program_stop_agrees}
use Rattle.gp_history.proofs.ChangeLemmas.{columns, program_same, some, t}
use Rattle.gp_history.proofs.CommitLemmas.{stop_none, stops_change}
use Rattle.gp_history.proofs.ImageLemmas.{published_means, published_stops}
use Rattle.gp_base.proofs.SmallLemmas.{map-map}

-- ---- scans of an environment

-- these tables were scanned
abbrev pub AreScanned : {M : Type 0} → Environment M → List ScanAt → List (KScanned M) → Type 0
AreScanned env [] [] = Unit {0}
AreScanned env [] (found ∷ others) = ⊥
AreScanned env (at ∷ scans) [] = ⊥
AreScanned env (at ∷ scans) (found ∷ others) = IsScanned env at found × AreScanned env scans others

module _ {M : Type 0} (env : Environment M) where
  found_first : (at : ScanAt) (found : KScanned M) (others : List (KScanned M)) → IsScanned env at found
      → scanned_rows (found ∷ others) at.version at.table ≡ env at.version at.table
  found_first at found others is =
      ap (λ (own : ScanAt). cond ((own.version == at.version) && (own.table == at.table)) (map stored_view found.rows) (scanned_rows others at.version at.table)) is.place
      ∙ rw (eq-eqb at.version at.version refl, eq-eqb at.table at.table refl) is.rows

  -- the first scan of a table in a version has its rows
  pub scans_found : (scans : List ScanAt) (found : List (KScanned M)) → AreScanned env scans found → AgreesOn scans (scanned_rows found) env
  scans_found [] [] are scan (k, within, is) = absurd (omega arith)
  scans_found [] (one ∷ others) are scan among = absurd are
  scans_found (at ∷ scans) [] are scan among = absurd are
  scans_found (at ∷ scans) (one ∷ others) are scan (zero, within, is) = rw (sym is) (found_first at one others are.0)
  scans_found (at ∷ scans) (one ∷ others) are scan (suc k, within, is) =
      ap (λ (own : ScanAt). cond ((own.version == scan.version) && (own.table == scan.table)) (map stored_view one.rows) (scanned_rows others scan.version scan.table)) are.0.place
      ∙ elim ((at.version == scan.version) && (at.table == scan.table)) as (λ c. ((at.version == scan.version) && (at.table == scan.table)) ≡ c
      → cond c (map stored_view one.rows) (scanned_rows others scan.version scan.table) ≡ env scan.version scan.table) [
        | true ↦ λ same.
            let parts = and_parts (at.version == scan.version) (at.table == scan.table) same in
            are.0.rows ∙ ap (λ (version : ℕ). env version at.table) (eqb-true at.version scan.version parts.0) ∙ ap (λ (table : ℕ). env scan.version table) (eqb-true at.table scan.table parts.1)
        | false ↦ λ other. scans_found scans others are.1 scan (k, omega arith, is)
      ] refl

  -- one more table
  pub scanned_more : (scans : List ScanAt) (found : List (KScanned M)) (i : ℕ) (default : ScanAt) (x : KScanned M) → i < length scans → IsScanned env (get_or scans i default) x
      → AreScanned env (take i scans) found → AreScanned env (take (suc i) scans) (found ++ x ∷ [])
  scanned_more [] found i default x less new are = absurd (omega arith)
  scanned_more (first ∷ scans) [] zero default x less new are = (new, tt)
  scanned_more (first ∷ scans) (other ∷ found) zero default x less new are = absurd are
  scanned_more (first ∷ scans) [] (suc i) default x less new are = absurd are
  scanned_more (first ∷ scans) (other ∷ found) (suc i) default x less new are = (are.0, scanned_more scans found i default x (omega arith) new are.1)

-- ---- a table that a transaction published

module _ {M : Type 0} (domain : Annotations M) (image : IsImage domain) (entries : List Entry) (versions : List Versions) (sound : IsSound entries versions) (before : ℕ) (within : before < versions_in entries) (table : ℕ) where
  abbrev spans : ℕ → List Span
  spans = spans_of versions

  abbrev log : Log
  log = log_of entries

  -- its program ends in a table
  pub asked_is_built : IsSomeTableProgram (maker_program entries before table)
  asked_is_built =
      subst (λ (program : Program). IsSomeTableProgram program) (sym (program_same entries versions sound before within table)) (
        columns entries versions sound before within table,
        table,
        table_program_is_built (tables_in entries) entries sound.statements (t entries versions sound before within table) before table (some entries versions sound before within table),
      )

  module _ (few : ℕ → List Span) (few_fit : SpansFit (tables_in entries) few) (most : ℕ) (known : Environment M) (are : (version own_table : ℕ) → known version own_table ≡ past_of domain log spans before few version own_table)
      (env : KEnv M) (agree : AgreesOn (annotated_program_scans (maker_program entries before table)) (environment_view env) known) where
    over : known ≡ past_of domain log spans before few
    over = λ i. λ version own_table. are version own_table i

    rows_are : program_meaning domain (environment_view env) (maker_program entries before table) ≡ map (scanned domain) (published_of domain log spans before few table)
    rows_are =
        program_meaning_agrees domain (environment_view env) known (maker_program entries before table) agree
        ∙ ap (λ (e : Environment M). program_meaning domain e (maker_program entries before table)) over
        ∙ ap (program_meaning domain (past_of domain log spans before few)) (program_same entries versions sound before within table)
        ∙ published_means domain image entries spans few sound.statements few_fit before (t entries versions sound before within table) before table

    stop_is : program_stop domain most MAX_NODES (environment_view env) (maker_program entries before table) ≡ option_map step_stop (stop_within domain log spans before few most)
    stop_is =
        program_stop_agrees domain (environment_view env) known most MAX_NODES (maker_program entries before table) agree
        ∙ ap (λ (e : Environment M). program_stop domain most MAX_NODES e (maker_program entries before table)) over
        ∙ ap (program_stop domain most MAX_NODES (past_of domain log spans before few)) (program_same entries versions sound before within table)
        ∙ published_stops domain image entries spans few sound.statements few_fit before (t entries versions sound before within table) before table most

    held_as : (held : List (Held M)) → map held_view held ≡ map (scanned domain) (map row_view held)
    held_as held = sym (map-map (scanned domain) row_view held)

    pub publishes : {X : Type 0} (view : X → List (Held M)) (result : Result X ExecStop) → RunsTable domain most view result env (maker_program entries before table)
        → Publishes domain log spans before few most (λ found. map row_view (view found)) table result
    publishes view (Ok found) runs = (
      stop_none (stop_within domain log spans before few most) (sym stop_is ∙ runs.0),
      subst (λ (rows : List (Annotated M)). IsPermutation rows (published_of domain log spans before few table))
          (sym (scanned_once domain (map row_view (view found)) (published_of domain log spans before few table) (sym (held_as (view found)) ∙ runs.1 ∙ rows_are)))
          (IsPermutation-refl (published_of domain log spans before few table)),
    )
    publishes view (Err (exec.Rows j)) runs = stops_change domain entries spans before few most (stops.rows j) (sym stop_is ∙ runs)
    publishes view (Err (exec.Ancestry j)) runs = stops_change domain entries spans before few most (stops.ancestry j) (sym stop_is ∙ runs)
    publishes view (Err exec.Answer) runs = absurd runs
    publishes view (Err exec.NoMemory) runs = tt

-- ---- sums

-- a run over the scans that a program has asked for
pub sums_are : {K : Type 0} (domain : Annotations K) (plus : K → K → K) {X : Type 0} (view : X → List (KRow K)) (result : Result X ExecStop) (env : KEnv K) (other : Environment K) (program : Program)
    → AgreesOn (annotated_program_scans program) (environment_view env) other → Runs domain view plus result env program → SumsOver domain plus (λ found. map pair_view (view found)) result other program
sums_are domain plus view result env other program agree runs = by result runs
  where
    rows : program_meaning domain (environment_view env) program ≡ program_meaning domain other program
    rows = program_meaning_agrees domain (environment_view env) other program agree

    stop : program_stop domain MAX_TABLE_ROWS MAX_NODES (environment_view env) program ≡ program_stop domain MAX_TABLE_ROWS MAX_NODES other program
    stop = program_stop_agrees domain (environment_view env) other MAX_TABLE_ROWS MAX_NODES program agree

    sums : summed row_cmp plus (pairs_of (program_meaning domain (environment_view env) program)) ≡ summed row_cmp plus (pairs_of (program_meaning domain other program))
    sums = ap (λ (all : List (Derived _)). summed row_cmp plus (pairs_of all)) rows

    by : (result : Result _ ExecStop) → Runs domain view plus result env program → SumsOver domain plus (λ found. map pair_view (view found)) result other program
    by (Ok found) runs = (sym stop ∙ runs.0, (runs.1.0 ∙ sums, subst (λ (all : List (List Cell × _)). length all ≤ MAX_ANSWER_ROWS) sums runs.1.1))
    by (Err (exec.Rows j)) runs = sym stop ∙ runs
    by (Err (exec.Ancestry j)) runs = sym stop ∙ runs
    by (Err exec.Answer) runs = (sym stop ∙ runs.0, subst (λ (all : List (List Cell × _)). MAX_ANSWER_ROWS < length all) sums runs.1)
    by (Err exec.NoMemory) runs = tt
