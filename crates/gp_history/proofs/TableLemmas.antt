-- The program of a table that a transaction published, over annotated versions, gives the table as its commit published it, and stops where the run of the
-- transaction does.
use Rattle.std.proofs.Common.{◌≡◌, ℕ, zero, suc, ◌<◌, ◌==◌, Bool, true, false, true≢false, cond, List, length, map, refl, sym, ap, ◌∙◌, inr, Option, Some, None}
use Rattle.std.specs.List.{AllByRecursion}
use Rattle.std.specs.Option.{option_map, option_or}
use Rattle.std.proofs.lemmas.Bool.{eqb-true, ltb-true, and_parts}
use Rattle.gp_base.specs.declared.row_id.TheConstants.{MAX_NODES}
use Rattle.gp_base.specs.declared.table.Table.{Table}
use Rattle.gp_base.specs.Annotated.{Annotated, Annotations, Environment, monomials}
use Rattle.gp_base.specs.Tokens.{Monomial}
use Rattle.gp_algebra.specs.AnnotatedQueries as q
use Rattle.gp_algebra.specs.AnnotatedMeaning as qm
use Rattle.gp_algebra.specs.AnnotatedQueries.{QueryStep}
use Rattle.gp_algebra.specs.Fitting.{is_there, statement_fits}
use Rattle.gp_algebra.specs.Statements.{width_of}
use Rattle.gp_algebra.specs.Plain as p
use Rattle.gp_algebra.specs.QueryForms.{IsTableProgram}
use Rattle.gp_algebra.specs.AnnotatedQueries.{step_table}
use Rattle.gp_algebra.specs.Statements.{Statement, delete, insert, insert_select, read, update}
use Rattle.gp_algebra.specs.Stops.{program_stop}
use Rattle.gp_algebra.specs.WellBuilt.{is_well_built}
use Rattle.gp_compose.specs.Composed.{composed, last_write, writes}
use Rattle.gp_compose.specs.Composing.{published_table}
use Rattle.gp_compose.proofs.ProgramLemmas.{composed_step_is, published_table_gives, table_program_is_built}
use Rattle.gp_log.specs.Parameters.{parameters}
use Rattle.gp_log.specs.LogFacts.{tables_in}
use Rattle.gp_log.specs.LogFitting.{SpanFits, SpansFit, statements_fit}
use Rattle.gp_machine.specs.Annotating.{annotated, annotated_row}
use Rattle.gp_machine.specs.Entries.{Entry, Log, log_of, statement_count}
use Rattle.gp_machine.specs.Points.{run_stop, statement_stop}
use Rattle.gp_machine.specs.Runs.{at_commit, run_before}
use Rattle.gp_machine.proofs.Distinct.{each_filter}
use Rattle.gp_prov.specs.Encoding.{encoded, encoded_row}
use Rattle.gp_prov.specs.ToPlain.{plain_program}
use Rattle.gp_prov.proofs.BuiltLemmas.{program_built}
use Rattle.gp_prov.proofs.MeaningLemmas.{HaveWidths, rows_between, steps_are, tables_are}
use Rattle.gp_reenact.proofs.HeldLemmas.{AreHeld, IsHeld}
use Rattle.gp_reenact.proofs.StopLemmas.{gives_run, program_stops, scanned_once, step_stop}
use Rattle.gp_rewrite.specs.Meaning.{AreAsWide}
use Rattle.gp_versions.specs.declared.span.Span.{Span}
use Rattle.gp_versions.specs.Spans.{holds_at, spans_at}
use Rattle.gp_history.specs.Changes.{limited_to}
use Rattle.gp_base.proofs.SmallLemmas.{each_map, eq_itself, eq_turned}
use Rattle.gp_reenact.proofs.StepStops.{monoid}

-- ---- annotated versions

module _ {M : Type 0} (domain : Annotations M) (catalogue : List Table) (spans : ℕ → List Span) (fit : SpansFit catalogue spans) (versions : Environment M) where
  abbrev env : Environment M
  env = annotated domain spans versions

  each_row : (P : Annotated M → Type 0) (table : ℕ) → ((span : Span) → SpanFits (width_of catalogue table) span → P (annotated_row domain versions table span))
      → (version : ℕ) → AllByRecursion P (env version table)
  each_row P table holds version =
      each_map P (SpanFits (width_of catalogue table)) (annotated_row domain versions table) holds (spans_at version (spans table))
      (each_filter (SpanFits (width_of catalogue table)) (SpanFits (width_of catalogue table)) (holds_at version) (λ span at is. is) (spans table) (fit table))

  pub held_rows : (version : ℕ) → AreHeld MAX_NODES (env version)
  held_rows version table = each_row (IsHeld MAX_NODES) table (λ span is. record { cells = (and_parts _ _ is.cells).1; small = is.small }) version

  pub wide_rows : (version : ℕ) → AreAsWide (width_of catalogue) (env version)
  wide_rows version table =
      each_row (λ row. length row.cells ≡ width_of catalogue table) table (λ span is. eqb-true (length span.row) (width_of catalogue table) (and_parts _ _ is.cells).0) version

  pub none_marked : (version table : ℕ) → AllByRecursion (λ row. row.mark ≡ false) (env version table)
  none_marked version table = each_row (λ row. row.mark ≡ false) table (λ span is. refl) version

-- ---- the program of a table

module _ (entries : List Entry) (spans : ℕ → List Span) (fit : statements_fit (tables_in entries) entries ≡ true) (spans_fit : SpansFit (tables_in entries) spans)
    (versions : Environment Monomial) (t before table : ℕ) (some : zero < t) where
  abbrev columns : ℕ → ℕ
  columns = width_of (tables_in entries)

  abbrev past : Environment Monomial
  past = annotated monomials spans versions

  abbrev count : ℕ
  count = statement_count t entries

  abbrev pub program : q.Program
  program = published_table columns (log_of entries) t before table

  wide : (version : ℕ) → AreAsWide columns (past version)
  wide = wide_rows monomials (tables_in entries) spans spans_fit versions

  widths : HaveWidths columns past
  widths version table = wide version table

  built : IsTableProgram columns table program
  built = table_program_is_built (tables_in entries) entries fit t before table some

  pub plain_is_built : is_well_built (plain_program columns true program) ≡ true
  plain_is_built = program_built columns true program built.steps (inr (table, built.contents))

  means : qm.program_meaning monomials past program ≡ map (qm.scanned monomials) (at_commit monomials (log_of entries) t before past table)
  means = published_table_gives monomials monoid (tables_in entries) entries fit past wide (none_marked monomials (tables_in entries) spans spans_fit versions) t before table

  -- its rows, with identities, marks and monomials
  pub rows_are : p.program_meaning (encoded true past) (plain_program columns true program) ≡ map (encoded_row true) (at_commit monomials (log_of entries) t before past table)
  rows_are =
      let given = rows_between true (columns table) (tables_are columns true past widths table program built) in
      given.1 ∙ ap (map (encoded_row true)) (scanned_once monomials given.0 (at_commit monomials (log_of entries) t before past table) (sym given.2 ∙ means))

  -- it stops where the run does, if an INSERT may leave this many rows
  pub stop_is : (most : ℕ) → program_stop most MAX_NODES (encoded true past) (plain_program columns true program)
      ≡ option_map step_stop (run_stop monomials (limited_to most) (log_of entries) t count past)
  stop_is most =
      let steps : List QueryStep = composed columns (log_of entries) t count in
      program_stops true (limited_to most) (tables_in entries) entries t count past program.last fit
      (held_rows monomials (tables_in entries) spans spans_fit versions)
      (gives_run true columns (step_table steps) (log_of entries) t past count
      (λ j own statement within is writes_it. composed_step_is monomials monoid (tables_in entries) entries fit past wide (none_marked monomials (tables_in entries) spans spans_fit versions) t count j own statement within is writes_it)
      (λ j. rows_between true (columns (step_table steps j)) (steps_are columns true past widths program built.steps j)))

-- ---- a transaction that writes nothing

module _ {M : Type 0} (domain : Annotations M) (catalogue : List Table) (log : Log) (t : ℕ) (versions : Environment M)
    (fits : (k : ℕ) (statement : Statement) → log.statement t k ≡ Some statement → statement_fits catalogue statement ≡ true) where
  -- if a statement that writes a table writes none of these, there is no statement
  none_there : (table : ℕ) → is_there catalogue table ≡ true → ((own : ℕ) → own < length catalogue → (table == own) ≡ false) → ⊥
  none_there table there none = true≢false (sym (eq_itself table) ∙ none table (ltb-true table (length catalogue) there))

  one_stop : (k : ℕ) (found : Option Statement) → log.statement t (suc k) ≡ found → ((table : ℕ) → table < length catalogue → writes found table ≡ false)
      → statement_stop domain parameters t (suc k) found (run_before domain log t k versions) ≡ None
  one_stop k None is none = refl
  one_stop k (Some (insert table rows)) is none =
      absurd (none_there table (and_parts _ _ (fits (suc k) (insert table rows) is)).0 (λ own less. eq_turned own table (none own less)))
  one_stop k (Some (insert_select table select)) is none =
      absurd (none_there table (and_parts _ _ (fits (suc k) (insert_select table select) is)).0 (λ own less. eq_turned own table (none own less)))
  one_stop k (Some (update table sets c)) is none = refl
  one_stop k (Some (delete table c)) is none = refl
  one_stop k (Some (read select)) is none = refl

  parts : (b : Bool) (j : ℕ) (o : Option ℕ) → cond b (Some j) o ≡ None → (b ≡ false) × (o ≡ None)
  parts true j o e = absurd (cc)
  parts false j o e = (refl, e)

  -- a transaction that has no statement on any table never stops
  pub never_stops : (k : ℕ) → ((table : ℕ) → table < length catalogue → last_write log t k table ≡ None) → run_stop domain parameters log t k versions ≡ None
  never_stops zero none = refl
  never_stops (suc k) none =
      let each = λ (table : ℕ) (less : table < length catalogue). parts (writes (log.statement t (suc k)) table) (suc k) (last_write log t k table) (none table less) in
      λ i. option_or (never_stops k (λ table less. (each table less).1) i) (one_stop k (log.statement t (suc k)) refl (λ table less. (each table less).0) i)
