-- The program of a state over the annotated versions that it needs gives the answer with its monomials, and stops where the run does.
use Rattle.std.proofs.Common.{◌≡◌, inl, inr, ℕ, zero, suc, ◌<◌, ◌≤◌, ◌==◌, ◌⊎◌, Bool, true, false, cond, List, [], ◌∷◌, ◌++◌, map, refl, sym, ap, ◌∙◌, subst, arith, Some, None, Contains, nat_le}
use Rattle.std.specs.List.{AllByRecursion}
use Rattle.std.specs.Option.{option_map}
use Rattle.std.proofs.Math.Nat.{eq-or-lt_of_le}
use Rattle.std.proofs.lemmas.Bool.Decides.{nat_tests}
use Rattle.gp_base.specs.declared.cell.Cell.TheVariants as cell
use Rattle.gp_base.specs.declared.row_id.TheConstants.{MAX_NODES}
use Rattle.gp_base.specs.Annotated.{Annotated, Annotations, Database, Environment, monomials}
use Rattle.gp_base.specs.Tokens.{Monomial}
use Rattle.gp_grammar.specs.Syntax as y
use Rattle.gp_algebra.specs.AnnotatedQueries as q
use Rattle.gp_algebra.specs.AnnotatedMeaning as qm
use Rattle.gp_algebra.specs.AnnotatedQueries.{Query, QueryStep}
use Rattle.gp_algebra.specs.AnnotatedMeaning.{Derived}
use Rattle.gp_algebra.specs.Answers.{Element, answer}
use Rattle.gp_algebra.specs.Fitting.{select_fits}
use Rattle.gp_algebra.specs.Statements.{width_of}
use Rattle.gp_algebra.specs.Plain as p
use Rattle.gp_algebra.specs.QueryForms.{HasSteps, IsWellBuilt}
use Rattle.gp_algebra.specs.AnnotatedQueries.{step_table}
use Rattle.gp_algebra.specs.Scans.{AgreeOn, annotated_program_scans, annotated_query_scans, annotated_steps_scans, program_scans, query_scans, steps_scans}
use Rattle.gp_algebra.specs.Statements.{Select}
use Rattle.gp_algebra.specs.Stops.{program_stop}
use Rattle.gp_algebra.specs.WellBuilt.{is_well_built}
use Rattle.gp_algebra.specs.declared.plain.ScanAt.{ScanAt}
use Rattle.gp_compose.specs.Composed.{composed, program_at}
use Rattle.gp_compose.proofs.ProgramLemmas.{asked_program_is_built, composed_step_is, program_is}
use Rattle.gp_compose.proofs.ScanLemmas.{scans_are_needed}
use Rattle.gp_base.specs.declared.limit.TheConstants.{MAX_TABLE_ROWS}
use Rattle.gp_log.specs.Parameters.{parameters}
use Rattle.gp_log.specs.LogFacts.{tables_in}
use Rattle.gp_machine.specs.Annotating.{annotated, annotation_of, computed}
use Rattle.gp_machine.specs.Committed.{cleared}
use Rattle.gp_machine.specs.Entries.{Entry, Log, log_of, statement_count, versions_in}
use Rattle.gp_machine.specs.Points.{at_point, run_stop}
use Rattle.gp_machine.specs.Questions.{log_refusal, needed_version, own_stop}
use Rattle.gp_machine.specs.Runs.{at_commit}
use Rattle.gp_prov.specs.Encoding.{encoded, encoded_row}
use Rattle.gp_prov.specs.ToPlain.{plain_query, plain_last, plain_program, plain_step}
use Rattle.gp_prov.proofs.BuiltLemmas.{program_built}
use Rattle.gp_prov.proofs.MeaningLemmas.{HaveWidths, answers_are, rows_between, steps_are}
use Rattle.gp_reenact.specs.Reenacting.{spans_of, transaction_at}
use Rattle.gp_reenact.proofs.ReplayLemmas.{refusal_at, run_refused}
use Rattle.gp_reenact.proofs.StopLemmas.{gives_run, program_stops, step_stop}
use Rattle.gp_rewrite.specs.Meaning.{AreAsWide, row_of_element, unmarked}
use Rattle.gp_versions.specs.declared.span.Span.{Span}
use Rattle.gp_versions.specs.Spans.{Versions, holds_at, is_before_end, spans_at}
use Rattle.gp_history.specs.Agreement.{occurrence}
use Rattle.gp_history.specs.Sound.{IsSound}
use Rattle.gp_history.proofs.TableLemmas.{held_rows, none_marked, wide_rows}
use Rattle.gp_base.proofs.SmallLemmas.{map-map, not_eq}
use Rattle.std.proofs.lemmas.Bool.{and_parts}
use Rattle.gp_reenact.proofs.StepStops.{monoid}

-- ---- versions that were computed stay

module _ {M : Type 0} (domain : Annotations M) (log : Log) (spans : ℕ → List Span) where
  pub computed_stays : (w n v : ℕ) → v ≤ w → w ≤ n → computed domain log spans n v ≡ computed domain log spans w v
  computed_stays w zero v l m = let same : w ≡ zero = omega arith in ap (λ u. computed domain log spans u v) (sym same)
  computed_stays w (suc n) v l m = by (eq-or-lt_of_le m) (λ less. computed_stays w n v l less)
    where
      later : (db : Database M) (b : Bool) → b ≡ false → cond b db (computed domain log spans n v) ≡ computed domain log spans n v
      later db true is = absurd (cc)
      later db false is = refl

      by : (w ≡ suc n) ⊎ (w < suc n) → (w ≤ n → computed domain log spans n v ≡ computed domain log spans w v) → computed domain log spans (suc n) v ≡ computed domain log spans w v
      by (inl same) earlier = ap (λ u. computed domain log spans u v) (sym same)
      by (inr less) earlier =
          later (cleared (at_commit domain log (log.committer (suc n)) n (annotated domain spans (computed domain log spans n)))) (v == suc n) (not_eq v (suc n) (omega arith))
          ∙ earlier (omega arith)

  -- the rows of a version are annotated once its version is computed
  pub rows_stay : (w n version table : ℕ) → version ≤ w → w ≤ n → annotated domain spans (computed domain log spans n) version table ≡ annotated domain spans (computed domain log spans w) version table
  rows_stay w n version table l m = go (spans table)
    where
      begun : (span : Span) → holds_at version span ≡ true → span.from ≤ version
      begun span holds = within span.from version (and_parts (nat_le span.from version) (is_before_end version span.to) holds).0
        where
          within : (a b : ℕ) → nat_le a b ≡ true → a ≤ b
          within a b e = grind (arith, nat_tests)

      row : ℕ → Span → Annotated M
      row u span = record { identity = span.id; cells = span.row; mark = false; annotation = annotation_of domain span.id (computed domain log spans u span.from table) }

      go : (all : List Span) → map (row n) (spans_at version all) ≡ map (row w) (spans_at version all)
      go [] = refl
      go (span ∷ all) = by (holds_at version span) refl (go all)
        where
          by : (b : Bool) → holds_at version span ≡ b → map (row n) (spans_at version all) ≡ map (row w) (spans_at version all)
              → map (row n) (cond b (span ∷ spans_at version all) (spans_at version all)) ≡ map (row w) (cond b (span ∷ spans_at version all) (spans_at version all))
          by true holds others =
              let from = begun span holds in
              (λ i. record { identity = span.id; cells = span.row; mark = false; annotation = annotation_of domain span.id (computed_stays w n span.from (omega arith) m i table) } ∷ others i)
          by false holds others = others

-- ---- the scans of a program with system columns

module _ (columns of_step : ℕ → ℕ) (prov : Bool) where
  scans_kept : (query : Query) → query_scans (plain_query columns of_step prov query) ≡ annotated_query_scans query
  scans_kept (q.scan table version) = refl
  scans_kept (q.step j) = refl
  scans_kept (q.select query c) = scans_kept query
  scans_kept (q.project query exprs change) = scans_kept query
  scans_kept (q.product left right) = λ i. scans_kept left i ++ scans_kept right i
  scans_kept (q.union left right) = λ i. scans_kept left i ++ scans_kept right i
  scans_kept (q.given t k rows) = refl
  scans_kept (q.new_rows t k b (q.project query exprs change)) = scans_kept query
  scans_kept (q.new_rows t k b (q.scan table version)) = refl
  scans_kept (q.new_rows t k b (q.step j)) = refl
  scans_kept (q.new_rows t k b (q.select query c)) = scans_kept (q.select query c)
  scans_kept (q.new_rows t k b (q.product left right)) = scans_kept (q.product left right)
  scans_kept (q.new_rows t k b (q.union left right)) = scans_kept (q.union left right)
  scans_kept (q.new_rows t k b (q.given u l rows)) = refl
  scans_kept (q.new_rows t k b (q.new_rows u l c query)) = scans_kept (q.new_rows u l c query)
  scans_kept (q.new_rows t k b (q.publish base mine later)) = scans_kept (q.publish base mine later)
  scans_kept (q.publish base mine later) = λ i. scans_kept base i ++ (scans_kept mine i ++ scans_kept later i)

  last_kept : (query : Query) → query_scans (plain_last columns of_step prov query) ≡ annotated_query_scans query
  last_kept (q.project query exprs None) = scans_kept query
  last_kept (q.project query exprs (Some change)) = scans_kept (q.project query exprs (Some change))
  last_kept (q.union left right) = λ i. last_kept left i ++ last_kept right i
  last_kept (q.scan table version) = refl
  last_kept (q.step j) = refl
  last_kept (q.select query c) = scans_kept (q.select query c)
  last_kept (q.product left right) = scans_kept (q.product left right)
  last_kept (q.given t k rows) = refl
  last_kept (q.new_rows t k b query) = scans_kept (q.new_rows t k b query)
  last_kept (q.publish base mine later) = scans_kept (q.publish base mine later)

  steps_kept : (steps : List QueryStep) → steps_scans (map (plain_step columns of_step prov) steps) ≡ annotated_steps_scans steps
  steps_kept [] = refl
  steps_kept (step ∷ steps) = λ i. scans_kept step.query i ++ steps_kept steps i

pub program_kept : (columns : ℕ → ℕ) (prov : Bool) (program : q.Program) → program_scans (plain_program columns prov program) ≡ annotated_program_scans program
program_kept columns prov program = λ i. steps_kept columns (step_table program.steps) prov program.steps i ++ last_kept columns (step_table program.steps) prov program.last i

-- ---- rows with their monomials

occurrences : (made : List (Derived Monomial)) (chosen : List (Element Monomial)) → map unmarked made ≡ map row_of_element chosen
    → map (λ (row : Derived Monomial). row.cells ++ cell.Mono row.annotation ∷ []) made ≡ map occurrence chosen
occurrences made chosen same =
    sym (map-map (λ (row : Derived Monomial). row.cells ++ cell.Mono row.annotation ∷ []) unmarked made)
    ∙ ap (map (λ (row : Derived Monomial). row.cells ++ cell.Mono row.annotation ∷ [])) same
    ∙ map-map (λ (row : Derived Monomial). row.cells ++ cell.Mono row.annotation ∷ []) row_of_element chosen

-- ---- the program of a state

module _ (entries : List Entry) (versions : List Versions) (sound : IsSound entries versions) (select : Select) (fits : select_fits (tables_in entries) select ≡ true)
    (point : y.Point) (known : log_refusal entries point ≡ None) where
  abbrev columns : ℕ → ℕ
  columns = width_of (tables_in entries)

  abbrev spans : ℕ → List Span
  spans = spans_of versions

  abbrev program : q.Program
  program = program_at columns entries point select

  module _ (n : ℕ) where
    abbrev env : Environment Monomial
    env = annotated monomials spans (computed monomials (log_of entries) spans n)

    wide : (version : ℕ) → AreAsWide columns (env version)
    wide = wide_rows monomials (tables_in entries) spans sound.spans (computed monomials (log_of entries) spans n)

    unmarked_rows : (version table : ℕ) → AllByRecursion (λ row. row.mark ≡ false) (env version table)
    unmarked_rows = none_marked monomials (tables_in entries) spans sound.spans (computed monomials (log_of entries) spans n)

    widths : HaveWidths columns env
    widths version table = wide version table

    built : IsWellBuilt columns program
    built = asked_program_is_built (tables_in entries) entries sound.statements point known select fits

    pub plain_is_built : is_well_built (plain_program columns true program) ≡ true
    plain_is_built = program_built columns true program built.steps (inl built.answer)

    -- the rows of the answer with their monomials
    pub gives : p.program_meaning (encoded true env) (plain_program columns true program) ≡ map occurrence (answer monomials select (at_point monomials entries point env))
    gives =
        answers_are columns true env widths program built
        ∙ occurrences (qm.program_meaning monomials env program) (answer monomials select (at_point monomials entries point env))
        (program_is monomials monoid (tables_in entries) entries sound.statements env wide unmarked_rows point select fits)

    steps_stop_is : (t k : ℕ) (last : Query) → HasSteps columns (record { steps = composed columns (log_of entries) t k; last = last })
        → program_stop MAX_TABLE_ROWS MAX_NODES (encoded true env) (plain_program columns true (record { steps = composed columns (log_of entries) t k; last = last }))
        ≡ option_map step_stop (run_stop monomials parameters (log_of entries) t k env)
    steps_stop_is t k last has =
        let steps : List QueryStep = composed columns (log_of entries) t k in
        program_stops true parameters (tables_in entries) entries t k env last sound.statements
        (held_rows monomials (tables_in entries) spans sound.spans (computed monomials (log_of entries) spans n))
        (gives_run true columns (step_table steps) (log_of entries) t env k
        (λ j table statement within is writes_it. composed_step_is monomials monoid (tables_in entries) entries sound.statements env wide unmarked_rows t k j table statement within is writes_it)
        (λ j. rows_between true (columns (step_table steps j)) (steps_are columns true env widths (record { steps = steps; last = last }) has j)))

-- ---- stops

module _ (entries : List Entry) (versions : List Versions) (sound : IsSound entries versions) (select : Select) (fits : select_fits (tables_in entries) select ≡ true) (n : ℕ) where
  abbrev past : Environment Monomial
  past = annotated monomials (spans_of versions) (computed monomials (log_of entries) (spans_of versions) n)

  pub stops : (point : y.Point) → log_refusal entries point ≡ None
      → own_stop monomials parameters entries point past
      ≡ option_map (refusal_at (transaction_at point)) (program_stop MAX_TABLE_ROWS MAX_NODES (encoded true past) (plain_program (width_of (tables_in entries)) true (program_at (width_of (tables_in entries)) entries point select)))
  stops (y.as_of version) known = refl
  stops (y.after t k) known =
      run_refused monomials parameters (log_of entries) t past k
      ∙ ap (option_map (refusal_at t)) (sym (steps_stop_is entries versions sound select fits (y.after t k) known n t k (program entries versions sound select fits (y.after t k) known).last (built entries versions sound select fits (y.after t k) known n).steps))
  stops (y.Point.commit t) known =
      run_refused monomials parameters (log_of entries) t past (statement_count t entries)
      ∙ ap (option_map (refusal_at t)) (sym (steps_stop_is entries versions sound select fits (y.Point.commit t) known n t (statement_count t entries) (program entries versions sound select fits (y.Point.commit t) known).last (built entries versions sound select fits (y.Point.commit t) known n).steps))

-- the versions that a state needs are enough
pub needed_suffice : (entries : List Entry) (versions : List Versions) → IsSound entries versions → (select : Select) (point : y.Point) → log_refusal entries point ≡ None
    → (n : ℕ) → needed_version entries point ≤ n → n ≤ versions_in entries
    → AgreeOn (program_scans (plain_program (width_of (tables_in entries)) true (program_at (width_of (tables_in entries)) entries point select)))
    (encoded true (annotated monomials (spans_of versions) (computed monomials (log_of entries) (spans_of versions) n)))
    (encoded true (annotated monomials (spans_of versions) (computed monomials (log_of entries) (spans_of versions) (versions_in entries))))
needed_suffice entries versions sound select point known n enough most scan among =
    let columns = width_of (tables_in entries) in
    let program = program_at columns entries point select in
    let there = subst (λ (scans : List ScanAt). Contains scans scan) (program_kept columns true program) among in
    let needed : scan.version ≤ needed_version entries point = scans_are_needed columns entries sound.sessions point known select scan there in
    let few : scan.version ≤ n = omega (arith, needed, enough) in
    sym (ap (map (encoded_row true)) (rows_stay monomials (log_of entries) (spans_of versions) n (versions_in entries) scan.version scan.table few most))
