-- The program of a state, run over the row versions of a log, gives the answer that the run of the transaction gives.
use Rattle.std.proofs.Common.{◌≡◌, inl, ℕ, zero, suc, ◌<◌, ◌≤◌, Bool, true, false, cond, List, [], ◌∷◌, ◌++◌, length, map, refl, sym, ap, ◌∙◌, subst, arith, Option, Some, None, Result, Ok, Err}
use Rattle.std.specs.Prelude.{nat_lt}
use Rattle.std.specs.List.Sorted.{IsPermutation}
use Rattle.std.specs.Option.{option_map, option_or}
use Rattle.std.proofs.lemmas.Bool.Decides.{nat_tests}
use Rattle.std.proofs.lemmas.List.{append-nil, length-map}
use Rattle.gp_base.specs.declared.cell.Cell.{Cell}
use Rattle.gp_base.specs.declared.refusal.Refusal.{Refusal}
use Rattle.gp_base.specs.declared.refusal.Refusal.TheVariants.{E25, E26, E27}
use Rattle.gp_base.specs.declared.row_id.TheConstants.{MAX_NODES}
use Rattle.gp_base.specs.Annotated.{Annotations, Database, Environment, monomials, unannotated}
use Rattle.gp_base.specs.Tokens.{Monomial}
use Rattle.gp_grammar.specs.Syntax as y
use Rattle.gp_algebra.specs.AnnotatedQueries as q
use Rattle.gp_algebra.specs.AnnotatedMeaning as qm
use Rattle.gp_algebra.specs.AnnotatedMeaning.{Derived}
use Rattle.gp_algebra.specs.Answers.{Element, answer, cells_of}
use Rattle.gp_algebra.specs.Effects.{is_over_rows, is_over_nodes}
use Rattle.gp_algebra.specs.Fitting.{select_fits}
use Rattle.gp_algebra.specs.Statements.{width_of}
use Rattle.gp_algebra.specs.QueryForms.{IsWellBuilt}
use Rattle.gp_algebra.specs.Plain as p
use Rattle.gp_algebra.specs.Reannotation.{forgotten}
use Rattle.gp_algebra.specs.Statements.{Select, Statement}
use Rattle.gp_algebra.specs.Stops.{Stop, rows, ancestry, program_stop}
use Rattle.gp_algebra.specs.WellBuilt.{is_well_built}
use Rattle.gp_exec.specs.declared.error.ExecStop.{ExecStop}
use Rattle.gp_exec.specs.declared.error.ExecStop.TheVariants as exec
use Rattle.gp_base.specs.declared.limit.TheConstants.{MAX_TABLE_ROWS, MAX_ANSWER_ROWS}
use Rattle.gp_machine.specs.Entries.{Entry, Log, log_of, statement_count}
use Rattle.gp_machine.specs.HistorySpans as machine
use Rattle.gp_machine.specs.Parameters.{Parameters}
use Rattle.gp_machine.specs.Points.{RunStop, OverRows, OverNodes, at_point, run_stop, statement_stop}
use Rattle.gp_machine.specs.Questions.{given, log_refusal, own_stop, rows_answer, stop_refusal}
use Rattle.gp_machine.specs.Runs.{run_before}
use Rattle.gp_log.specs.Parameters.{parameters}
use Rattle.gp_log.specs.LogFacts.{tables_in}
use Rattle.gp_log.specs.LogFitting.{SpansFit, statements_fit}
use Rattle.gp_versions.specs.Spans.{Versions}
use Rattle.gp_rewrite.specs.Meaning.{AreAsWide, row_of_element, unmarked}
use Rattle.gp_compose.specs.Composed.{program_at}
use Rattle.gp_compose.proofs.ProgramLemmas.{asked_program_is_built, program_is}
use Rattle.gp_prov.specs.ToPlain.{plain_program}
use Rattle.gp_prov.proofs.BuiltLemmas.{program_built}
use Rattle.gp_prov.proofs.MeaningLemmas.{HaveWidths, answers_are}
use Rattle.gp_reenact.specs.Encoding as travel
use Rattle.gp_reenact.specs.Travel as travels
use Rattle.gp_merge.proofs.BuiltLemmas.{merged_built}
use Rattle.gp_merge.proofs.Orders.{program_ordered}
use Rattle.gp_merge.proofs.RebuildingLemmas.{merged_is}
use Rattle.gp_merge.proofs.StepLemmas.{merged_stop}
use Rattle.gp_reenact.specs.Reenacting.{Reenacts, RunsOver, spans_of, stopped, transaction_at}
use Rattle.gp_reenact.specs.Programs.{merged_at}
use Rattle.gp_machine.proofs.PointReannotation.{cells_reannotated}
use Rattle.gp_reenact.proofs.StepStops.{env_is, forgets, forgetting, monoid, none_marked, past_wide, steps_stop_is}
use Rattle.gp_reenact.proofs.StopLemmas.{step_stop}
use Rattle.gp_base.proofs.SmallLemmas.{map-map}

-- ---- stops

-- the refusal of a stop, in the run of a transaction
abbrev pub refusal_at : ℕ → Stop → Refusal
refusal_at t (rows k) = E25 t k
refusal_at t (ancestry k) = E26 t k

-- a run stops in its own transaction
module _ {M : Type 0} (domain : Annotations M) (bounds : Parameters) (log : Log) (t : ℕ) (env : Environment M) where
  one_refusal : (k : ℕ) (over_rows over_nodes : Bool)
      → option_map stop_refusal (cond over_rows (Some (OverRows t k)) (cond over_nodes (Some (OverNodes t k)) None))
      ≡ option_map (refusal_at t) (option_map step_stop (cond over_rows (Some (OverRows t k)) (cond over_nodes (Some (OverNodes t k)) None)))
  one_refusal k true over_nodes = refl
  one_refusal k false true = refl
  one_refusal k false false = refl

  statement_refused : (k : ℕ) (found : Option Statement) (db : Database M)
      → option_map stop_refusal (statement_stop domain bounds t k found db) ≡ option_map (refusal_at t) (option_map step_stop (statement_stop domain bounds t k found db))
  statement_refused k None db = refl
  statement_refused k (Some statement) db = one_refusal k (is_over_rows domain bounds.rows t k statement db) (is_over_nodes domain bounds.nodes t k statement db)

  abbrev AreRefused : Option RunStop → Type 0
  AreRefused stop = option_map stop_refusal stop ≡ option_map (refusal_at t) (option_map step_stop stop)

  first_refused : (stop next : Option RunStop) → AreRefused stop → AreRefused next → AreRefused (option_or stop next)
  first_refused (Some stop) next one two = one
  first_refused None next one two = two

  pub run_refused : (k : ℕ) → AreRefused (run_stop domain bounds log t k env)
  run_refused zero = refl
  run_refused (suc k) =
      first_refused (run_stop domain bounds log t k env) (statement_stop domain bounds t (suc k) (log.statement t (suc k)) (run_before domain log t k env)) (run_refused k)
      (statement_refused (suc k) (log.statement t (suc k)) (run_before domain log t k env))

-- ---- answers

-- a program that gives the rows of a state, and stops where its run does
pub record Replays (entries : List Entry) (versions : List Versions) (point : y.Point) (select : Select) (program : p.PlainProgram) : Type 0 where
  pub known : log_refusal entries point ≡ None
  pub gives : p.program_meaning (travel.encoded (travels.past_environment unannotated versions)) program
      ≡ cells_of (answer unannotated select (at_point unannotated entries point (machine.as_of unannotated (spans_of versions))))
  pub stops : own_stop unannotated parameters entries point (machine.as_of unannotated (spans_of versions))
      ≡ option_map (refusal_at (transaction_at point)) (program_stop MAX_TABLE_ROWS MAX_NODES (travel.encoded (travels.past_environment unannotated versions)) program)

module _ {X : Type 0} (view : X → List (List Cell)) (entries : List Entry) (versions : List Versions) (point : y.Point) (select : Select) (program : p.PlainProgram)
    (replays : Replays entries versions point select program) where
  abbrev env : p.PlainEnvironment
  env = travel.encoded (travels.past_environment unannotated versions)

  abbrev elements : List (Element (Unit {0}))
  elements = answer unannotated select (at_point unannotated entries point (machine.as_of unannotated (spans_of versions)))

  abbrev expected : Result (List (Element (Unit {0}))) Refusal
  expected = rows_answer parameters entries (spans_of versions) point select

  due_is : (stop : Option Stop) → program_stop MAX_TABLE_ROWS MAX_NODES env program ≡ stop → (over : Bool) → nat_lt MAX_ANSWER_ROWS (length elements) ≡ over
      → expected ≡ given (option_or (option_map (refusal_at (transaction_at point)) stop) (cond over (Some E27) None)) elements
  due_is stop is over many =
      λ i. given (option_or (replays.known i) (option_or ((replays.stops ∙ ap (option_map (refusal_at (transaction_at point))) is) i) (cond (many i) (Some E27) None))) elements

  rows_many : length (p.program_meaning env program) ≡ length elements
  rows_many = ap length replays.gives ∙ length-map elements (λ (element : Element (Unit {0})). element.cells)

  pub found_is : (found : X) → RunsOver view (Ok found) env program → Reenacts view (Ok found) expected
  found_is found runs =
      let count : length elements ≤ MAX_ANSWER_ROWS = subst (λ n. n ≤ MAX_ANSWER_ROWS) rows_many runs.1.1 in
      let few : nat_lt MAX_ANSWER_ROWS (length elements) ≡ false = grind (arith, nat_tests) in
      subst (λ d. Reenacts view (Ok found) d) (sym (due_is None runs.0 false few))
      (subst (λ rows. IsPermutation (view found) rows) replays.gives runs.1.0)

  pub stop_is : (stop : ExecStop) → RunsOver view (Err stop) env program → Reenacts view (Err (stopped (transaction_at point) stop)) expected
  stop_is (exec.Rows j) runs =
      subst (λ d. Reenacts view (Err (stopped (transaction_at point) (exec.Rows j))) d) (sym (due_is (Some (rows j)) runs (nat_lt MAX_ANSWER_ROWS (length elements)) refl)) refl
  stop_is (exec.Ancestry j) runs =
      subst (λ d. Reenacts view (Err (stopped (transaction_at point) (exec.Ancestry j))) d) (sym (due_is (Some (ancestry j)) runs (nat_lt MAX_ANSWER_ROWS (length elements)) refl)) refl
  stop_is exec.Answer runs =
      let count : MAX_ANSWER_ROWS < length elements = subst (λ n. MAX_ANSWER_ROWS < n) rows_many runs.1 in
      let many : nat_lt MAX_ANSWER_ROWS (length elements) ≡ true = grind (arith, nat_tests) in
      subst (λ d. Reenacts view (Err (stopped (transaction_at point) exec.Answer)) d) (sym (due_is None runs.0 true many)) refl
  stop_is exec.NoMemory runs = tt

-- ---- rows of queries

-- the cells of the rows of a query are those of an answer, if the rows are its elements but for marks
cells_out : {M : Type 0} (made : List (Derived M)) (chosen : List (Element M)) → map unmarked made ≡ map row_of_element chosen
    → map (λ (row : Derived M). row.cells ++ []) made ≡ cells_of chosen
cells_out {M = M} made chosen same =
    whole made ∙ sym (map-map (λ row. row.cells) unmarked made) ∙ ap (map (λ row. row.cells)) same ∙ map-map (λ row. row.cells) row_of_element chosen
  where
    whole : (each : List (Derived M)) → map (λ (row : Derived M). row.cells ++ []) each ≡ map (λ (row : Derived M). row.cells) each
    whole [] = refl
    whole (row ∷ each) = λ i. append-nil row.cells i ∷ whole each i

-- ---- the program of a state

-- the plain program of a state is well built, and so is the merged one
module _ (entries : List Entry) (select : Select) (fit : statements_fit (tables_in entries) entries ≡ true) (fits : select_fits (tables_in entries) select ≡ true) (point : y.Point)
    (known : log_refusal entries point ≡ None) (prov : Bool) where
  pub plain_is_built : is_well_built (plain_program (width_of (tables_in entries)) prov (program_at (width_of (tables_in entries)) entries point select)) ≡ true
  plain_is_built =
      let columns = width_of (tables_in entries) in
      let is_built = asked_program_is_built (tables_in entries) entries fit point known select fits in
      program_built columns prov (program_at columns entries point select) is_built.steps (inl is_built.answer)

  pub planned_is_built : is_well_built (merged_at prov entries point select) ≡ true
  planned_is_built = merged_built (plain_program (width_of (tables_in entries)) prov (program_at (width_of (tables_in entries)) entries point select)) plain_is_built

module _ (entries : List Entry) (versions : List Versions) (select : Select) (fit : statements_fit (tables_in entries) entries ≡ true)
    (spans_fit : SpansFit (tables_in entries) (spans_of versions)) (fits : select_fits (tables_in entries) select ≡ true) where
  abbrev columns : ℕ → ℕ
  columns = width_of (tables_in entries)

  abbrev past : Environment Monomial
  past = machine.as_of monomials (spans_of versions)

  abbrev plain_past : Environment (Unit {0})
  plain_past = machine.as_of unannotated (spans_of versions)

  abbrev program : y.Point → q.Program
  program point = program_at columns entries point select

  wide : (version : ℕ) → AreAsWide columns (past version)
  wide version = past_wide entries versions fit spans_fit version

  widths : HaveWidths columns past
  widths version table = wide version table

  built : (point : y.Point) → log_refusal entries point ≡ None → IsWellBuilt columns (program point)
  built point known = asked_program_is_built (tables_in entries) entries fit point known select fits

  pub gives : (point : y.Point) → IsWellBuilt columns (program point)
      → p.program_meaning (travel.encoded (travels.past_environment unannotated versions)) (plain_program columns false (program point)) ≡ cells_of (answer unannotated select (at_point unannotated entries point plain_past))
  gives point is_built =
      ap (λ env. p.program_meaning env (plain_program columns false (program point))) (env_is versions)
      ∙ answers_are columns false past widths (program point) is_built
      ∙ cells_out (qm.program_meaning monomials past (program point)) (answer monomials select (at_point monomials entries point past))
      (program_is monomials monoid (tables_in entries) entries fit past wide (none_marked versions) point select fits)
      ∙ sym (cells_reannotated monomials unannotated forgotten forgetting past plain_past (forgets versions) entries point select)

  stops : (point : y.Point) → log_refusal entries point ≡ None
      → own_stop unannotated parameters entries point plain_past
      ≡ option_map (refusal_at (transaction_at point)) (program_stop MAX_TABLE_ROWS MAX_NODES (travel.encoded (travels.past_environment unannotated versions)) (plain_program columns false (program point)))
  stops (y.as_of version) known = refl
  stops (y.after t k) known =
      run_refused unannotated parameters (log_of entries) t plain_past k
      ∙ ap (option_map (refusal_at t)) (sym (steps_stop_is entries versions fit spans_fit t k (program (y.after t k)).last (built (y.after t k) known).steps))
  stops (y.Point.commit t) known =
      run_refused unannotated parameters (log_of entries) t plain_past (statement_count t entries)
      ∙ ap (option_map (refusal_at t)) (sym (steps_stop_is entries versions fit spans_fit t (statement_count t entries) (program (y.Point.commit t)).last (built (y.Point.commit t) known).steps))

  -- the merged program replays the state
  pub planned_replays : (point : y.Point) (planned : p.PlainProgram) → planned ≡ merged_at false entries point select → log_refusal entries point ≡ None
      → Replays entries versions point select planned
  planned_replays point planned is known =
      let whole = plain_program columns false (program point) in
      let is_built = plain_is_built entries select fit fits point known false in
      let past = travel.encoded (travels.past_environment unannotated versions) in
      subst (λ (planned : p.PlainProgram). Replays entries versions point select planned) (sym is)
      (record {
        known = known;
        gives = merged_is past whole (program_ordered whole is_built) ∙ gives point (built point known);
        stops = stops point known ∙ ap (option_map (refusal_at (transaction_at point))) (sym (merged_stop MAX_TABLE_ROWS MAX_NODES past whole (program_ordered whole is_built)));
      })
