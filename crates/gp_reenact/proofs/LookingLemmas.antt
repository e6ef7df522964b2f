-- What any transaction saw, and the rows by which one looks at a statement: their programs give them, and stop where the run of the transaction does.
use Rattle.std.proofs.Common.{◌≡◌, inl, inr, ℕ, suc, ◌<◌, ◌≤◌, Bool, true, false, true≢false, cond, List, [], ◌∷◌, ◌++◌, length, map, refl, sym, ap, ◌∙◌, subst, arith, Option, Some, None, Result, Ok, Err}
use Rattle.std.specs.Prelude.{◌&&◌, nat_le, nat_lt, not}
use Rattle.std.specs.List.{filter}
use Rattle.std.specs.List.Sorted.{IsPermutation}
use Rattle.std.specs.Option.{is_none, option_map, option_or}
use Rattle.std.proofs.lemmas.Bool.Decides.{nat_tests}
use Rattle.std.proofs.lemmas.List.{length-map}
use Rattle.gp_base.specs.declared.cell.Cell.{Cell}
use Rattle.gp_base.specs.declared.cell.Cell.TheVariants as cell
use Rattle.gp_base.specs.declared.refusal.Refusal.{Refusal}
use Rattle.gp_base.specs.declared.refusal.Refusal.TheVariants.{E20, E21, E22, E27}
use Rattle.gp_base.specs.declared.row_id.TheConstants.{MAX_NODES}
use Rattle.gp_base.specs.Annotated.{Annotated, Database, monomials, unannotated}
use Rattle.gp_base.specs.Identities.{Sources, no_sources, source}
use Rattle.gp_base.specs.Tokens.{Monomial}
use Rattle.gp_base.proofs.SmallLemmas.{filter-map, map-map, some_none}
use Rattle.gp_grammar.specs.Syntax as y
use Rattle.gp_expr.specs.Values.{passes}
use Rattle.gp_algebra.specs.AnnotatedMeaning as qm
use Rattle.gp_algebra.specs.AnnotatedMeaning.{Derived, scanned}
use Rattle.gp_algebra.specs.AnnotatedQueries as q
use Rattle.gp_algebra.specs.Answers.{Element, answer, cells_of}
use Rattle.gp_algebra.specs.Fitting.{select_fits}
use Rattle.gp_algebra.specs.Plain as p
use Rattle.gp_algebra.specs.QueryForms.{IsTableProgram, IsWellBuilt}
use Rattle.gp_algebra.specs.Reannotation.{forgotten, reannotated}
use Rattle.gp_algebra.specs.Statements.{Select, Statement, delete, insert, insert_select, read, target, update, width_of}
use Rattle.gp_algebra.specs.Stops.{Stop, ancestry, program_stop, rows}
use Rattle.gp_algebra.specs.WellBuilt.{is_well_built}
use Rattle.gp_algebra.proofs.Erasure.{Reannotates, step_reannotated}
use Rattle.gp_base.specs.declared.limit.TheConstants.{MAX_ANSWER_ROWS, MAX_TABLE_ROWS}
use Rattle.gp_compose.specs.Composed.{program_at}
use Rattle.gp_compose.specs.Seen.{missing_statement_refusal, looked_at, saw_refusal, writes}
use Rattle.gp_compose.specs.Composing.{looking_program}
use Rattle.gp_compose.proofs.ProgramLemmas.{looking_program_is, looking_program_is_built, seen_program_is_built}
use Rattle.gp_exec.specs.Backends.{Executes}
use Rattle.gp_exec.specs.Running.{RunsTable, environment_view}
use Rattle.gp_exec.specs.declared.env.Env.{Env}
use Rattle.gp_exec.specs.declared.error.ExecStop.{ExecStop}
use Rattle.gp_exec.specs.declared.error.ExecStop.TheVariants as exec
use Rattle.gp_log.specs.LogFacts.{tables_in}
use Rattle.gp_log.specs.LogFitting.{SpansFit, statements_fit}
use Rattle.gp_log.specs.Parameters.{parameters}
use Rattle.gp_machine.specs.Entries.{Entry, fate_of, log_of, statement_at, statement_count, version_of}
use Rattle.gp_machine.specs.Parameters.{Parameters}
use Rattle.gp_versions.specs.declared.span.Span.{Span}
use Rattle.gp_machine.specs.HistorySpans as machine
use Rattle.gp_machine.specs.Points.{run_stop}
use Rattle.gp_machine.specs.Questions.{answer_refusal, given, is_known, log_refusal, rows_answer, statement_refusal, stop_refusal}
use Rattle.gp_machine.specs.Runs.{run, run_before}
use Rattle.gp_machine.proofs.PointReannotation.{before_reannotated}
use Rattle.gp_merge.proofs.BuiltLemmas.{merged_built}
use Rattle.gp_merge.proofs.Orders.{program_ordered}
use Rattle.gp_merge.proofs.RebuildingLemmas.{merged_is}
use Rattle.gp_merge.proofs.StepLemmas.{merged_stop}
use Rattle.gp_prov.specs.Encoding as enc
use Rattle.gp_prov.specs.ToPlain.{plain_program}
use Rattle.gp_prov.proofs.BuiltLemmas.{program_built}
use Rattle.gp_prov.proofs.MeaningLemmas.{rows_between, tables_are}
use Rattle.gp_reenact.specs.Encoding as travel
use Rattle.gp_reenact.specs.Travel as travels
use Rattle.gp_versions.specs.Spans.{Versions}
use Rattle.gp_reenact.specs.Backends.{ReenactsBy, RefusedBy}
use Rattle.gp_reenact.specs.Looking.{looked_refusal, saw_answer}
use Rattle.gp_reenact.specs.LookingForms.{EndsInTable, Looks, looked_answer, looked_program, looked_rows, saw_program, system_row}
use Rattle.gp_reenact.specs.Reenacting.{Reenacts, RunsOver, spans_of, stopped}
use Rattle.gp_base.specs.declared.stop.Stop.{Stop as CallStop}
use Rattle.gp_base.specs.declared.stop.Stop.TheVariants.{Refused, NoMemory}
use Rattle.gp_reenact.proofs.BackendLemmas.{runs_over_same}
use Rattle.gp_reenact.proofs.ReplayLemmas.{gives, refusal_at, run_refused}
use Rattle.gp_reenact.proofs.StepStops.{env_is, forgets, forgetting, monoid, none_marked, past_wide, past_widths, steps_stop_is}

-- ---- a program that gives rows

-- a program that gives these rows over the row versions, and stops, in the run of transaction t, where this says
pub record Gives (versions : List Versions) (t : ℕ) (own : Option Refusal) (rows : List (List Cell)) (program : p.PlainProgram) : Type 0 where
  pub gives : p.program_meaning (travel.encoded (travels.past_environment unannotated versions)) program ≡ rows
  pub stops : own ≡ option_map (refusal_at t) (program_stop MAX_TABLE_ROWS MAX_NODES (travel.encoded (travels.past_environment unannotated versions)) program)

-- what is found: the rows, in any order, or the refusal that is due
abbrev Finds : {X : Type 0} → (X → List (List Cell)) → Result X CallStop → Result (List (List Cell)) Refusal → Type 0
Finds view (Ok found) (Ok list) = IsPermutation (view found) list
Finds view (Ok found) (Err expected) = ⊥
Finds view (Err (Refused refusal)) (Ok list) = ⊥
Finds view (Err (Refused refusal)) (Err expected) = refusal ≡ expected
Finds view (Err NoMemory) expected = Unit {0}

module _ {X : Type 0} (view : X → List (List Cell)) (versions : List Versions) (t : ℕ) (refusal own : Option Refusal) (list : List (List Cell)) (program : p.PlainProgram)
    (is_given : refusal ≡ None → Gives versions t own list program) where
  abbrev env : p.PlainEnvironment
  env = travel.encoded (travels.past_environment unannotated versions)

  abbrev expected : Result (List (List Cell)) Refusal
  expected = given (option_or refusal (option_or own (cond (nat_lt MAX_ANSWER_ROWS (length list)) (Some E27) None))) list

  due_is : refusal ≡ None → (stop : Option Stop) → program_stop MAX_TABLE_ROWS MAX_NODES env program ≡ stop → (over : Bool) → nat_lt MAX_ANSWER_ROWS (length list) ≡ over
      → expected ≡ given (option_or (option_map (refusal_at t) stop) (cond over (Some E27) None)) list
  due_is known stop is over many =
      λ i. given (option_or (known i) (option_or (((is_given known).stops ∙ ap (option_map (refusal_at t)) is) i) (cond (many i) (Some E27) None))) list

  found_is : refusal ≡ None → (found : X) → RunsOver view (Ok found) env program → Finds view (Ok found) expected
  found_is known found runs =
      let count : length list ≤ MAX_ANSWER_ROWS = subst (λ (xs : List (List Cell)). length xs ≤ MAX_ANSWER_ROWS) (is_given known).gives runs.1.1 in
      let few : nat_lt MAX_ANSWER_ROWS (length list) ≡ false = grind (arith, nat_tests) in
      subst (λ d. Finds view (Ok found) d) (sym (due_is known None runs.0 false few))
      (subst (λ (xs : List (List Cell)). IsPermutation (view found) xs) (is_given known).gives runs.1.0)

  stop_is : refusal ≡ None → (stop : ExecStop) → RunsOver (λ (xs : List (List Cell)). xs) (Err stop) env program → Finds view (Err (stopped t stop)) expected
  stop_is known (exec.Rows j) runs =
      subst (λ d. Finds view (Err (stopped t (exec.Rows j))) d) (sym (due_is known (Some (rows j)) runs (nat_lt MAX_ANSWER_ROWS (length list)) refl)) refl
  stop_is known (exec.Ancestry j) runs =
      subst (λ d. Finds view (Err (stopped t (exec.Ancestry j))) d) (sym (due_is known (Some (ancestry j)) runs (nat_lt MAX_ANSWER_ROWS (length list)) refl)) refl
  stop_is known exec.Answer runs =
      let count : MAX_ANSWER_ROWS < length list = subst (λ (xs : List (List Cell)). MAX_ANSWER_ROWS < length xs) (is_given known).gives runs.1 in
      let many : nat_lt MAX_ANSWER_ROWS (length list) ≡ true = grind (arith, nat_tests) in
      subst (λ d. Finds view (Err (stopped t exec.Answer)) d) (sym (due_is known None runs.0 true many)) refl
  stop_is known exec.NoMemory runs = tt

  refused : (found : Refusal) (due : Option Refusal) → refusal ≡ due → RefusedBy Executes found due t program env → Finds view (Err (Refused found)) expected
  refused found (Some due) is same =
      subst (λ d. Finds view (Err (Refused found)) (given (option_or d (option_or own (cond (nat_lt MAX_ANSWER_ROWS (length list)) (Some E27) None))) list)) (sym is) same
  refused found None is by =
      subst (λ (r : Result X CallStop). Finds view r expected) (ap Err (sym by.is)) (stop_is is by.stop (runs_over_same program env (Err by.stop) by.given))

  -- what the executor gives for the program is what is due
  pub executed_finds : (result : Result X CallStop) → ReenactsBy view Executes result refusal t program env → Finds view result expected
  executed_finds (Ok found) by = found_is by.0 found (runs_over_same program env (Ok (view found)) by.1)
  executed_finds (Err (Refused found)) by = refused found refusal refl by
  executed_finds (Err NoMemory) by = tt

-- the elements of an answer for their cells
module _ {X : Type 0} (view : X → List (List Cell)) (elements : List (Element (Unit {0}))) where
  finds_reenacts : (due : Option Refusal) (result : Result X CallStop) → Finds view result (given due (cells_of elements)) → Reenacts view result (given due elements)
  finds_reenacts None (Ok found) is = is
  finds_reenacts (Some refusal) (Ok found) is = is
  finds_reenacts None (Err (Refused refusal)) is = is
  finds_reenacts (Some due) (Err (Refused refusal)) is = is
  finds_reenacts None (Err NoMemory) is = is
  finds_reenacts (Some due) (Err NoMemory) is = is

  counted : nat_lt MAX_ANSWER_ROWS (length (cells_of elements)) ≡ nat_lt MAX_ANSWER_ROWS (length elements)
  counted = ap (nat_lt MAX_ANSWER_ROWS) (length-map elements (λ (element : Element (Unit {0})). element.cells))

-- ---- a transaction that is known

pub known_of : (t k : ℕ) (entries : List Entry) → saw_refusal t k entries ≡ None → is_known t entries ≡ true
known_of t k entries e = go (is_known t entries) refl e
  where
    go : (b : Bool) → is_known t entries ≡ b → option_or (cond b None (Some (E20 t))) (missing_statement_refusal t k entries) ≡ None → is_known t entries ≡ true
    go true is e = is
    go false is e = absurd (some_none (E20 t) e)

-- ---- programs that are well built

module _ (entries : List Entry) (fit : statements_fit (tables_in entries) entries ≡ true) where
  abbrev columns : ℕ → ℕ
  columns = width_of (tables_in entries)

  module _ (select : Select) (fits : select_fits (tables_in entries) select ≡ true) (t k : ℕ) where
    seen_built : is_known t entries ≡ true → IsWellBuilt columns (program_at columns entries (y.after t k) select)
    seen_built known = seen_program_is_built (tables_in entries) entries fit t k known select fits

    pub plain_saw_built : saw_refusal t k entries ≡ None → is_well_built (plain_program columns false (program_at columns entries (y.after t k) select)) ≡ true
    plain_saw_built known =
        let built = seen_built (known_of t k entries known) in
        program_built columns false (program_at columns entries (y.after t k) select) built.steps (inl built.answer)

    pub saw_built : saw_refusal t k entries ≡ None → is_well_built (saw_program entries t k select) ≡ true
    saw_built known = merged_built (plain_program columns false (program_at columns entries (y.after t k) select)) (plain_saw_built known)

  module _ (t k table : ℕ) (statement : Statement) (known : is_known t entries ≡ true) (here : statement_at t (suc k) entries ≡ Some statement) (is : target statement ≡ Some table) where
    abbrev looking : q.Program
    looking = looking_program columns (log_of entries) t k statement

    looking_built : IsTableProgram columns table looking
    looking_built = looking_program_is_built (tables_in entries) entries fit t k table statement known here is

    plain_looking_built : is_well_built (plain_program columns false looking) ≡ true
    plain_looking_built = program_built columns false looking looking_built.steps (inr (table, looking_built.contents))

    looking_merged : is_well_built (looked_program entries t k statement) ≡ true
    looking_merged = merged_built (plain_program columns false looking) plain_looking_built

  -- a statement that writes has a table
  table_of : (statement : Statement) → writes statement ≡ true → (table : ℕ) × (target statement ≡ Some table)
  table_of (insert table tuples) e = (table, refl)
  table_of (insert_select table select) e = (table, refl)
  table_of (update table sets c) e = (table, refl)
  table_of (delete table c) e = (table, refl)
  table_of (read select) e = absurd (true≢false (sym e))

  pub plain_looked_built : (t k : ℕ) (statement : Statement) → is_known t entries ≡ true → statement_at t (suc k) entries ≡ Some statement → writes statement ≡ true
      → is_well_built (plain_program columns false (looking_program columns (log_of entries) t k statement)) ≡ true
  plain_looked_built t k statement known here e = let own = table_of statement e in plain_looking_built t k own.0 statement known here own.1

  pub looked_built : (t k : ℕ) (statement : Statement) → is_known t entries ≡ true → statement_at t (suc k) entries ≡ Some statement → writes statement ≡ true
      → is_well_built (looked_program entries t k statement) ≡ true
  looked_built t k statement known here e = let own = table_of statement e in looking_merged t k own.0 statement known here own.1

module _ (entries : List Entry) (versions : List Versions) (fit : statements_fit (tables_in entries) entries ≡ true) (spans_fit : SpansFit (tables_in entries) (spans_of versions)) where
  -- ---- SAW

  module _ (select : Select) (fits : select_fits (tables_in entries) select ≡ true) (t k : ℕ) where
    saw_gives : saw_refusal t k entries ≡ None
        → Gives versions t (option_map stop_refusal (run_stop unannotated parameters (log_of entries) t k (machine.as_of unannotated (spans_of versions))))
        (cells_of (answer unannotated select (run unannotated (log_of entries) t k (machine.as_of unannotated (spans_of versions))))) (saw_program entries t k select)
    saw_gives known =
        let whole = plain_program (width_of (tables_in entries)) false (program_at (width_of (tables_in entries)) entries (y.after t k) select) in
        let ordered = program_ordered whole (plain_saw_built entries fit select fits t k known) in
        let past = travel.encoded (travels.past_environment unannotated versions) in
        let built = seen_built entries fit select fits t k (known_of t k entries known) in
        record {
          gives = merged_is past whole ordered ∙ gives entries versions select fit spans_fit fits (y.after t k) built;
          stops =
              run_refused unannotated parameters (log_of entries) t (machine.as_of unannotated (spans_of versions)) k
              ∙ ap (option_map (refusal_at t))
              (sym (steps_stop_is entries versions fit spans_fit t k (program_at (width_of (tables_in entries)) entries (y.after t k) select).last built.steps)
              ∙ sym (merged_stop MAX_TABLE_ROWS MAX_NODES past whole ordered));
        }

    pub saw_executes : {X : Type 0} (view : X → List (List Cell)) (result : Result X CallStop)
        → ReenactsBy view Executes result (saw_refusal t k entries) t (saw_program entries t k select) (travel.encoded (travels.past_environment unannotated versions))
        → Reenacts view result (saw_answer parameters entries (spans_of versions) t k select)
    saw_executes view result by =
        let elements = answer unannotated select (run unannotated (log_of entries) t k (machine.as_of unannotated (spans_of versions))) in
        let refusal = saw_refusal t k entries in
        let own = option_map stop_refusal (run_stop unannotated parameters (log_of entries) t k (machine.as_of unannotated (spans_of versions))) in
        finds_reenacts view elements (option_or refusal (option_or own (cond (nat_lt MAX_ANSWER_ROWS (length elements)) (Some E27) None))) result
        (subst (λ b. Finds view result (given (option_or refusal (option_or own (cond b (Some E27) None))) (cells_of elements))) (counted view elements)
        (executed_finds view versions t refusal own (cells_of elements) (saw_program entries t k select) saw_gives result by))

  -- ---- the rows by which one looks at a statement

  -- the cells of a row of a query over the contents of a table, with its identity and its mark
  abbrev first_of : Sources → Cell
  first_of no_sources = cell.Null
  first_of (source id others) = cell.Id id

  abbrev system_cells : Derived Monomial → List Cell
  system_cells row = row.cells ++ (first_of row.sources ∷ cell.Mark row.mark ∷ [])

  scanned_rows : (all : List (Annotated Monomial)) → map system_cells (map (scanned monomials) all) ≡ map (enc.encoded_row false) all
  scanned_rows all = map-map system_cells (scanned monomials) all

  forgotten_rows : (all : List (Annotated Monomial)) → map system_row (map (reannotated forgotten) all) ≡ map (enc.encoded_row false) all
  forgotten_rows all = map-map system_row (reannotated forgotten) all

  looked_reannotated : (t k : ℕ) (statement : Statement) (c : Database Monomial) (d : Database (Unit {0})) → Reannotates forgotten c d
      → looked_at unannotated t k statement d ≡ map (reannotated forgotten) (looked_at monomials t k statement c)
  looked_reannotated t k (insert table tuples) c d same = step_reannotated monomials unannotated forgotten forgetting t k (insert table tuples) c d same table
  looked_reannotated t k (insert_select table select) c d same = step_reannotated monomials unannotated forgotten forgetting t k (insert_select table select) c d same table
  looked_reannotated t k (update table sets x) c d same =
      ap (filter (λ (row : Annotated (Unit {0})). passes x row.cells)) (same table) ∙ filter-map (λ (row : Annotated (Unit {0})). passes x row.cells) (reannotated forgotten) (c table)
  looked_reannotated t k (delete table x) c d same =
      ap (filter (λ (row : Annotated (Unit {0})). passes x row.cells)) (same table) ∙ filter-map (λ (row : Annotated (Unit {0})). passes x row.cells) (reannotated forgotten) (c table)
  looked_reannotated t k (read select) c d same = refl

  module _ (t k table : ℕ) (statement : Statement) (known : is_known t entries ≡ true) (here : statement_at t (suc k) entries ≡ Some statement) (is : target statement ≡ Some table) where
    abbrev whole_look : q.Program
    whole_look = looking_program (width_of (tables_in entries)) (log_of entries) t k statement

    look_built : IsTableProgram (width_of (tables_in entries)) table whole_look
    look_built = looking_built entries fit t k table statement known here is

    looking_gives : p.program_meaning (travel.encoded (travels.past_environment unannotated versions)) (plain_program (width_of (tables_in entries)) false whole_look)
        ≡ map system_row (looked_rows parameters entries (spans_of versions) t k statement)
    looking_gives =
        let past = machine.as_of monomials (spans_of versions) in
        let found = rows_between false (width_of (tables_in entries) table) (tables_are (width_of (tables_in entries)) false past (past_widths entries versions fit spans_fit) table whole_look look_built) in
        let looked = looked_at monomials t (suc k) statement (run_before monomials (log_of entries) t k past) in
        let means : qm.program_meaning monomials past whole_look ≡ map (scanned monomials) looked =
        looking_program_is monomials monoid (tables_in entries) entries fit past (past_wide entries versions fit spans_fit) (none_marked versions) t k table statement here is in
        ap (λ env. p.program_meaning env (plain_program (width_of (tables_in entries)) false whole_look)) (env_is versions)
        ∙ found.1
        ∙ sym (scanned_rows found.0)
        ∙ ap (map system_cells) (sym found.2 ∙ means)
        ∙ scanned_rows looked
        ∙ sym (forgotten_rows looked)
        ∙ ap (map system_row)
        (sym (looked_reannotated t (suc k) statement (run_before monomials (log_of entries) t k past) (run_before unannotated (log_of entries) t k (machine.as_of unannotated (spans_of versions)))
        (before_reannotated monomials unannotated forgotten forgetting past (machine.as_of unannotated (spans_of versions)) (forgets versions) (log_of entries) t k)))

    looked_gives : Gives versions t (option_map stop_refusal (run_stop unannotated parameters (log_of entries) t (suc k) (machine.as_of unannotated (spans_of versions))))
        (map system_row (looked_rows parameters entries (spans_of versions) t k statement)) (looked_program entries t k statement)
    looked_gives =
        let whole = plain_program (width_of (tables_in entries)) false whole_look in
        let ordered = program_ordered whole (plain_looking_built entries fit t k table statement known here is) in
        let past = travel.encoded (travels.past_environment unannotated versions) in
        record {
          gives = merged_is past whole ordered ∙ looking_gives;
          stops =
              run_refused unannotated parameters (log_of entries) t (machine.as_of unannotated (spans_of versions)) (suc k)
              ∙ ap (option_map (refusal_at t))
              (sym (steps_stop_is entries versions fit spans_fit t (suc k) whole_look.last look_built.steps)
              ∙ sym (merged_stop MAX_TABLE_ROWS MAX_NODES past whole ordered));
        }

    abbrev past_rows : p.PlainEnvironment
    past_rows = travel.encoded (travels.past_environment unannotated versions)

    abbrev own_refusal : Option Refusal
    own_refusal = looked_refusal parameters entries (spans_of versions) t k statement

    abbrev own_rows : List (List Cell)
    own_rows = map system_row (looked_rows parameters entries (spans_of versions) t k statement)

    look_found : {X : Type 0} (view : X → List (List Cell)) (found : X) → EndsInTable view (Ok found) (looked_program entries t k statement) past_rows → Looks view (Ok found) (given own_refusal own_rows)
    look_found view found runs =
        let none : own_refusal ≡ None = looked_gives.stops ∙ ap (option_map (refusal_at t)) runs.0 in
        subst (λ d. Looks view (Ok found) (given d own_rows)) (sym none) (runs.1 ∙ looked_gives.gives)

    due : (stop : Stop) → program_stop MAX_TABLE_ROWS MAX_NODES past_rows (looked_program entries t k statement) ≡ Some stop → own_refusal ≡ Some (refusal_at t stop)
    due stop is = looked_gives.stops ∙ ap (option_map (refusal_at t)) is

    look_stopped : {X : Type 0} (view : X → List (List Cell)) (stop : ExecStop) → EndsInTable view (Err stop) (looked_program entries t k statement) past_rows
        → Looks view (Err (stopped t stop)) (given own_refusal own_rows)
    look_stopped view (exec.Rows j) runs = subst (λ d. Looks view (Err (stopped t (exec.Rows j))) (given d own_rows)) (sym (due (rows j) runs)) refl
    look_stopped view (exec.Ancestry j) runs = subst (λ d. Looks view (Err (stopped t (exec.Ancestry j))) (given d own_rows)) (sym (due (ancestry j) runs)) refl
    look_stopped view exec.Answer runs = absurd runs
    look_stopped view exec.NoMemory runs = tt

  module _ (t k : ℕ) (statement : Statement) (known : is_known t entries ≡ true) (here : statement_at t (suc k) entries ≡ Some statement) (does : writes statement ≡ true) where
    pub looked_found : {X : Type 0} (view : X → List (List Cell)) (found : X) → EndsInTable view (Ok found) (looked_program entries t k statement) (travel.encoded (travels.past_environment unannotated versions))
        → Looks view (Ok found) (looked_answer parameters entries (spans_of versions) t k statement)
    looked_found view found runs = let own = table_of entries fit statement does in look_found t k own.0 statement known here own.1 view found runs

    pub looked_stopped : {X : Type 0} (view : X → List (List Cell)) (stop : ExecStop) → EndsInTable view (Err stop) (looked_program entries t k statement) (travel.encoded (travels.past_environment unannotated versions))
        → Looks view (Err (stopped t stop)) (looked_answer parameters entries (spans_of versions) t k statement)
    looked_stopped view stop runs = let own = table_of entries fit statement does in look_stopped t k own.0 statement known here own.1 view stop runs

-- ---- running a program that ends in a table

pub ends_in_table : {X : Type 0} (view : X → List (List Cell)) (result : Result X ExecStop) (held : Env) (program : p.PlainProgram) (past : p.PlainEnvironment)
    → p.program_meaning (environment_view held) program ≡ p.program_meaning past program
    → program_stop MAX_TABLE_ROWS MAX_NODES (environment_view held) program ≡ program_stop MAX_TABLE_ROWS MAX_NODES past program
    → RunsTable MAX_TABLE_ROWS view result held program → EndsInTable view result program past
ends_in_table view (Ok found) held program past same_rows same_stop runs = (sym same_stop ∙ runs.0, runs.1 ∙ same_rows)
ends_in_table view (Err (exec.Rows j)) held program past same_rows same_stop runs = sym same_stop ∙ runs
ends_in_table view (Err (exec.Ancestry j)) held program past same_rows same_stop runs = sym same_stop ∙ runs
ends_in_table view (Err exec.Answer) held program past same_rows same_stop runs = runs
ends_in_table view (Err exec.NoMemory) held program past same_rows same_stop runs = tt

-- ---- a transaction that committed

refusals_same : (t k version : ℕ) (entries : List Entry) → version_of t entries ≡ Some version → 0 < k → saw_refusal t k entries ≡ log_refusal entries (y.after t k)
refusals_same t k version entries made some =
    by (is_known t entries)
    ∙ ap (λ (o : Option ℕ). option_or (cond (not (is_known t entries)) (Some (E20 t)) (cond (is_none o) (Some (E21 t (fate_of t entries))) None)) (statement_refusal t k entries)) (sym made)
  where
    above : nat_lt 0 k ≡ true
    above = grind (arith, nat_tests)

    counts : missing_statement_refusal t k entries ≡ statement_refusal t k entries
    counts = ap (λ b. cond (b && nat_le k (statement_count t entries)) None (Some (E22 t (statement_count t entries)))) (sym above)

    by : (b : Bool) → option_or (cond b None (Some (E20 t))) (missing_statement_refusal t k entries) ≡ option_or (cond (not b) (Some (E20 t)) None) (statement_refusal t k entries)
    by true = counts
    by false = refl

pub saw_reenacts : (bounds : Parameters) (entries : List Entry) (spans : ℕ → List Span) (t k version : ℕ) (query : Select) → version_of t entries ≡ Some version → 0 < k
    → saw_answer bounds entries spans t k query ≡ rows_answer bounds entries spans (y.after t k) query
saw_reenacts bounds entries spans t k version query made some =
    let elements = answer unannotated query (run unannotated (log_of entries) t k (machine.as_of unannotated spans)) in
    let own = option_map stop_refusal (run_stop unannotated bounds (log_of entries) t k (machine.as_of unannotated spans)) in
    ap (λ refusal. given (option_or refusal (option_or own (answer_refusal unannotated bounds elements))) elements) (refusals_same t k version entries made some)
