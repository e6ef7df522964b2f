-- The plain program of a transaction stops where its run does. Only the rows that an INSERT appends can be over the limits, since those of its table are as tables
-- hold them.
use Rattle.std.proofs.Common.{◌≡◌, ℕ, zero, suc, ◌<◌, ◌≤◌, nat_le, nat_lt, Bool, true, false, true≢false, ◌||◌, List, [], ◌∷◌, ◌++◌, length, map, Option, Some, None, if◌then◌else◌, refl, sym, ap, ◌∙◌, arith}
use Rattle.std.specs.List.{AllByRecursion, list_all, list_any}
use Rattle.std.specs.Option.{option_map, option_or}
use Rattle.std.proofs.lemmas.Bool.{eqb-true, ne_eqb, and_parts, le-ltb}
use Rattle.std.proofs.lemmas.Bool.Decides.{nat_tests}
use Rattle.std.proofs.lemmas.List.{length-map, map-append}
use Rattle.std.proofs.lemmas.List.Folds.{list_any-append}
use Rattle.gp_base.specs.declared.cell.Cell.{Cell}
use Rattle.gp_base.specs.declared.cell.Cell.TheVariants as cell
use Rattle.gp_base.specs.declared.table.Table.{Table}
use Rattle.gp_base.specs.Annotated.{Annotated, Annotations, Database, Environment, monomials}
use Rattle.gp_base.specs.UserCells.{is_user_cell}
use Rattle.gp_base.specs.Identities.{Identity, Sources, identity, no_sources, nodes, source}
use Rattle.gp_base.specs.Tokens.{Monomial}
use Rattle.gp_expr.specs.LargeValues.{is_large}
use Rattle.gp_algebra.specs.AnnotatedMeaning as qm
use Rattle.gp_algebra.specs.AnnotatedQueries.{Query}
use Rattle.gp_algebra.specs.AnnotatedMeaning.{Derived, scanned}
use Rattle.gp_algebra.specs.Answers.{answer}
use Rattle.gp_algebra.specs.Effects.{given_from, made, step, with_rows}
use Rattle.gp_algebra.specs.Fitting.{is_countable, is_there}
use Rattle.gp_algebra.specs.Statements.{width_of}
use Rattle.gp_algebra.specs.Plain.{PlainEnvironment, PlainStep, StepRows, meaning, no_steps, steps_meaning, with_step}
use Rattle.gp_algebra.specs.Statements.{Statement, delete, insert, insert_select, read, update, target}
use Rattle.gp_algebra.specs.AnnotatedQueries.{step_table}
use Rattle.gp_algebra.specs.Stops.{Stop, ancestry, first_stop, program_stop, rows, steps_stop, stop_at}
use Rattle.gp_machine.specs.Entries.{Entry, Log, log_of}
use Rattle.gp_machine.specs.Parameters.{Parameters}
use Rattle.gp_machine.specs.Points.{OverNodes, OverRows, RunStop, run_stop, statement_stop}
use Rattle.gp_machine.specs.Runs.{run, run_before, stepped}
use Rattle.gp_machine.proofs.Distinct.{each_weaker}
use Rattle.gp_log.specs.LogFitting.{statements_fit}
use Rattle.gp_rewrite.specs.Rewriting.{rewritten}
use Rattle.gp_compose.specs.Composed.{composed, current_before, step_of, writes}
use Rattle.gp_compose.specs.StepForms.{is_target, steps_of}
use Rattle.gp_prov.specs.Encoding.{encoded, encoded_row, noted}
use Rattle.gp_prov.specs.ToPlain.{plain_query, plain_program, plain_step}
use Rattle.gp_reenact.proofs.HeldLemmas.{AreHeld, FitsIfSome, HasUserCells, IsHeld, held_refreshed, held_step, logged_fits, user_given, user_made}
use Rattle.gp_base.proofs.SmallLemmas.{each_append, eq_itself}

-- the stop of a program for that of a run
abbrev pub step_stop : RunStop → Stop
step_stop (OverRows t k) = rows k
step_stop (OverNodes t k) = ancestry k

-- ---- tests

-- ---- what is over the limits

no_large : (most : ℕ) (cells : List Cell) → list_all is_user_cell cells ≡ true → list_any (is_large most) cells ≡ false
no_large most [] all = refl
no_large most (cell.Null ∷ cells) all = no_large most cells all
no_large most (cell.Int n ∷ cells) all = no_large most cells (and_parts (is_user_cell (cell.Int n)) _ all).1
no_large most (cell.Text bytes ∷ cells) all = no_large most cells (and_parts (is_user_cell (cell.Text bytes)) _ all).1
no_large most (cell.Id id ∷ cells) all = absurd (true≢false (sym all))
no_large most (cell.Mark mark ∷ cells) all = absurd (true≢false (sym all))
no_large most (cell.Mono monomial ∷ cells) all = absurd (true≢false (sym all))

or_nothing : (a b : Bool) → a ≡ false → (a || (b || false)) ≡ b
or_nothing true b none = absurd (true≢false none)
or_nothing false true none = refl
or_nothing false false none = refl

module _ (prov : Bool) (parameters : Parameters) where
  abbrev over : Annotated Monomial → Bool
  over row = nat_lt parameters.nodes (nodes row.identity)

  row_large : (row : Annotated Monomial) → list_all is_user_cell row.cells ≡ true → list_any (is_large parameters.nodes) (encoded_row prov row) ≡ over row
  row_large row all =
      list_any-append (is_large parameters.nodes) row.cells (cell.Id row.identity ∷ cell.Mark row.mark ∷ noted prov (cell.Mono row.annotation))
      ∙ ap (λ b. list_any (is_large parameters.nodes) row.cells || (over row || b)) (none_noted prov)
      ∙ or_nothing _ (over row) (no_large parameters.nodes row.cells all)
    where
      none_noted : (prov : Bool) → list_any (is_large parameters.nodes) (noted prov (cell.Mono row.annotation)) ≡ false
      none_noted true = refl
      none_noted false = refl

  rows_large : (all : List (Annotated Monomial)) → AllByRecursion (HasUserCells monomials parameters.nodes) all
      → list_any (list_any (is_large parameters.nodes)) (map (encoded_row prov) all) ≡ list_any over all
  rows_large [] each = refl
  rows_large (row ∷ all) each = (λ i. row_large row each.0 i || rows_large all each.1 i)

  none_over : (all : List (Annotated Monomial)) → AllByRecursion (IsHeld parameters.nodes) all → list_any over all ≡ false
  none_over [] each = refl
  none_over (row ∷ all) each = rw (le-ltb parameters.nodes (nodes row.identity) each.0.small) (none_over all each.1)

  -- rows that an INSERT appends to those of its table
  appended : (t k : ℕ) (old new after : List (Annotated Monomial)) (contents : List (List Cell)) → after ≡ old ++ new → contents ≡ map (encoded_row prov) after
      → AllByRecursion (IsHeld parameters.nodes) old → AllByRecursion (HasUserCells monomials parameters.nodes) new
      → first_stop
      (if nat_lt parameters.rows (length contents) then Some (rows k) else if list_any (list_any (is_large parameters.nodes)) contents then Some (ancestry k) else None) None
      ≡ option_map step_stop (if nat_lt parameters.rows (length after) then Some (OverRows t k) else if list_any over new then Some (OverNodes t k) else None)
  appended t k old new after contents is encodes held user =
      (λ i. first_stop (if count i then Some (rows k) else if large i then Some (ancestry k) else None) None)
      ∙ split (nat_lt parameters.rows (length after)) (list_any over new)
    where
      count : nat_lt parameters.rows (length contents) ≡ nat_lt parameters.rows (length after)
      count = ap (λ (rows : List (List Cell)). nat_lt parameters.rows (length rows)) encodes ∙ ap (nat_lt parameters.rows) (length-map after (encoded_row prov))

      large : list_any (list_any (is_large parameters.nodes)) contents ≡ list_any over new
      large =
          ap (list_any (list_any (is_large parameters.nodes))) (encodes ∙ ap (map (encoded_row prov)) is)
          ∙ rows_large (old ++ new) (each_append _ old new (each_weaker _ (IsHeld parameters.nodes) (λ row own. own.cells) old held) user)
          ∙ list_any-append over old new ∙ ap (λ b. b || list_any over new) (none_over old held)

      split : (a b : Bool) → first_stop (if a then Some (rows k) else if b then Some (ancestry k) else None) None
          ≡ option_map step_stop (if a then Some (OverRows t k) else if b then Some (OverNodes t k) else None)
      split true b = refl
      split false true = refl
      split false false = refl

-- ---- steps after steps

steps_after : (env : PlainEnvironment) (some others : List PlainStep) (steps : StepRows)
    → steps_meaning env (some ++ others) steps ≡ steps_meaning env others (steps_meaning env some steps)
steps_after env [] others steps = refl
steps_after env (first ∷ some) others steps = steps_after env some others (with_step first.j (meaning steps env first.query) steps)

stop_after : (most_rows most_nodes : ℕ) (env : PlainEnvironment) (some others : List PlainStep) (steps : StepRows)
    → steps_stop most_rows most_nodes env (some ++ others) steps
    ≡ first_stop (steps_stop most_rows most_nodes env some steps) (steps_stop most_rows most_nodes env others (steps_meaning env some steps))
stop_after most_rows most_nodes env [] others steps = refl
stop_after most_rows most_nodes env (first ∷ some) others steps =
    ap (first_stop (stop_at most_rows most_nodes first (meaning steps env first.query)))
    (stop_after most_rows most_nodes env some others (with_step first.j (meaning steps env first.query) steps))
    ∙ sooner (stop_at most_rows most_nodes first (meaning steps env first.query)) _ _
  where
    sooner : (a b c : Option Stop) → first_stop a (first_stop b c) ≡ first_stop (first_stop a b) c
    sooner None b c = refl
    sooner (Some stop) b c = refl

-- ---- the steps of a transaction

module _ (prov : Bool) (columns of_step : ℕ → ℕ) (log : Log) (t : ℕ) (env : Environment Monomial) where
  abbrev pub plain_steps : ℕ → List PlainStep
  plain_steps k = map (plain_step columns of_step prov) (composed columns log t k)

  abbrev pub after_steps : ℕ → StepRows
  after_steps k = steps_meaning (encoded prov env) (plain_steps k) no_steps

  -- the plain step of each of the first statements, this many, gives the rows that the run has in its table then
  abbrev pub GivesRun : ℕ → Type 0
  GivesRun count = (j table : ℕ) → j < count → writes (log.statement t (suc j)) table ≡ true
      → after_steps count (suc j) ≡ map (encoded_row prov) (run monomials log t (suc j) env table)

  abbrev next_steps : ℕ → Option Statement → List PlainStep
  next_steps k found = map (plain_step columns of_step prov) (step_of columns t (suc k) (current_before log t k) found)

  -- the step of a statement, by the table that it writes
  abbrev step_on : ℕ → Statement → Option ℕ → List PlainStep
  step_on k statement own = map (plain_step columns of_step prov) (steps_of columns t (suc k) (current_before log t k) statement own)

  -- its rows, given those of the steps before
  abbrev rows_by : ℕ → Statement → List (List Cell)
  rows_by k statement = meaning (after_steps k) (encoded prov env) (plain_query columns of_step prov (rewritten columns t (suc k) statement (current_before log t k)))

  more_steps : (k : ℕ) → plain_steps (suc k) ≡ plain_steps k ++ next_steps k (log.statement t (suc k))
  more_steps k = map-append (plain_step columns of_step prov) (composed columns log t k) (step_of columns t (suc k) (current_before log t k) (log.statement t (suc k)))

  more_rows : (k j : ℕ) → after_steps (suc k) j ≡ steps_meaning (encoded prov env) (next_steps k (log.statement t (suc k))) (after_steps k) j
  more_rows k j =
      ap (λ steps. steps_meaning (encoded prov env) steps no_steps j) (more_steps k)
      ∙ ap (λ (given : StepRows). given j) (steps_after (encoded prov env) (plain_steps k) (next_steps k (log.statement t (suc k))) no_steps)

  -- a step leaves the rows of those before
  earlier_kept : (k j : ℕ) (found : Option Statement) (steps : StepRows) → j ≤ k → steps_meaning (encoded prov env) (next_steps k found) steps j ≡ steps j
  earlier_kept k j None steps before = refl
  earlier_kept k j (Some statement) steps before = go (target statement)
    where
      go : (own : Option ℕ) → steps_meaning (encoded prov env) (step_on k statement own) steps j ≡ steps j
      go None = refl
      go (Some table) = let other = ne_eqb j (suc k) (λ same. omega (arith, before, same)) in rw other refl

  kept : (j k : ℕ) → j ≤ k → after_steps k j ≡ after_steps j j
  kept j zero before = let same : zero ≡ j = omega (arith, before) in ap (λ k. after_steps k j) same
  kept j (suc k) before = go (nat_le j k) refl (kept j k)
    where
      go : (b : Bool) → nat_le j k ≡ b → (j ≤ k → after_steps k j ≡ after_steps j j) → after_steps (suc k) j ≡ after_steps j j
      go true is earlier =
          let within : j ≤ k = grind (arith, nat_tests) in
          more_rows k j ∙ earlier_kept k j (log.statement t (suc k)) (after_steps k) within ∙ earlier within
      go false is earlier = let same : suc k ≡ j = grind (arith, nat_tests) in ap (λ k. after_steps k j) same

  own_rows : (k : ℕ) (statement : Statement) (table : ℕ) → log.statement t (suc k) ≡ Some statement → target statement ≡ Some table
      → after_steps (suc k) (suc k) ≡ rows_by k statement
  own_rows k statement table is writes_it =
      more_rows k (suc k)
      ∙ ap (λ found. steps_meaning (encoded prov env) (next_steps k found) (after_steps k) (suc k)) is
      ∙ ap (λ own. steps_meaning (encoded prov env) (step_on k statement own) (after_steps k) (suc k)) writes_it
      ∙ ap (λ b. if b then rows_by k statement else after_steps k (suc k)) (eq_itself (suc k))

  module _ (count : ℕ) (gives : GivesRun count) where
    written : (k : ℕ) (statement : Statement) (table : ℕ) → k < count → log.statement t (suc k) ≡ Some statement → target statement ≡ Some table
        → rows_by k statement ≡ map (encoded_row prov) (step monomials t (suc k) statement (run_before monomials log t k env) table)
    written k statement table before is writes_it =
        sym (own_rows k statement table is writes_it)
        ∙ sym (kept (suc k) count before)
        ∙ gives k table before (ap (λ found. writes found table) is ∙ ap (λ own. is_target own table) writes_it ∙ eq_itself table)
        ∙ ap (λ found. map (encoded_row prov) (stepped monomials t (suc k) found (run_before monomials log t k env) table)) is

    module _ (parameters : Parameters) (catalogue : List Table) (fits : (k : ℕ) → FitsIfSome catalogue (log.statement t k))
        (held : (version : ℕ) → AreHeld parameters.nodes (env version)) where
      abbrev stop_in : List PlainStep → StepRows → Option Stop
      stop_in steps before = steps_stop parameters.rows parameters.nodes (encoded prov env) steps before

      one_stop : (k : ℕ) → k < count → AreHeld parameters.nodes (run_before monomials log t k env)
          → (found : Option Statement) → log.statement t (suc k) ≡ found → FitsIfSome catalogue found
          → stop_in (next_steps k found) (after_steps k)
          ≡ option_map step_stop (statement_stop monomials parameters t (suc k) found (run_before monomials log t k env))
      one_stop k before held None is fit = refl
      one_stop k before held (Some (insert table all)) is fit =
          let are = and_parts (is_there catalogue table) _ fit in
          let db : Database Monomial = run_before monomials log t k env in
          let new : List (Annotated Monomial) = given_from monomials t (suc k) 1 all in
          appended prov parameters t (suc k) (db table) new (with_rows table (db table ++ new) db table) _
          (ap (λ b. if b then db table ++ new else db table) (eq_itself table)) (written k (insert table all) table before is refl)
          (held table) (user_given monomials parameters.nodes (width_of catalogue table) t (suc k) 1 all (and_parts _ _ are.1).1)
      one_stop k before held (Some (insert_select table select)) is fit =
          let are = and_parts (is_there catalogue table) _ fit in
          let db : Database Monomial = run_before monomials log t k env in
          let new : List (Annotated Monomial) = map (made monomials t (suc k)) (answer monomials select db) in
          appended prov parameters t (suc k) (db table) new (with_rows table (db table ++ new) db table) _
          (ap (λ b. if b then db table ++ new else db table) (eq_itself table)) (written k (insert_select table select) table before is refl)
          (held table) (user_made monomials parameters catalogue t (suc k) select db held (width_of catalogue table) (and_parts (is_countable select) _ are.1).1)
      one_stop k before held (Some (update table sets c)) is fit = refl
      one_stop k before held (Some (delete table c)) is fit = refl
      one_stop k before held (Some (read select)) is fit = refl

      -- the stops of the first statements agree, and without one the run has no row over the limit
      record Agrees (k : ℕ) : Type 0 where
        stop : stop_in (plain_steps k) no_steps ≡ option_map step_stop (run_stop monomials parameters log t k env)
        holds : run_stop monomials parameters log t k env ≡ None → AreHeld parameters.nodes (run monomials log t k env)

      next_agrees : (k : ℕ) → k < count → Agrees k → Agrees (suc k)
      next_agrees k before earlier = go (run_stop monomials parameters log t k env) refl
        where
          found : Option Statement
          found = log.statement t (suc k)

          next : Option RunStop
          next = statement_stop monomials parameters t (suc k) found (run_before monomials log t k env)

          reads : AreHeld parameters.nodes (run monomials log t k env) → AreHeld parameters.nodes (run_before monomials log t k env)
          reads own = held_refreshed monomials parameters.nodes env held (log.version t k) (log.version t (suc k)) (run monomials log t k env) own

          sooner : stop_in (plain_steps (suc k)) no_steps
              ≡ first_stop (option_map step_stop (run_stop monomials parameters log t k env)) (stop_in (next_steps k found) (after_steps k))
          sooner =
              ap (λ steps. stop_in steps no_steps) (more_steps k)
              ∙ stop_after parameters.rows parameters.nodes (encoded prov env) (plain_steps k) (next_steps k found) no_steps
              ∙ ap (λ stop. first_stop stop (stop_in (next_steps k found) (after_steps k))) earlier.stop

          go : (stop : Option RunStop) → run_stop monomials parameters log t k env ≡ stop → Agrees (suc k)
          go (Some stop) at = record {
            stop =
                sooner
                ∙ ap (λ o. first_stop (option_map step_stop o) (stop_in (next_steps k found) (after_steps k))) at
                ∙ sym (ap (λ o. option_map step_stop (option_or o next)) at);
            holds = λ none. absurd (no_stop stop (sym (ap (λ o. option_or o next) at) ∙ none));
          }
            where
              no_stop : (stop : RunStop) → Some stop ≡ None → ⊥
              no_stop stop e = cc
          go None at = record {
            stop =
                sooner
                ∙ ap (λ o. first_stop (option_map step_stop o) (stop_in (next_steps k found) (after_steps k))) at
                ∙ one_stop k before (reads (earlier.holds at)) found refl (fits (suc k))
                ∙ sym (ap (λ o. option_map step_stop (option_or o next)) at);
            holds = λ none.
                held_step monomials parameters catalogue t (suc k) found (run_before monomials log t k env) (fits (suc k)) (sym (ap (λ o. option_or o next) at) ∙ none) (reads (earlier.holds at));
          }

      agrees : (k : ℕ) → k ≤ count → Agrees k
      agrees zero before = record { stop = refl; holds = λ none. held (log.version t zero) }
      agrees (suc k) before = next_agrees k before (agrees k (omega (arith, before)))

-- ---- what the steps give

-- a row of a step as one of a table
abbrev identity_in : Sources → Identity
identity_in no_sources = identity 0 0 0 no_sources
identity_in (source id ids) = id

abbrev unscanned : {M : Type 0} → Derived M → Annotated M
unscanned row = record { identity = identity_in row.sources; cells = row.cells; mark = row.mark; annotation = row.annotation }

unscanned_again : {M : Type 0} (domain : Annotations M) (all : List (Annotated M)) → map unscanned (map (scanned domain) all) ≡ all
unscanned_again domain [] = refl
unscanned_again domain (row ∷ all) = ap (λ rest. row ∷ rest) (unscanned_again domain all)

-- rows are known by what scans of them are
pub scanned_once : {M : Type 0} (domain : Annotations M) (one other : List (Annotated M)) → map (scanned domain) one ≡ map (scanned domain) other → one ≡ other
scanned_once domain one other same = sym (unscanned_again domain one) ∙ ap (map unscanned) same ∙ unscanned_again domain other

module _ (prov : Bool) (columns of_step : ℕ → ℕ) (log : Log) (t : ℕ) (env : Environment Monomial) (count : ℕ) where
  -- the annotated steps give the tables of the run, and the plain steps their rows
  pub gives_run : ((j table : ℕ) (statement : Statement) → j ≤ count → log.statement t j ≡ Some statement → target statement ≡ Some table
      → qm.steps_meaning monomials env (composed columns log t count) no_steps j ≡ map (scanned monomials) (run monomials log t j env table))
      → ((j : ℕ) → (all : List (Annotated Monomial)) × (after_steps prov columns of_step log t env count j ≡ map (encoded_row prov) all)
      × (qm.steps_meaning monomials env (composed columns log t count) no_steps j ≡ map (scanned monomials) all))
      → GivesRun prov columns of_step log t env count
  gives_run means encodes j table before written = by_statement (log.statement t (suc j)) refl written
    where
      in_table : (statement : Statement) → log.statement t (suc j) ≡ Some statement → target statement ≡ Some table
          → after_steps prov columns of_step log t env count (suc j) ≡ map (encoded_row prov) (run monomials log t (suc j) env table)
      in_table statement is writes_it =
          let given = encodes (suc j) in
          given.1 ∙ ap (map (encoded_row prov)) (scanned_once monomials given.0 _ (sym given.2 ∙ means (suc j) table statement before is writes_it))

      by_target : (statement : Statement) → log.statement t (suc j) ≡ Some statement → (own : Option ℕ) → target statement ≡ own → is_target own table ≡ true
          → after_steps prov columns of_step log t env count (suc j) ≡ map (encoded_row prov) (run monomials log t (suc j) env table)
      by_target statement is None at hit = absurd (true≢false (sym hit))
      by_target statement is (Some own) at hit = in_table statement is (at ∙ ap (λ n. Some n) (sym (eqb-true table own hit)))

      by_statement : (found : Option Statement) → log.statement t (suc j) ≡ found → writes found table ≡ true
          → after_steps prov columns of_step log t env count (suc j) ≡ map (encoded_row prov) (run monomials log t (suc j) env table)
      by_statement None is hit = absurd (true≢false (sym hit))
      by_statement (Some statement) is hit = by_target statement is (target statement) refl hit

-- ---- programs

-- a program with the steps of the first k statements stops where their run does, if its steps give the rows of the run
pub program_stops : (prov : Bool) (parameters : Parameters) (catalogue : List Table) (entries : List Entry) (t k : ℕ) (env : Environment Monomial) (last : Query)
    → statements_fit catalogue entries ≡ true → ((version : ℕ) → AreHeld parameters.nodes (env version))
    → GivesRun prov (width_of catalogue) (step_table (composed (width_of catalogue) (log_of entries) t k)) (log_of entries) t env k
    → program_stop parameters.rows parameters.nodes (encoded prov env)
    (plain_program (width_of catalogue) prov (record { steps = composed (width_of catalogue) (log_of entries) t k; last = last }))
    ≡ option_map step_stop (run_stop monomials parameters (log_of entries) t k env)
program_stops prov parameters catalogue entries t k env last fit held gives =
    (agrees prov (width_of catalogue) (step_table (composed (width_of catalogue) (log_of entries) t k)) (log_of entries) t env k gives parameters catalogue
    (λ j. logged_fits catalogue t j entries fit) held k (omega arith)).stop
