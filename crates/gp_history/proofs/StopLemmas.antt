-- The annotated program of a transaction stops where its run does, whatever the annotations are. Only the rows that an INSERT appends can be over the limits:
-- as long as no statement stopped, no row has an identity of too many nodes.
use Rattle.std.proofs.Common.{◌≡◌, ℕ, zero, suc, ◌<◌, ◌≤◌, nat_le, nat_lt, Bool, true, false, cond, ◌||◌, List, [], ◌∷◌, ◌++◌, length, map, Option, Some, None, refl, sym, ap, ◌∙◌, arith}
use Rattle.std.specs.List.{AllByRecursion, list_any}
use Rattle.std.specs.Option.{option_map, option_or}
use Rattle.std.proofs.lemmas.Bool.{ne_eqb, le-ltb}
use Rattle.std.proofs.lemmas.Bool.Decides.{nat_tests}
use Rattle.std.proofs.lemmas.List.{length-map}
use Rattle.std.proofs.lemmas.List.Folds.{list_any-append}
use Rattle.gp_base.specs.declared.table.Table.{Table}
use Rattle.gp_base.specs.Annotated.{Annotated, Annotations, Database, Environment}
use Rattle.gp_base.specs.Identities.{nodes}
use Rattle.gp_algebra.specs.AnnotatedMeaning as qm
use Rattle.gp_algebra.specs.AnnotatedQueries.{Query, QueryStep}
use Rattle.gp_algebra.specs.AnnotatedMeaning.{Derived, scanned}
use Rattle.gp_algebra.specs.Answers.{answer}
use Rattle.gp_algebra.specs.Effects.{given_from, made, step, with_rows}
use Rattle.gp_algebra.specs.Statements.{width_of}
use Rattle.gp_algebra.specs.Plain.{no_steps, with_step}
use Rattle.gp_algebra.specs.Statements.{Statement, delete, insert, insert_select, read, update, target}
use Rattle.gp_algebra.specs.Stops.{Stop, ancestry, first_stop, rows}
use Rattle.gp_compose.specs.Composed.{composed, current_before, step_of}
use Rattle.gp_compose.specs.StepForms.{steps_of}
use Rattle.gp_kexec.specs.AnnotatedStops.{has_large, program_stop, steps_stop, stop_at}
use Rattle.gp_log.specs.LogFitting.{statements_fit}
use Rattle.gp_machine.specs.Entries.{Entry, Log, log_of}
use Rattle.gp_machine.specs.Parameters.{Parameters}
use Rattle.gp_machine.specs.Points.{OverNodes, OverRows, RunStop, run_stop, statement_stop}
use Rattle.gp_machine.specs.Runs.{run, run_before, stepped}
use Rattle.gp_reenact.proofs.HeldLemmas.{AreHeld, FitsIfSome, IsHeld, held_refreshed, held_step, logged_fits}
use Rattle.gp_reenact.proofs.StopLemmas.{step_stop}
use Rattle.gp_rewrite.specs.Rewriting.{rewritten}
use Rattle.gp_base.proofs.SmallLemmas.{eq_itself, or_nothing}

module _ {M : Type 0} (domain : Annotations M) (parameters : Parameters) where
  abbrev over : Annotated M → Bool
  over row = nat_lt parameters.nodes (nodes row.identity)

  rows_large : (all : List (Annotated M)) → has_large parameters.nodes (map (scanned domain) all) ≡ list_any over all
  rows_large [] = refl
  rows_large (row ∷ all) = λ i. or_nothing (over row) i || rows_large all i

  none_over : (all : List (Annotated M)) → AllByRecursion (IsHeld parameters.nodes) all → list_any over all ≡ false
  none_over [] each = refl
  none_over (row ∷ all) each = rw (le-ltb parameters.nodes (nodes row.identity) each.0.small) (none_over all each.1)

  -- rows that an INSERT appends to those of its table
  appended : (t k : ℕ) (old new after : List (Annotated M)) (contents : List (Derived M)) → after ≡ old ++ new → contents ≡ map (scanned domain) after
      → AllByRecursion (IsHeld parameters.nodes) old
      → first_stop (cond (nat_lt parameters.rows (length contents)) (Some (rows k)) (cond (has_large parameters.nodes contents) (Some (ancestry k)) None)) None
      ≡ option_map step_stop (cond (nat_lt parameters.rows (length after)) (Some (OverRows t k)) (cond (list_any over new) (Some (OverNodes t k)) None))
  appended t k old new after contents is scans held =
      (λ i. first_stop (cond (count i) (Some (rows k)) (cond (large i) (Some (ancestry k)) None)) None)
      ∙ split (nat_lt parameters.rows (length after)) (list_any over new)
    where
      count : nat_lt parameters.rows (length contents) ≡ nat_lt parameters.rows (length after)
      count = ap (λ (all : List (Derived M)). nat_lt parameters.rows (length all)) scans ∙ ap (nat_lt parameters.rows) (length-map after (scanned domain))

      large : has_large parameters.nodes contents ≡ list_any over new
      large =
          ap (has_large parameters.nodes) scans ∙ rows_large after ∙ ap (list_any over) is
          ∙ list_any-append over old new ∙ ap (λ b. b || list_any over new) (none_over old held)

      split : (a b : Bool) → first_stop (cond a (Some (rows k)) (cond b (Some (ancestry k)) None)) None
          ≡ option_map step_stop (cond a (Some (OverRows t k)) (cond b (Some (OverNodes t k)) None))
      split true b = refl
      split false true = refl
      split false false = refl

  -- ---- steps after steps

  steps_after : (env : Environment M) (some others : List QueryStep) (steps : ℕ → List (Derived M))
      → qm.steps_meaning domain env (some ++ others) steps ≡ qm.steps_meaning domain env others (qm.steps_meaning domain env some steps)
  steps_after env [] others steps = refl
  steps_after env (first ∷ some) others steps = steps_after env some others (with_step first.j (qm.meaning domain steps env first.query) steps)

  stop_after : (env : Environment M) (some others : List QueryStep) (steps : ℕ → List (Derived M))
      → steps_stop domain parameters.rows parameters.nodes env (some ++ others) steps
      ≡ first_stop (steps_stop domain parameters.rows parameters.nodes env some steps) (steps_stop domain parameters.rows parameters.nodes env others (qm.steps_meaning domain env some steps))
  stop_after env [] others steps = refl
  stop_after env (first ∷ some) others steps =
      ap (first_stop (stop_at domain parameters.rows parameters.nodes first (qm.meaning domain steps env first.query)))
      (stop_after env some others (with_step first.j (qm.meaning domain steps env first.query) steps))
      ∙ sooner (stop_at domain parameters.rows parameters.nodes first (qm.meaning domain steps env first.query)) _ _
    where
      sooner : (a b c : Option Stop) → first_stop a (first_stop b c) ≡ first_stop (first_stop a b) c
      sooner None b c = refl
      sooner (Some stop) b c = refl

  -- ---- the steps of a transaction

  module _ (columns : ℕ → ℕ) (log : Log) (t : ℕ) (env : Environment M) where
    abbrev after_steps : ℕ → ℕ → List (Derived M)
    after_steps k = qm.steps_meaning domain env (composed columns log t k) no_steps

    -- the step of each of the first statements, this many, gives the rows that the run has in its table then
    abbrev pub GivesRun : ℕ → Type 0
    GivesRun count = (j table : ℕ) (statement : Statement) → j ≤ count → log.statement t j ≡ Some statement → target statement ≡ Some table
        → qm.steps_meaning domain env (composed columns log t count) no_steps j ≡ map (scanned domain) (run domain log t j env table)

    abbrev next_steps : ℕ → Option Statement → List QueryStep
    next_steps k found = step_of columns t (suc k) (current_before log t k) found

    -- the step of a statement, by the table that it writes
    abbrev step_on : ℕ → Statement → Option ℕ → List QueryStep
    step_on k statement own = steps_of columns t (suc k) (current_before log t k) statement own

    -- its rows, given those of the steps before
    abbrev rows_by : ℕ → Statement → List (Derived M)
    rows_by k statement = qm.meaning domain (after_steps k) env (rewritten columns t (suc k) statement (current_before log t k))

    more_rows : (k j : ℕ) → after_steps (suc k) j ≡ qm.steps_meaning domain env (next_steps k (log.statement t (suc k))) (after_steps k) j
    more_rows k j = ap (λ (given : ℕ → List (Derived M)). given j) (steps_after env (composed columns log t k) (next_steps k (log.statement t (suc k))) no_steps)

    -- a step leaves the rows of those before
    earlier_kept : (k j : ℕ) (found : Option Statement) (steps : ℕ → List (Derived M)) → j ≤ k → qm.steps_meaning domain env (next_steps k found) steps j ≡ steps j
    earlier_kept k j None steps before = refl
    earlier_kept k j (Some statement) steps before = go (target statement)
      where
        go : (own : Option ℕ) → qm.steps_meaning domain env (step_on k statement own) steps j ≡ steps j
        go None = refl
        go (Some table) = let other = ne_eqb j (suc k) (λ same. omega (arith, before, same)) in rw other refl

    kept : (j k : ℕ) → j ≤ k → after_steps k j ≡ after_steps j j
    kept j zero before = let same : zero ≡ j = omega (arith, before) in ap (λ k. after_steps k j) same
    kept j (suc k) before = go (nat_le j k) refl (kept j k)
      where
        go : (b : Bool) → nat_le j k ≡ b → (j ≤ k → after_steps k j ≡ after_steps j j) → after_steps (suc k) j ≡ after_steps j j
        go true is earlier =
            let within : j ≤ k = grind (arith, nat_tests) in
            more_rows k j ∙ earlier_kept k j (log.statement t (suc k)) (after_steps k) within ∙ earlier within
        go false is earlier = let same : suc k ≡ j = grind (arith, nat_tests) in ap (λ k. after_steps k j) same

    own_rows : (k : ℕ) (statement : Statement) (table : ℕ) → log.statement t (suc k) ≡ Some statement → target statement ≡ Some table
        → after_steps (suc k) (suc k) ≡ rows_by k statement
    own_rows k statement table is writes_it =
        more_rows k (suc k)
        ∙ ap (λ found. qm.steps_meaning domain env (next_steps k found) (after_steps k) (suc k)) is
        ∙ ap (λ own. qm.steps_meaning domain env (step_on k statement own) (after_steps k) (suc k)) writes_it
        ∙ ap (λ b. cond b (rows_by k statement) (after_steps k (suc k))) (eq_itself (suc k))

    module _ (count : ℕ) (gives : GivesRun count) where
      written : (k : ℕ) (statement : Statement) (table : ℕ) → k < count → log.statement t (suc k) ≡ Some statement → target statement ≡ Some table
          → rows_by k statement ≡ map (scanned domain) (step domain t (suc k) statement (run_before domain log t k env) table)
      written k statement table before is writes_it =
          sym (own_rows k statement table is writes_it)
          ∙ sym (kept (suc k) count before)
          ∙ gives (suc k) table statement before is writes_it
          ∙ ap (λ found. map (scanned domain) (stepped domain t (suc k) found (run_before domain log t k env) table)) is

      module _ (catalogue : List Table) (fits : (k : ℕ) → FitsIfSome catalogue (log.statement t k)) (held : (version : ℕ) → AreHeld parameters.nodes (env version)) where
        abbrev stop_in : List QueryStep → (ℕ → List (Derived M)) → Option Stop
        stop_in steps before = steps_stop domain parameters.rows parameters.nodes env steps before

        one_stop : (k : ℕ) → k < count → AreHeld parameters.nodes (run_before domain log t k env)
            → (found : Option Statement) → log.statement t (suc k) ≡ found
            → stop_in (next_steps k found) (after_steps k)
            ≡ option_map step_stop (statement_stop domain parameters t (suc k) found (run_before domain log t k env))
        one_stop k before held None is = refl
        one_stop k before held (Some (insert table all)) is =
            let db : Database M = run_before domain log t k env in
            let new : List (Annotated M) = given_from domain t (suc k) 1 all in
            appended t (suc k) (db table) new (with_rows table (db table ++ new) db table) _
            (ap (λ b. cond b (db table ++ new) (db table)) (eq_itself table)) (written k (insert table all) table before is refl) (held table)
        one_stop k before held (Some (insert_select table select)) is =
            let db : Database M = run_before domain log t k env in
            let new : List (Annotated M) = map (made domain t (suc k)) (answer domain select db) in
            appended t (suc k) (db table) new (with_rows table (db table ++ new) db table) _
            (ap (λ b. cond b (db table ++ new) (db table)) (eq_itself table)) (written k (insert_select table select) table before is refl) (held table)
        one_stop k before held (Some (update table sets c)) is = refl
        one_stop k before held (Some (delete table c)) is = refl
        one_stop k before held (Some (read select)) is = refl

        -- the stops of the first statements agree, and without one the run has no row over the limit
        record Agrees (k : ℕ) : Type 0 where
          stop : stop_in (composed columns log t k) no_steps ≡ option_map step_stop (run_stop domain parameters log t k env)
          holds : run_stop domain parameters log t k env ≡ None → AreHeld parameters.nodes (run domain log t k env)

        next_agrees : (k : ℕ) → k < count → Agrees k → Agrees (suc k)
        next_agrees k before earlier = go (run_stop domain parameters log t k env) refl
          where
            found : Option Statement
            found = log.statement t (suc k)

            next : Option RunStop
            next = statement_stop domain parameters t (suc k) found (run_before domain log t k env)

            reads : AreHeld parameters.nodes (run domain log t k env) → AreHeld parameters.nodes (run_before domain log t k env)
            reads own = held_refreshed domain parameters.nodes env held (log.version t k) (log.version t (suc k)) (run domain log t k env) own

            sooner : stop_in (composed columns log t (suc k)) no_steps
                ≡ first_stop (option_map step_stop (run_stop domain parameters log t k env)) (stop_in (next_steps k found) (after_steps k))
            sooner =
                stop_after env (composed columns log t k) (next_steps k found) no_steps
                ∙ ap (λ stop. first_stop stop (stop_in (next_steps k found) (after_steps k))) earlier.stop

            go : (stop : Option RunStop) → run_stop domain parameters log t k env ≡ stop → Agrees (suc k)
            go (Some stop) at = record {
              stop =
                  sooner
                  ∙ ap (λ o. first_stop (option_map step_stop o) (stop_in (next_steps k found) (after_steps k))) at
                  ∙ sym (ap (λ o. option_map step_stop (option_or o next)) at);
              holds = λ none. absurd (no_stop stop (sym (ap (λ o. option_or o next) at) ∙ none));
            }
              where
                no_stop : (stop : RunStop) → Some stop ≡ None → ⊥
                no_stop stop e = cc
            go None at = record {
              stop =
                  sooner
                  ∙ ap (λ o. first_stop (option_map step_stop o) (stop_in (next_steps k found) (after_steps k))) at
                  ∙ one_stop k before (reads (earlier.holds at)) found refl
                  ∙ sym (ap (λ o. option_map step_stop (option_or o next)) at);
              holds = λ none. held_step domain parameters catalogue t (suc k) found (run_before domain log t k env) (fits (suc k)) (sym (ap (λ o. option_or o next) at) ∙ none) (reads (earlier.holds at));
            }

        agrees : (k : ℕ) → k ≤ count → Agrees k
        agrees zero before = record { stop = refl; holds = λ none. held (log.version t zero) }
        agrees (suc k) before = next_agrees k before (agrees k (omega (arith, before)))

  -- a program with the steps of the first k statements stops where their run does, if its steps give the rows of the run
  pub program_stops : (catalogue : List Table) (entries : List Entry) (t k : ℕ) (env : Environment M) (last : Query)
      → statements_fit catalogue entries ≡ true → ((version : ℕ) → AreHeld parameters.nodes (env version))
      → GivesRun (width_of catalogue) (log_of entries) t env k
      → program_stop domain parameters.rows parameters.nodes env (record { steps = composed (width_of catalogue) (log_of entries) t k; last = last })
      ≡ option_map step_stop (run_stop domain parameters (log_of entries) t k env)
  program_stops catalogue entries t k env last fit held gives =
      (agrees (width_of catalogue) (log_of entries) t env k gives catalogue (λ j. logged_fits catalogue t j entries fit) held k (omega arith)).stop
