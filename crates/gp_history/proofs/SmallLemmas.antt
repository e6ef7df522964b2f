-- Identities of rows are small where those of the spans are and no run makes a larger one.
use Rattle.std.proofs.Common.{◌≡◌, ◌≤◌, ℕ, zero, suc, ◌*◌, cond, refl, Bool, true, false, List, [], ◌∷◌, ◌++◌, length, map, Option, Some, None, nat_lt}
use Rattle.std.specs.Prelude.{◌==◌, not}
use Rattle.std.specs.List.{AllByRecursion, filter, list_any}
use Rattle.std.specs.Option.{option_map}
use Rattle.gp_base.specs.Annotated.{Annotated, Annotations, Database, Environment}
use Rattle.gp_base.specs.declared.token.Token.TheVariants.{Updated}
use Rattle.gp_base.specs.Identities.{nodes, nodes_in}
use Rattle.gp_grammar.specs.Syntax as y
use Rattle.gp_versions.specs.declared.span.Span.{Span}
use Rattle.gp_versions.specs.Spans.{holds_at, spans_at}
use Rattle.gp_expr.specs.Values.{passes}
use Rattle.gp_algebra.specs.Answers.{Element, answer, choices, joined}
use Rattle.gp_algebra.specs.Effects.{assigned, changed, given_from, is_over_nodes, is_over_rows, made, step, with_rows}
use Rattle.gp_algebra.specs.Statements.{Statement, delete, insert, insert_select, read, update}
use Rattle.gp_machine.specs.Annotating.{annotated, annotated_row, annotated_versions, computed}
use Rattle.gp_machine.specs.Entries.{Entry, Log, log_of, statement_count, version_of, versions_in}
use Rattle.gp_machine.specs.Parameters.{Parameters}
use Rattle.gp_machine.specs.Points.{OverNodes, OverRows, RunStop, at_point, run_stop, statement_stop, version_before}
use Rattle.gp_machine.specs.Publishing.{publish, was_written}
use Rattle.gp_machine.specs.Questions.{own_stop, stop_refusal}
use Rattle.gp_machine.specs.Runs.{at_commit, refreshed, run, run_before, stepped}
use Rattle.gp_machine.proofs.Distinct.{each_filter, each_weaker, none_each}
use Rattle.gp_history.proofs.Bounds.{next_within, nothing}
use Rattle.gp_base.proofs.SmallLemmas.{each_append, each_flat_map, each_map, none_parts, some_none}
use Rattle.std.proofs.lemmas.Bool.{ltb-false}

abbrev pub IsSmall : {M : Type 0} → ℕ → Annotated M → Type 0
IsSmall most row = nodes row.identity ≤ most

abbrev pub AreSmall : {M : Type 0} → ℕ → Database M → Type 0
AreSmall most db = (table : ℕ) → AllByRecursion (IsSmall most) (db table)

module _ {M : Type 0} (domain : Annotations M) (most : ℕ) where
  -- a choice has at most the nodes of one row for each table
  pub choices_small : (db : Database M) → AreSmall most db → (number : ℕ) (tables : List ℕ) → AllByRecursion (λ (e : Element M). nodes_in e.sources ≤ most * length tables) (choices domain number tables db)
  choices_small db small number [] = (nothing (most * 0), tt)
  choices_small db small number (table ∷ tables) = over (choices_small db small number tables)
    where
      over : AllByRecursion (λ (e : Element M). nodes_in e.sources ≤ most * length tables) (choices domain number tables db)
          → AllByRecursion (λ (e : Element M). nodes_in e.sources ≤ most * suc (length tables)) (choices domain number (table ∷ tables) db)
      over rest =
          each_flat_map (λ (e : Element M). nodes_in e.sources ≤ most * suc (length tables)) (IsSmall most) (λ row. map (joined domain number row) (choices domain number tables db))
          (λ row is. each_map (λ (e : Element M). nodes_in e.sources ≤ most * suc (length tables)) (λ (e : Element M). nodes_in e.sources ≤ most * length tables) (joined domain number row)
          (λ e inside. next_within most (length tables) (nodes row.identity) (nodes_in e.sources) is inside) (choices domain number tables db) rest)
          (db table) (small table)

  -- the rows that an INSERT appends
  new_small : (rows : List (Annotated M)) → list_any (λ (row : Annotated M). nat_lt most (nodes row.identity)) rows ≡ false → AllByRecursion (IsSmall most) rows
  new_small rows none = each_weaker (IsSmall most) (λ (row : Annotated M). nat_lt most (nodes row.identity) ≡ false) (λ row e. ltb-false most (nodes row.identity) e) rows (none_each (λ (row : Annotated M). nat_lt most (nodes row.identity)) rows none)

  step_small : (t k : ℕ) (statement : Statement) (db : Database M) → AreSmall most db → is_over_nodes domain most t k statement db ≡ false → AreSmall most (step domain t k statement db)
  step_small t k statement db small within = over statement within
    where
      placed : (place : ℕ) (rows : List (Annotated M)) → AllByRecursion (IsSmall most) rows → AreSmall most (with_rows place rows db)
      placed place rows here table = elim (table == place) as (λ b. AllByRecursion (IsSmall most) (cond b rows (db table))) [ true ↦ here | false ↦ small table ]

      over : (statement : Statement) → is_over_nodes domain most t k statement db ≡ false → AreSmall most (step domain t k statement db)
      over (insert place rows) within = placed place (db place ++ given_from domain t k 1 rows) (each_append (IsSmall most) (db place) (given_from domain t k 1 rows) (small place) (new_small (given_from domain t k 1 rows) within))
      over (insert_select place select) within =
          placed place (db place ++ map (made domain t k) (answer domain select db)) (each_append (IsSmall most) (db place) (map (made domain t k) (answer domain select db)) (small place) (new_small (map (made domain t k) (answer domain select db)) within))
      over (update place sets c) within = placed place (map (changed domain t k sets c) (db place)) (each_map (IsSmall most) (IsSmall most) (changed domain t k sets c) keeps (db place) (small place))
        where
          keeps : (row : Annotated M) → IsSmall most row → IsSmall most (changed domain t k sets c row)
          keeps row is =
              elim (passes c row.cells) as (λ b. IsSmall most (cond b (record { identity = row.identity; cells = assigned sets row.cells; mark = true; annotation = domain.times row.annotation (domain.token (Updated t k)) }) row)) [ true ↦ is | false ↦ is ]
      over (delete place c) within = placed place (filter (λ row. not (passes c row.cells)) (db place)) (each_filter (IsSmall most) (IsSmall most) (λ row. not (passes c row.cells)) (λ row t is. is) (db place) (small place))
      over (read select) within = small

module _ {M : Type 0} (domain : Annotations M) (parameters : Parameters) where
  publish_small : (base mine later : Database M) → AreSmall parameters.nodes mine → AreSmall parameters.nodes later → AreSmall parameters.nodes (publish base mine later)
  publish_small base mine later own others table =
      each_append (IsSmall parameters.nodes) (filter (λ row. not (was_written (base table) (mine table) row.identity)) (later table)) (filter (λ row. row.mark) (mine table))
      (each_filter (IsSmall parameters.nodes) (IsSmall parameters.nodes) (λ row. not (was_written (base table) (mine table) row.identity)) (λ row e is. is) (later table) (others table))
      (each_filter (IsSmall parameters.nodes) (IsSmall parameters.nodes) (λ row. row.mark) (λ row e is. is) (mine table) (own table))

  module _ (log : Log) (t : ℕ) (versions : Environment M) (known : (version : ℕ) → AreSmall parameters.nodes (versions version)) where
    stepped_small : (k : ℕ) (statement : Option Statement) (db : Database M) → AreSmall parameters.nodes db → statement_stop domain parameters t k statement db ≡ None → AreSmall parameters.nodes (stepped domain t k statement db)
    stepped_small k None db small stop = small
    stepped_small k (Some statement) db small stop = go (is_over_rows domain parameters.rows t k statement db) (is_over_nodes domain parameters.nodes t k statement db) refl stop
      where
        go : (a b : Bool) → is_over_nodes domain parameters.nodes t k statement db ≡ b → cond a (Some (OverRows t k)) (cond b (Some (OverNodes t k)) None) ≡ None → AreSmall parameters.nodes (step domain t k statement db)
        go true b is e = absurd (some_none (OverRows t k) e)
        go false true is e = absurd (some_none (OverNodes t k) e)
        go false false is e = step_small domain parameters.nodes t k statement db small is

    refreshed_small : (old new : ℕ) (db : Database M) → AreSmall parameters.nodes db → AreSmall parameters.nodes (refreshed old new versions db)
    refreshed_small old new db small =
        elim (new == old) as (λ b. AreSmall parameters.nodes (cond b db (publish (versions old) db (versions new)))) [ true ↦ small | false ↦ publish_small (versions old) db (versions new) small (known new) ]

    pub run_small : (k : ℕ) → run_stop domain parameters log t k versions ≡ None → AreSmall parameters.nodes (run domain log t k versions)
    run_small zero stop = known (log.version t zero)
    run_small (suc k) stop =
        let before = run_before domain log t k versions in
        let parts = none_parts (run_stop domain parameters log t k versions) (statement_stop domain parameters t (suc k) (log.statement t (suc k)) before) stop in
        stepped_small (suc k) (log.statement t (suc k)) before (refreshed_small (log.version t k) (log.version t (suc k)) (run domain log t k versions) (run_small k parts.0)) parts.1

    pub commit_small : (before : ℕ) → run_stop domain parameters log t (log.statement_count t) versions ≡ None → AreSmall parameters.nodes (at_commit domain log t before versions)
    commit_small before stop =
        let count = log.statement_count t in
        publish_small (versions (log.version t count)) (run domain log t count versions) (versions before) (run_small count stop) (known before)

  module _ (spans : ℕ → List Span) (small : (table : ℕ) → AllByRecursion (λ span. nodes span.id ≤ parameters.nodes) (spans table)) where
    annotated_small : (versions : Environment M) (version : ℕ) → AreSmall parameters.nodes (annotated domain spans versions version)
    annotated_small versions version table =
        each_map (IsSmall parameters.nodes) (λ span. nodes span.id ≤ parameters.nodes) (annotated_row domain versions table) (λ span is. is) (spans_at version (spans table))
        (each_filter (λ span. nodes span.id ≤ parameters.nodes) (λ span. nodes span.id ≤ parameters.nodes) (holds_at version) (λ span e is. is) (spans table) (small table))

    -- the state that a question asks about, if its run does not stop
    pub point_small : (entries : List Entry) (point : y.Point) → own_stop domain parameters entries point (annotated_versions domain entries spans) ≡ None → AreSmall parameters.nodes (at_point domain entries point (annotated_versions domain entries spans))
    point_small entries point stop = over point stop
      where
        known : (version : ℕ) → AreSmall parameters.nodes (annotated_versions domain entries spans version)
        known version = annotated_small (computed domain (log_of entries) spans (versions_in entries)) version

        no_stop : (o : Option RunStop) → option_map stop_refusal o ≡ None → o ≡ None
        no_stop None e = refl
        no_stop (Some stop) e = absurd (some_none (stop_refusal stop) e)

        over : (point : y.Point) → own_stop domain parameters entries point (annotated_versions domain entries spans) ≡ None → AreSmall parameters.nodes (at_point domain entries point (annotated_versions domain entries spans))
        over (y.as_of version) stop = known version
        over (y.after t k) stop = run_small (log_of entries) t (annotated_versions domain entries spans) known k (no_stop (run_stop domain parameters (log_of entries) t k (annotated_versions domain entries spans)) stop)
        over (y.Point.commit t) stop =
            commit_small (log_of entries) t (annotated_versions domain entries spans) known (version_before (version_of t entries))
            (no_stop (run_stop domain parameters (log_of entries) t (statement_count t entries) (annotated_versions domain entries spans)) stop)
