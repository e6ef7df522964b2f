-- The programs of states have types, if all statements and the query have.
use Rattle.gp_typed.proofs.Prelude.{◌≡◌, ◌≤◌, ℕ, zero, suc, Bool, true, false, cond, List, [], ◌∷◌, ◌++◌, map, Some, None, refl, sym, ap, subst, ◌∙◌, arith, Option, is_some, ◌&&◌, ◌==◌, nat_lt, slice_get, AllByRecursion, eqb-true, none-some, option_map_or, same_Some, Table, left_true, none_parts, right_true, Query, is_there, select_fits, statement_fits, Select, Statement, delete, insert, insert_select, read, target, update, width_of, Entry, Created, Began, Ran, Committed, Ended, log_refusal, tables_in, rewritten, merged_at, CellType, is_typed, scan_types, select_is_typed, statement_is_typed, statements_are_typed}
use Rattle.std.specs.Prelude.{is_none, nat_le, not, length}
use Rattle.std.proofs.lemmas.Bool.{leb-true}
use Rattle.std.proofs.lemmas.Bool.Decides.{nat_tests}
use Rattle.gp_base.specs.declared.refusal.Refusal.TheVariants.{E20, E21, E22}
use Rattle.gp_base.proofs.SmallLemmas.{each_append, each_map, eq_itself, some_none}
use Rattle.gp_grammar.specs.Syntax as y
use Rattle.gp_algebra.specs.AnnotatedQueries as q
use Rattle.gp_algebra.specs.AnnotatedQueries.{QueryStep, Program, step_table}
use Rattle.gp_machine.specs.Entries.{Log, fate_of, log_of, statement_at, statement_count, transactions_in, version_of}
use Rattle.gp_machine.specs.Points.{version_before}
use Rattle.gp_machine.specs.Questions.{statement_refusal, transaction_refusal}
use Rattle.gp_machine.proofs.EntryCounts.{count-most}
use Rattle.gp_log.specs.LogFitting.{statements_fit}
use Rattle.gp_log.proofs.FittingLogs.{statement_at_fits}
use Rattle.gp_compose.specs.Composed.{composed, current, current_before, last_write, moved, onto, program_after, program_at, program_of_commit, published_query, step_of, writes}
use Rattle.gp_compose.specs.StepForms.{is_target, steps_of}
use Rattle.gp_compose.proofs.StepLists.{AreWithin, Stands, here, stands_behind, stands_front, stands_table, within_append}
use Rattle.gp_prov.specs.ToPlain.{plain_program, plain_step}
use Rattle.gp_reenact.proofs.ReplayLemmas.{planned_is_built}
use Rattle.gp_sql.specs.Types.{are_whole}
use Rattle.gp_sql.proofs.TypedBlocks.{scan-whole}
use Rattle.gp_typed.proofs.JoinedTypes.{scan_there}
use Rattle.gp_typed.proofs.MergedTypes.{AreTyped, StepIsTyped, merged_is_typed}
use Rattle.gp_typed.proofs.RewrittenTypes.{IsContents, at_steps, publish_contents, query_is_typed, rewritten_contents, scan_contents, step_contents}

-- a statement writes a table of the catalogue
target_there : (catalogue : List Table) (own : ℕ) (statement : Statement) → target statement ≡ Some own → statement_fits catalogue statement ≡ true → is_there catalogue own ≡ true
target_there catalogue own (insert place rows) is fits = subst (λ n. is_there catalogue n ≡ true) (same_Some place own is) (left_true (is_there catalogue place) _ fits)
target_there catalogue own (insert_select place select) is fits = subst (λ n. is_there catalogue n ≡ true) (same_Some place own is) (left_true (is_there catalogue place) _ fits)
target_there catalogue own (update place sets c) is fits = subst (λ n. is_there catalogue n ≡ true) (same_Some place own is) (left_true (is_there catalogue place) _ fits)
target_there catalogue own (delete place c) is fits = subst (λ n. is_there catalogue n ≡ true) (same_Some place own is) (left_true (is_there catalogue place) _ fits)
target_there catalogue own (read select) is fits = absurd (none-some own is)

module _ (catalogue : List Table) where
  abbrev columns : ℕ → ℕ
  columns = width_of catalogue

  module _ (log : Log) (t : ℕ) where
    -- ---- the step of a statement, among those of more statements

    one_within : (k : ℕ) (tables : ℕ → Query) (o : Option Statement) → AreWithin k (step_of columns t k tables o)
    one_within k tables None = tt
    one_within k tables (Some statement) = go (target statement)
      where
        go : (own : Option ℕ) → AreWithin k (steps_of columns t k tables statement own)
        go None = tt
        go (Some own) = (omega arith, tt)

    composed_within : (k : ℕ) → AreWithin k (composed columns log t k)
    composed_within zero = tt
    composed_within (suc k) =
        within_append k (suc k) (composed columns log t k) (step_of columns t (suc k) (current_before log t k) (log.statement t (suc k))) (omega arith) (composed_within k)
        (one_within (suc k) (current_before log t k) (log.statement t (suc k)))

    one_stands : (k table : ℕ) (tables : ℕ → Query) (o : Option Statement) → writes o table ≡ true → Stands k table (step_of columns t k tables o)
    one_stands k table tables None e = absurd cc
    one_stands k table tables (Some statement) e = go (target statement) e
      where
        go : (own : Option ℕ) → is_target own table ≡ true → Stands k table (steps_of columns t k tables statement own)
        go None e = absurd cc
        go (Some own) e = here (record { j = k; table = own; query = rewritten columns t k statement tables }) [] refl (sym (eqb-true table own e))

    stands : (n j table : ℕ) → suc j ≤ n → writes (log.statement t (suc j)) table ≡ true → Stands (suc j) table (composed columns log t n)
    stands zero j table less e = absurd (omega (arith, less))
    stands (suc n) j table less e = go (j == n) refl (λ within. stands n j table within e)
      where
        own : List QueryStep
        own = step_of columns t (suc n) (current_before log t n) (log.statement t (suc n))

        earlier : (j == n) ≡ false → suc j ≤ n
        earlier is = grind (arith, nat_tests)

        go : (b : Bool) → (j == n) ≡ b → (suc j ≤ n → Stands (suc j) table (composed columns log t n)) → Stands (suc j) table (composed columns log t n ++ own)
        go true is before =
            let same : j ≡ n = eqb-true j n is in
            stands_behind n (suc j) table (composed columns log t n) own (composed_within n) (omega (arith, same))
            (subst (λ m. Stands (suc m) table own) (sym same)
            (one_stands (suc n) table (current_before log t n) (log.statement t (suc n)) (subst (λ m. writes (log.statement t (suc m)) table ≡ true) same e)))
        go false is before = stands_front (suc j) table (composed columns log t n) own (before (earlier is))

    -- ---- the queries of the tables

    module _ (n : ℕ) where
      abbrev of_step : ℕ → ℕ
      of_step = step_table (composed columns log t n)

      abbrev Has : ℕ → Query → Type 0
      Has place query = IsContents catalogue of_step place query

      onto_has : (old new place : ℕ) (write : Option ℕ) (query : Query) → is_there catalogue place ≡ true → Has place query → Has place (onto old new place write query)
      onto_has old new place None query there is = scan_contents catalogue of_step place new there
      onto_has old new place (Some j) query there is =
          publish_contents catalogue of_step place (q.scan place old) query (q.scan place new) (scan_contents catalogue of_step place old there) is (scan_contents catalogue of_step place new there)

      moved_has : (old new place : ℕ) (write : Option ℕ) (query : Query) → is_there catalogue place ≡ true → Has place query → Has place (moved old new place write query)
      moved_has old new place write query there is =
          elim (new == old) as (λ b. Has place (cond b query (onto old new place write query))) [ true ↦ is | false ↦ onto_has old new place write query there is ]

      current_has : (k place : ℕ) → k ≤ n → is_there catalogue place ≡ true → Has place (current log t k place)
      current_has zero place less there = scan_contents catalogue of_step place (log.version t zero) there
      current_has (suc k) place less there =
          go (writes (log.statement t (suc k)) place) refl
          (moved_has (log.version t k) (log.version t (suc k)) place (last_write log t k place) (current log t k place) there (current_has k place (omega (arith, less)) there))
        where
          go : (b : Bool) → writes (log.statement t (suc k)) place ≡ b → Has place (current_before log t k place) → Has place (cond b (q.step (suc k)) (current_before log t k place))
          go true e before = step_contents catalogue of_step place (suc k) (stands_table (suc k) place (composed columns log t n) (stands n k place less e)) there
          go false e before = before

      before_has : (k place : ℕ) → k ≤ n → is_there catalogue place ≡ true → Has place (current_before log t k place)
      before_has k place less there = moved_has (log.version t k) (log.version t (suc k)) place (last_write log t k place) (current log t k place) there (current_has k place less there)

      module _ (few_t : t ≤ 0xffff_ffff) (few_n : n ≤ 0xffff_ffff)
          (fits : (k : ℕ) (statement : Statement) → log.statement t (suc k) ≡ Some statement → (statement_fits catalogue statement ≡ true) × (statement_is_typed catalogue statement ≡ true)) where
        abbrev IsRight : QueryStep → Type 0
        IsRight s = StepIsTyped catalogue (at_steps catalogue of_step) (plain_step columns of_step false s)

        composed_right : (k : ℕ) → k ≤ n → AllByRecursion IsRight (composed columns log t k)
        composed_right zero less = tt
        composed_right (suc k) less =
            each_append IsRight (composed columns log t k) (step_of columns t (suc k) (current_before log t k) (log.statement t (suc k))) (composed_right k (omega (arith, less))) (one (log.statement t (suc k)) refl)
          where
            one : (o : Option Statement) → log.statement t (suc k) ≡ o → AllByRecursion IsRight (step_of columns t (suc k) (current_before log t k) o)
            one None e = tt
            one (Some statement) e = two (target statement) refl
              where
                two : (own : Option ℕ) → target statement ≡ own → AllByRecursion IsRight (steps_of columns t (suc k) (current_before log t k) statement own)
                two None is = tt
                two (Some own) is =
                    let fit = fits k statement e in
                    let there = target_there catalogue own statement is fit.0 in
                    let written : writes (log.statement t (suc k)) own ≡ true = ap (λ o. writes o own) e ∙ ap (λ o. is_target o own) is ∙ eq_itself own in
                    let place : of_step (suc k) ≡ own = stands_table (suc k) own (composed columns log t n) (stands n k own less written) in
                    let types = scan_there catalogue own there in
                    let own_types = ap (λ place. scan_types (slice_get catalogue place)) place ∙ types in
                    let query = rewritten_contents catalogue of_step (current_before log t k) (λ place there. before_has k place (omega (arith, less)) there) t (suc k) few_t (omega (arith, less, few_n)) own statement is fit.0 fit.1 in
                    ((query.types ∙ sym own_types, ap (λ (o : Option (List CellType)). option_map_or are_whole o false) own_types ∙ scan-whole (slice_get catalogue own) _ types), tt)

    -- ---- programs

    abbrev IsTypedProgram : Program → Type 0
    IsTypedProgram program =
        AreTyped catalogue (at_steps catalogue (step_table program.steps)) (plain_program columns false program).steps (plain_program columns false program).last

    module _ (few_t : t ≤ 0xffff_ffff)
        (fits : (k : ℕ) (statement : Statement) → log.statement t (suc k) ≡ Some statement → (statement_fits catalogue statement ≡ true) × (statement_is_typed catalogue statement ≡ true))
        (select : Select) (fit : select_fits catalogue select ≡ true) (typed : select_is_typed catalogue select ≡ true) where
      all_right : (n : ℕ) → n ≤ 0xffff_ffff → AllByRecursion (StepIsTyped catalogue (at_steps catalogue (of_step n))) (map (plain_step columns (of_step n) false) (composed columns log t n))
      all_right n few_n =
          each_map (StepIsTyped catalogue (at_steps catalogue (of_step n))) (IsRight n few_t few_n fits) (plain_step columns (of_step n) false) (λ s is. is) (composed columns log t n) (composed_right n few_t few_n fits n (omega arith))

      after_typed : (k : ℕ) → k ≤ 0xffff_ffff → IsTypedProgram (program_after columns log t k select)
      after_typed k few_k = (all_right k few_k, query_is_typed catalogue (of_step k) (current log t k) (λ place there. current_has k k place (omega arith) there) select fit typed)

      commit_typed : (before : ℕ) → log.statement_count t ≤ 0xffff_ffff → IsTypedProgram (program_of_commit columns log t before select)
      commit_typed before few_k =
          let n = log.statement_count t in (
            all_right n few_k,
            query_is_typed catalogue (of_step n) (published_query log t before)
                (λ place there. onto_has n (log.version t n) before place (last_write log t n place) (current log t n place) there (current_has n n place (omega arith) there)) select fit typed,
          )

-- ---- logs

typed_at : (catalogue : List Table) (entries : List Entry) → statements_are_typed catalogue entries ≡ true → (t k : ℕ) (statement : Statement)
    → statement_at t k entries ≡ Some statement → statement_is_typed catalogue statement ≡ true
typed_at catalogue [] all t k statement e = absurd (none-some statement e)
typed_at catalogue (Created line session table ∷ older) all t k statement e = typed_at catalogue older all t k statement e
typed_at catalogue (Began line session u level ∷ older) all t k statement e = typed_at catalogue older all t k statement e
typed_at catalogue (Ran line session command u other ∷ older) all t k statement e =
    go ((u == t) && (suc (statement_count t older) == k)) e (typed_at catalogue older (right_true (statement_is_typed catalogue other) (statements_are_typed catalogue older) all) t k statement)
  where
    go : (b : Bool) → cond b (Some other) (statement_at t k older) ≡ Some statement → (statement_at t k older ≡ Some statement → statement_is_typed catalogue statement ≡ true) → statement_is_typed catalogue statement ≡ true
    go true e before = ap (statement_is_typed catalogue) (sym (same_Some other statement e)) ∙ left_true (statement_is_typed catalogue other) (statements_are_typed catalogue older) all
    go false e before = before e
typed_at catalogue (Committed line session u ∷ older) all t k statement e = typed_at catalogue older all t k statement e
typed_at catalogue (Ended line session end u ∷ older) all t k statement e = typed_at catalogue older all t k statement e

known_most : (entries : List Entry) (t : ℕ) → transaction_refusal t entries ≡ None → t ≤ transactions_in entries
known_most entries t e = go (nat_lt 0 t) (nat_le t (transactions_in entries)) refl e
  where
    go : (a b : Bool) → nat_le t (transactions_in entries) ≡ b
        → cond (not (a && b)) (Some (E20 t)) (cond (is_none (version_of t entries)) (Some (E21 t (fate_of t entries))) None) ≡ None → t ≤ transactions_in entries
    go true true is e = leb-true t (transactions_in entries) is
    go true false is e = absurd (some_none (E20 t) e)
    go false b is e = absurd (some_none (E20 t) e)

statement_most : (entries : List Entry) (t k : ℕ) → statement_refusal t k entries ≡ None → k ≤ statement_count t entries
statement_most entries t k e = go (nat_lt 0 k) (nat_le k (statement_count t entries)) refl e
  where
    go : (a b : Bool) → nat_le k (statement_count t entries) ≡ b → cond (a && b) None (Some (E22 t (statement_count t entries))) ≡ None → k ≤ statement_count t entries
    go true true is e = leb-true k (statement_count t entries) is
    go true false is e = absurd (some_none (E22 t (statement_count t entries)) e)
    go false b is e = absurd (some_none (E22 t (statement_count t entries)) e)

module _ (entries : List Entry) (small : length entries ≤ 0xffff_ffff) (fit : statements_fit (tables_in entries) entries ≡ true)
    (typed : statements_are_typed (tables_in entries) entries ≡ true) (select : Select) (fitting : select_fits (tables_in entries) select ≡ true)
    (select_typed : select_is_typed (tables_in entries) select ≡ true) where
  abbrev tables : List Table
  tables = tables_in entries

  at_fits : (t k : ℕ) (statement : Statement) → statement_at t (suc k) entries ≡ Some statement → (statement_fits tables statement ≡ true) × (statement_is_typed tables statement ≡ true)
  at_fits t k statement e = (statement_at_fits tables entries fit t (suc k) statement e, typed_at tables entries typed t (suc k) statement e)

  within : (n most : ℕ) → n ≤ most → most ≤ length entries → n ≤ 0xffff_ffff
  within n most a b = omega (arith, small, a, b)

  point_typed : (point : y.Point) → log_refusal entries point ≡ None
      → (λ (program : Program). AreTyped tables (at_steps tables (step_table program.steps)) (plain_program (width_of tables) false program).steps (plain_program (width_of tables) false program).last)
      (program_at (width_of tables) entries point select)
  point_typed (y.as_of version) e =
      (tt, query_is_typed tables (step_table []) (λ table. q.scan table version) (λ place there. scan_contents tables (step_table []) place version there) select fitting select_typed)
  point_typed (y.after t k) e =
      let parts = none_parts (transaction_refusal t entries) (statement_refusal t k entries) e in
      after_typed tables (log_of entries) t (within t (transactions_in entries) (known_most entries t parts.0) (count-most _ entries)) (at_fits t) select fitting select_typed k
      (within k (statement_count t entries) (statement_most entries t k parts.1) (count-most _ entries))
  point_typed (y.Point.commit t) e =
      commit_typed tables (log_of entries) t (within t (transactions_in entries) (known_most entries t e) (count-most _ entries)) (at_fits t) select fitting select_typed (version_before (version_of t entries))
      (within (statement_count t entries) (statement_count t entries) (omega arith) (count-most _ entries))

  pub merged_at_is_typed : (point : y.Point) → log_refusal entries point ≡ None → is_typed tables (merged_at false entries point select) ≡ true
  merged_at_is_typed point e =
      merged_is_typed tables (at_steps tables (step_table (program_at (width_of tables) entries point select).steps))
      (plain_program (width_of tables) false (program_at (width_of tables) entries point select))
      (planned_is_built entries select fit fitting point e false) (point_typed point e)
