-- The programs of states are shaped, if all statements fit the tables, and these have names.
use Rattle.gp_explain.proofs.Prelude.{◌≡◌, ◌<◌, ℕ, zero, suc, Bool, true, false, cond, List, refl, arith, Option, Some, None, ◌==◌, ◌&&◌, nat_lt, nat_le, not, is_none, list_all, and_from, nat_tests, Refusal, E20, E21, Table, Query, is_there, select_fits, statement_fits, Select, Statement, target, width_of, Entry, Log, log_of, version_of, fate_of, transactions_in, version_before, log_refusal, statement_refusal, transaction_refusal, statements_fit, tables_in, rewritten, program_after, program_as_of, program_of_commit, composed, current, current_before, last_write, moved, onto, program_at, published_query, step_of, writes, steps_of, statement_at_fits, table_is_spellable, merged_at, plain_program, annotated_is_shaped, annotated_step_is_shaped, has_tables, is_shaped, some_none, and_parts, ltb-true}
use Rattle.std.specs.Option.{option_or}
use Rattle.gp_compose.specs.Seen.{saw_refusal}
use Rattle.gp_grammar.specs.Syntax as y
use Rattle.gp_algebra.specs.AnnotatedQueries as q
use Rattle.gp_explain.proofs.MergedShapes.{merged_shaped}
use Rattle.gp_reenact.proofs.LookingLemmas.{known_of}
use Rattle.gp_explain.proofs.PlainShapes.{all_joined, program_shaped}
use Rattle.gp_explain.proofs.RewrittenShapes.{query_shaped, rewritten_shaped, target_there}

module _ (catalogue : List Table) (named : (table : ℕ) → is_there catalogue table ≡ true → table_is_spellable catalogue table ≡ true) where
  abbrev AreShaped : (ℕ → Query) → Type 0
  AreShaped tables = (table : ℕ) → is_there catalogue table ≡ true → annotated_is_shaped catalogue (tables table) ≡ true

  -- a table in another version
  onto_shaped : (old new table : ℕ) (write : Option ℕ) (query : Query) → is_there catalogue table ≡ true → annotated_is_shaped catalogue query ≡ true
      → annotated_is_shaped catalogue (onto old new table write query) ≡ true
  onto_shaped old new table None query there shaped = named table there
  onto_shaped old new table (Some j) query there shaped =
      and_from (table_is_spellable catalogue table) _ (named table there) (and_from (annotated_is_shaped catalogue query) (table_is_spellable catalogue table) shaped (named table there))

  onto_have : (old new table : ℕ) (write : Option ℕ) (query : Query) → has_tables (onto old new table write query) ≡ true
  onto_have old new table None query = refl
  onto_have old new table (Some j) query = refl

  moved_shaped : (old new table : ℕ) (write : Option ℕ) (query : Query) → is_there catalogue table ≡ true → annotated_is_shaped catalogue query ≡ true
      → annotated_is_shaped catalogue (moved old new table write query) ≡ true
  moved_shaped old new table write query there shaped =
      elim (new == old) as (λ b. annotated_is_shaped catalogue (cond b query (onto old new table write query)) ≡ true) [
        | true ↦ shaped
        | false ↦ onto_shaped old new table write query there shaped
      ]

  moved_have : (old new table : ℕ) (write : Option ℕ) (query : Query) → has_tables query ≡ true → has_tables (moved old new table write query) ≡ true
  moved_have old new table write query have =
      elim (new == old) as (λ b. has_tables (cond b query (onto old new table write query)) ≡ true) [ true ↦ have | false ↦ onto_have old new table write query ]

  module _ (log : Log) (t : ℕ) (some_transaction : 0 < t)
      (fits : (k : ℕ) (statement : Statement) → log.statement t (suc k) ≡ Some statement → statement_fits catalogue statement ≡ true) where
    abbrev columns : ℕ → ℕ
    columns = width_of catalogue

    current_shaped : (k : ℕ) → AreShaped (current log t k)
    current_shaped zero table there = named table there
    current_shaped (suc k) table there =
        elim (writes (log.statement t (suc k)) table) as (λ b. annotated_is_shaped catalogue (cond b (q.step (suc k)) (current_before log t k table)) ≡ true) [
          | true ↦ refl
          | false ↦ moved_shaped (log.version t k) (log.version t (suc k)) table (last_write log t k table) (current log t k table) there (current_shaped k table there)
        ]

    current_have : (k table : ℕ) → has_tables (current log t k table) ≡ true
    current_have zero table = refl
    current_have (suc k) table =
        elim (writes (log.statement t (suc k)) table) as (λ b. has_tables (cond b (q.step (suc k)) (current_before log t k table)) ≡ true) [
          | true ↦ refl
          | false ↦ moved_have (log.version t k) (log.version t (suc k)) table (last_write log t k table) (current log t k table) (current_have k table)
        ]

    -- as the next statement reads it
    before_shaped : (k : ℕ) → AreShaped (current_before log t k)
    before_shaped k table there = moved_shaped (log.version t k) (log.version t (suc k)) table (last_write log t k table) (current log t k table) there (current_shaped k table there)

    before_have : (k table : ℕ) → has_tables (current_before log t k table) ≡ true
    before_have k table = moved_have (log.version t k) (log.version t (suc k)) table (last_write log t k table) (current log t k table) (current_have k table)

    composed_shaped : (k : ℕ) → list_all (annotated_step_is_shaped catalogue) (composed columns log t k) ≡ true
    composed_shaped zero = refl
    composed_shaped (suc k) =
        all_joined (annotated_step_is_shaped catalogue) (composed columns log t k) (step_of columns t (suc k) (current_before log t k) (log.statement t (suc k))) (composed_shaped k)
        (one (log.statement t (suc k)) refl)
      where
        one : (o : Option Statement) → log.statement t (suc k) ≡ o → list_all (annotated_step_is_shaped catalogue) (step_of columns t (suc k) (current_before log t k) o) ≡ true
        one None e = refl
        one (Some statement) e = two (target statement) refl
          where
            two : (own : Option ℕ) → target statement ≡ own → list_all (annotated_step_is_shaped catalogue) (steps_of columns t (suc k) (current_before log t k) statement own) ≡ true
            two None is = refl
            two (Some own) is =
                let fit = fits k statement e in
                let some : 0 < suc k = omega arith in
                let table = named own (target_there catalogue own statement is fit) in
                let query = rewritten_shaped catalogue (current_before log t k) (before_shaped k) (before_have k) t (suc k) some_transaction some own statement is fit in
                and_from _ true (and_from (table_is_spellable catalogue own) (annotated_is_shaped catalogue (rewritten columns t (suc k) statement (current_before log t k))) table query) refl

    pub after_shaped : (prov : Bool) (k : ℕ) (select : Select) → select_fits catalogue select ≡ true → is_shaped catalogue (plain_program columns prov (program_after columns log t k select)) ≡ true
    after_shaped prov k select fit =
        program_shaped catalogue columns prov (program_after columns log t k select) (composed_shaped k) (query_shaped catalogue (current log t k) (current_shaped k) (current_have k) select fit)

    pub commit_shaped : (prov : Bool) (before : ℕ) (select : Select) → select_fits catalogue select ≡ true
        → is_shaped catalogue (plain_program columns prov (program_of_commit columns log t before select)) ≡ true
    commit_shaped prov before select fit =
        program_shaped catalogue columns prov (program_of_commit columns log t before select) (composed_shaped (log.statement_count t))
        (query_shaped catalogue (published_query log t before)
        (λ table there. onto_shaped (log.version t (log.statement_count t)) before table (last_write log t (log.statement_count t) table) (current log t (log.statement_count t) table) there
        (current_shaped (log.statement_count t) table there))
        (λ table. onto_have (log.version t (log.statement_count t)) before table (last_write log t (log.statement_count t) table) (current log t (log.statement_count t) table)) select fit)

  as_of_shaped : (prov : Bool) (version : ℕ) (select : Select) → select_fits catalogue select ≡ true
      → is_shaped catalogue (plain_program (width_of catalogue) prov (program_as_of version select)) ≡ true
  as_of_shaped prov version select fit =
      program_shaped catalogue (width_of catalogue) prov (program_as_of version select) refl
      (query_shaped catalogue (λ table. q.scan table version) named (λ table. refl) select fit)

  -- a log that does not refuse a transaction has one of this number
  known_counts : (entries : List Entry) (t : ℕ) → transaction_refusal t entries ≡ None → 0 < t
  known_counts entries t e = go (nat_lt 0 t) refl e
    where
      above : (t : ℕ) → nat_lt 0 t ≡ true → 0 < t
      above t e = grind (arith, nat_tests)

      go : (b : Bool) → nat_lt 0 t ≡ b → cond (not (b && nat_le t (transactions_in entries))) (Some (E20 t)) (cond (is_none (version_of t entries)) (Some (E21 t (fate_of t entries))) None) ≡ None → 0 < t
      go true is e = above t is
      go false is e = absurd (some_none (E20 t) e)

  module _ (entries : List Entry) (fit : statements_fit catalogue entries ≡ true) (prov : Bool) (select : Select) (fitting : select_fits catalogue select ≡ true) where
    saw_shaped : (t k : ℕ) → 0 < t → is_shaped catalogue (plain_program (width_of catalogue) prov (program_at (width_of catalogue) entries (y.after t k) select)) ≡ true
    saw_shaped t k some = after_shaped (log_of entries) t some (λ k statement e. statement_at_fits catalogue entries fit t (suc k) statement e) prov k select fitting

    point_shaped : (point : y.Point) → log_refusal entries point ≡ None
        → is_shaped catalogue (plain_program (width_of catalogue) prov (program_at (width_of catalogue) entries point select)) ≡ true
    point_shaped (y.as_of version) e = as_of_shaped prov version select fitting
    point_shaped (y.after t k) e = saw_shaped t k (known_counts entries t (first (transaction_refusal t entries) e))
      where
        first : (o : Option Refusal) → option_or o (statement_refusal t k entries) ≡ None → o ≡ None
        first None e = refl
        first (Some refusal) e = absurd (some_none refusal e)
    point_shaped (y.Point.commit t) e =
        commit_shaped (log_of entries) t (known_counts entries t e) (λ k statement e. statement_at_fits catalogue entries fit t (suc k) statement e) prov (version_before (version_of t entries)) select fitting

-- the merged program of a state
pub merged_at_shaped : (entries : List Entry) → ((table : ℕ) → is_there (tables_in entries) table ≡ true → table_is_spellable (tables_in entries) table ≡ true)
    → statements_fit (tables_in entries) entries ≡ true → (prov : Bool) (select : Select) → select_fits (tables_in entries) select ≡ true
    → (point : y.Point) → log_refusal entries point ≡ None → is_shaped (tables_in entries) (merged_at prov entries point select) ≡ true
merged_at_shaped entries named fit prov select fitting point known =
    merged_shaped (tables_in entries) (plain_program (width_of (tables_in entries)) prov (program_at (width_of (tables_in entries)) entries point select))
    (point_shaped (tables_in entries) named entries fit prov select fitting point known)

-- that of what a transaction saw
pub seen_shaped : (entries : List Entry) → ((table : ℕ) → is_there (tables_in entries) table ≡ true → table_is_spellable (tables_in entries) table ≡ true)
    → statements_fit (tables_in entries) entries ≡ true → (select : Select) → select_fits (tables_in entries) select ≡ true
    → (t k : ℕ) → saw_refusal t k entries ≡ None → is_shaped (tables_in entries) (merged_at false entries (y.after t k) select) ≡ true
seen_shaped entries named fit select fitting t k known =
    merged_shaped (tables_in entries) (plain_program (width_of (tables_in entries)) false (program_at (width_of (tables_in entries)) entries (y.after t k) select))
    (saw_shaped (tables_in entries) named entries fit false select fitting t k
    (ltb-true 0 t (and_parts (nat_lt 0 t) (nat_le t (transactions_in entries)) (known_of t k entries known)).0))
