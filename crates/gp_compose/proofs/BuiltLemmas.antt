-- Composed programs are well built.
use Rattle.gp_compose.proofs.Prelude.{◌≡◌, ℕ, zero, suc, ◌+◌, ◌<◌, ◌≤◌, true, false, cond, List, [], ◌∷◌, ◌++◌, refl, sym, ap, ◌∙◌, subst, arith, Option, Some, None, ◌==◌, list_all, Table, Select, Statement, target, width_of, Cond, select_fits, statement_fits, Query, QueryStep, AreAfter, AreRising, AreSteps, IsTableProgram, IsWellBuilt, is_sound, numbers_with, reads_only, steps_read, step_table, Log, query_of, rewritten, none-some, same_Some, and_from, eqb-true}
use Rattle.std.specs.Prelude.{◌-◌}
use Rattle.gp_algebra.specs.Statements as s
use Rattle.gp_expr.specs.ExpressionForms.{cond_is_simple}
use Rattle.gp_algebra.specs.AnnotatedQueries as q
use Rattle.gp_algebra.specs.QueryForms.{HasSteps, IsTable}
use Rattle.gp_rewrite.proofs.FitLemmas.{delete_is_simple, update_is_simple}
use Rattle.gp_rewrite.proofs.FormLemmas.{query_answers, rewritten_step}
use Rattle.gp_rewrite.proofs.ReadLemmas.{query_reads, rewritten_reads}
use Rattle.gp_rewrite.proofs.SoundLemmas.{query_sound, rewritten_sound}
use Rattle.gp_compose.specs.Composed.{program_after, program_as_of, program_of_commit, composed, current, current_before, last_write, moved, onto, published_query, step_of, writes}
use Rattle.gp_compose.specs.StepForms.{is_target, steps_of}
use Rattle.gp_compose.specs.Composing.{looking, looking_program, published_table}
use Rattle.gp_compose.proofs.ComposedLemmas.{writes_is}
use Rattle.gp_compose.proofs.StepLists.{AreWithin, Stands, here, read_append, rising_append, sound_append, stands_among, stands_behind, stands_front, stands_table, steps_append, within_append}

plus_zero : (k : ℕ) → k + 0 ≡ k
plus_zero k = omega arith

plus_suc : (k n : ℕ) → k + suc n ≡ suc (k + n)
plus_suc k n = omega arith

suc_plus : (k n : ℕ) → k + suc n ≡ suc k + n
suc_plus k n = omega arith

-- ---- numbers

module _ (columns : ℕ → ℕ) (log : Log) (t : ℕ) where
  one_within : (k : ℕ) (tables : ℕ → Query) (o : Option Statement) → AreWithin k (step_of columns t k tables o)
  one_within k tables None = tt
  one_within k tables (Some statement) = go (target statement)
    where
      go : (written : Option ℕ) → AreWithin k (steps_of columns t k tables statement written)
      go None = tt
      go (Some written) = (omega arith, tt)

  one_after : (k : ℕ) (tables : ℕ → Query) (o : Option Statement) → AreAfter k (step_of columns t (suc k) tables o)
  one_after k tables None = tt
  one_after k tables (Some statement) = go (target statement)
    where
      go : (written : Option ℕ) → AreAfter k (steps_of columns t (suc k) tables statement written)
      go None = tt
      go (Some written) = (omega arith, tt)

  one_rises : (k : ℕ) (tables : ℕ → Query) (o : Option Statement) → AreRising (step_of columns t k tables o)
  one_rises k tables None = tt
  one_rises k tables (Some statement) = go (target statement)
    where
      go : (written : Option ℕ) → AreRising (steps_of columns t k tables statement written)
      go None = tt
      go (Some written) = (tt, tt)

  composed_within : (k : ℕ) → AreWithin k (composed columns log t k)
  composed_within zero = tt
  composed_within (suc k) =
      within_append k (suc k) (composed columns log t k) (step_of columns t (suc k) (current_before log t k) (log.statement t (suc k))) (omega arith) (composed_within k) (one_within (suc k) (current_before log t k) (log.statement t (suc k)))

  composed_rises : (k : ℕ) → AreRising (composed columns log t k)
  composed_rises zero = tt
  composed_rises (suc k) =
      rising_append k (composed columns log t k) (step_of columns t (suc k) (current_before log t k) (log.statement t (suc k))) (composed_rises k) (composed_within k)
      (one_after k (current_before log t k) (log.statement t (suc k))) (one_rises (suc k) (current_before log t k) (log.statement t (suc k)))

  -- ---- what stands for a table

  -- the step that wrote a table last is there
  composed_stands : (k table j : ℕ) → last_write log t k table ≡ Some j → Stands j table (composed columns log t k)
  composed_stands zero table j e = absurd (none-some j e)
  composed_stands (suc k) table j e = one (log.statement t (suc k)) e (composed_stands k table j)
    where
      one : (o : Option Statement) → cond (writes o table) (Some (suc k)) (last_write log t k table) ≡ Some j → (last_write log t k table ≡ Some j → Stands j table (composed columns log t k)) →
          Stands j table (composed columns log t k ++ step_of columns t (suc k) (current_before log t k) o)
      one None e before = stands_front j table (composed columns log t k) [] (before e)
      one (Some statement) e before = two (target statement) e
        where
          two : (written : Option ℕ) → cond (is_target written table) (Some (suc k)) (last_write log t k table) ≡ Some j → Stands j table (composed columns log t k ++ steps_of columns t (suc k) (current_before log t k) statement written)
          two None e = stands_front j table (composed columns log t k) [] (before e)
          two (Some written) e =
              elim (table == written) as (λ b. (table == written) ≡ b → cond b (Some (suc k)) (last_write log t k table) ≡ Some j → Stands j table (composed columns log t k ++ (record { j = suc k; table = written; query = rewritten columns t (suc k) statement (current_before log t k) } ∷ []))) [
                | true ↦ λ same e. let last : suc k ≡ j = same_Some (suc k) j e in
                    stands_behind k j table (composed columns log t k) (record { j = suc k; table = written; query = rewritten columns t (suc k) statement (current_before log t k) } ∷ []) (composed_within k) (omega arith)
                    (here (record { j = suc k; table = written; query = rewritten columns t (suc k) statement (current_before log t k) }) [] last (sym (eqb-true table written same)))
                | false ↦ λ same e. stands_front j table (composed columns log t k) (record { j = suc k; table = written; query = rewritten columns t (suc k) statement (current_before log t k) } ∷ []) (before e)
              ] refl e

  -- and among the steps of more statements
  stands_among_more : (k more table j : ℕ) → last_write log t k table ≡ Some j → Stands j table (composed columns log t (k + more))
  stands_among_more k zero table j e = subst (λ n. Stands j table (composed columns log t n)) (sym (plus_zero k)) (composed_stands k table j e)
  stands_among_more k (suc more) table j e =
      subst (λ n. Stands j table (composed columns log t n)) (sym (plus_suc k more))
      (stands_front j table (composed columns log t (k + more)) (step_of columns t (suc (k + more)) (current_before log t (k + more)) (log.statement t (suc (k + more)))) (stands_among_more k more table j e))

  -- the step of a statement that writes a table, among the steps of more statements
  stands_within : (n j table : ℕ) → suc j ≤ n → writes (log.statement t (suc j)) table ≡ true → Stands (suc j) table (composed columns log t n)
  stands_within n j table within e =
      let is : suc j + (n - suc j) ≡ n = omega arith in
      subst (λ m. Stands (suc j) table (composed columns log t m)) is
      (stands_among_more (suc j) (n - suc j) table (suc j) (ap (λ b. cond b (Some (suc j)) (last_write log t j table)) e))

  -- what is said of scans, of steps and of what was moved is said of what stands for a table
  moved_has : (P : Query → Type 0) (old new table : ℕ) (o : Option ℕ) (query : Query) → ((v : ℕ) → P (q.scan table v)) → ((old new : ℕ) (query : Query) → P query → P (q.publish (q.scan table old) query (q.scan table new)))
      → P query → P (moved old new table o query)
  moved_has P old new table None query scans moves has = elim (new == old) as (λ b. P (cond b query (q.scan table new))) [ true ↦ has | false ↦ scans new ]
  moved_has P old new table (Some j) query scans moves has = elim (new == old) as (λ b. P (cond b query (q.publish (q.scan table old) query (q.scan table new)))) [ true ↦ has | false ↦ moves old new query has ]

  current_has : (P : Query → Type 0) (table k : ℕ) → ((v : ℕ) → P (q.scan table v)) → ((old new : ℕ) (query : Query) → P query → P (q.publish (q.scan table old) query (q.scan table new)))
      → ((j : ℕ) → suc j ≤ k → writes (log.statement t (suc j)) table ≡ true → P (q.step (suc j))) → P (current log t k table)
  current_has P table zero scans moves steps = scans (log.version t zero)
  current_has P table (suc k) scans moves steps =
      elim (writes (log.statement t (suc k)) table) as (λ b. writes (log.statement t (suc k)) table ≡ b → P (cond b (q.step (suc k)) (current_before log t k table))) [
        | true ↦ λ e. steps k (omega arith) e
        | false ↦ λ e. moved_has P (log.version t k) (log.version t (suc k)) table (last_write log t k table) (current log t k table) scans moves (current_has P table k scans moves (λ j within. steps j (omega arith)))
      ] refl

  before_has : (P : Query → Type 0) (table k : ℕ) → ((v : ℕ) → P (q.scan table v)) → ((old new : ℕ) (query : Query) → P query → P (q.publish (q.scan table old) query (q.scan table new)))
      → ((j : ℕ) → suc j ≤ k → writes (log.statement t (suc j)) table ≡ true → P (q.step (suc j))) → P (current_before log t k table)
  before_has P table k scans moves steps = moved_has P (log.version t k) (log.version t (suc k)) table (last_write log t k table) (current log t k table) scans moves (current_has P table k scans moves steps)

  current_table : (k more table : ℕ) → IsTable columns (step_table (composed columns log t (k + more))) table (current log t k table)
  current_table k more table = current_has (IsTable columns (step_table (composed columns log t (k + more))) table) table k (λ v. refl) (λ old new query is. (refl, is, refl))
      (λ j within e. stands_table (suc j) table (composed columns log t (k + more)) (stands_within (k + more) j table (omega arith) e))

  before_table : (k more table : ℕ) → IsTable columns (step_table (composed columns log t (k + more))) table (current_before log t k table)
  before_table k more table = before_has (IsTable columns (step_table (composed columns log t (k + more))) table) table k (λ v. refl) (λ old new query is. (refl, is, refl))
      (λ j within e. stands_table (suc j) table (composed columns log t (k + more)) (stands_within (k + more) j table (omega arith) e))

  current_sound : (k table : ℕ) → is_sound (current log t k table) ≡ true
  current_sound k table = current_has (λ query. is_sound query ≡ true) table k (λ v. refl) (λ old new query is. and_from (is_sound query) true is refl) (λ j within e. refl)

  before_sound : (k table : ℕ) → is_sound (current_before log t k table) ≡ true
  before_sound k table = before_has (λ query. is_sound query ≡ true) table k (λ v. refl) (λ old new query is. and_from (is_sound query) true is refl) (λ j within e. refl)

  current_reads : (k table : ℕ) → reads_only (numbers_with [] (composed columns log t k)) (current log t k table) ≡ true
  current_reads k table = current_has (λ query. reads_only (numbers_with [] (composed columns log t k)) query ≡ true) table k (λ v. refl) (λ old new query is. and_from (reads_only (numbers_with [] (composed columns log t k)) query) true is refl)
      (λ j within e. stands_among (suc j) table [] (composed columns log t k) (stands_within k j table within e))

  before_reads : (k table : ℕ) → reads_only (numbers_with [] (composed columns log t k)) (current_before log t k table) ≡ true
  before_reads k table = before_has (λ query. reads_only (numbers_with [] (composed columns log t k)) query ≡ true) table k (λ v. refl) (λ old new query is. and_from (reads_only (numbers_with [] (composed columns log t k)) query) true is refl)
      (λ j within e. stands_among (suc j) table [] (composed columns log t k) (stands_within k j table within e))

  published_table_is : (before table : ℕ) → IsTable columns (step_table (composed columns log t (log.statement_count t))) table (published_query log t before table)
  published_table_is before table = go (last_write log t (log.statement_count t) table)
    where
      last : IsTable columns (step_table (composed columns log t (log.statement_count t))) table (current log t (log.statement_count t) table)
      last = subst (λ n. IsTable columns (step_table (composed columns log t n)) table (current log t (log.statement_count t) table)) (plus_zero (log.statement_count t)) (current_table (log.statement_count t) 0 table)

      go : (o : Option ℕ) → IsTable columns (step_table (composed columns log t (log.statement_count t))) table (onto (log.version t (log.statement_count t)) before table o (current log t (log.statement_count t) table))
      go None = refl
      go (Some j) = (refl, last, refl)

  published_sound : (before table : ℕ) → is_sound (published_query log t before table) ≡ true
  published_sound before table = go (last_write log t (log.statement_count t) table)
    where
      go : (o : Option ℕ) → is_sound (onto (log.version t (log.statement_count t)) before table o (current log t (log.statement_count t) table)) ≡ true
      go None = refl
      go (Some j) = and_from (is_sound (current log t (log.statement_count t) table)) true (current_sound (log.statement_count t) table) refl

  published_reads : (before table : ℕ) → reads_only (numbers_with [] (composed columns log t (log.statement_count t))) (published_query log t before table) ≡ true
  published_reads before table = go (last_write log t (log.statement_count t) table)
    where
      go : (o : Option ℕ) → reads_only (numbers_with [] (composed columns log t (log.statement_count t))) (onto (log.version t (log.statement_count t)) before table o (current log t (log.statement_count t) table)) ≡ true
      go None = refl
      go (Some j) = and_from (reads_only (numbers_with [] (composed columns log t (log.statement_count t))) (current log t (log.statement_count t) table)) true (current_reads (log.statement_count t) table) refl

  -- ---- what the steps read

  one_reads : (k : ℕ) (o : Option Statement) → steps_read (numbers_with [] (composed columns log t k)) (step_of columns t (suc k) (current_before log t k) o) ≡ true
  one_reads k None = refl
  one_reads k (Some statement) = go (target statement)
    where
      go : (written : Option ℕ) → steps_read (numbers_with [] (composed columns log t k)) (steps_of columns t (suc k) (current_before log t k) statement written) ≡ true
      go None = refl
      go (Some written) =
          and_from (reads_only (numbers_with [] (composed columns log t k)) (rewritten columns t (suc k) statement (current_before log t k))) true
          (rewritten_reads (numbers_with [] (composed columns log t k)) (current_before log t k) (before_reads k) columns t (suc k) statement) refl

  composed_reads : (k : ℕ) → steps_read [] (composed columns log t k) ≡ true
  composed_reads zero = refl
  composed_reads (suc k) = read_append [] (composed columns log t k) (step_of columns t (suc k) (current_before log t k) (log.statement t (suc k))) (composed_reads k) (one_reads k (log.statement t (suc k)))

-- ---- forms

-- every statement fits, and transactions count from 1
module _ (catalogue : List Table) (log : Log) (t : ℕ) (some_transaction : 0 < t)
    (fits : (k : ℕ) (statement : Statement) → log.statement t (suc k) ≡ Some statement → statement_fits catalogue statement ≡ true) where
  composed_forms : (k more : ℕ) → AreSteps (width_of catalogue) (step_table (composed (width_of catalogue) log t (k + more))) (composed (width_of catalogue) log t k)
  composed_forms zero more = tt
  composed_forms (suc k) more =
      steps_append (width_of catalogue) of_step (composed (width_of catalogue) log t k) (step_of (width_of catalogue) t (suc k) (current_before log t k) (log.statement t (suc k)))
      (subst (λ n. AreSteps (width_of catalogue) (step_table (composed (width_of catalogue) log t n)) (composed (width_of catalogue) log t k)) (suc_plus k more) (composed_forms k (suc more)))
      (one (log.statement t (suc k)) refl)
    where
      of_step : ℕ → ℕ
      of_step = step_table (composed (width_of catalogue) log t (suc k + more))

      tables : (table : ℕ) → IsTable (width_of catalogue) of_step table (current_before log t k table)
      tables table = subst (λ n. IsTable (width_of catalogue) (step_table (composed (width_of catalogue) log t n)) table (current_before log t k table)) (suc_plus k more) (before_table (width_of catalogue) log t k (suc more) table)

      one : (o : Option Statement) → log.statement t (suc k) ≡ o → AreSteps (width_of catalogue) of_step (step_of (width_of catalogue) t (suc k) (current_before log t k) o)
      one None e = tt
      one (Some statement) e = two (target statement) refl
        where
          two : (written : Option ℕ) → target statement ≡ written → AreSteps (width_of catalogue) of_step (steps_of (width_of catalogue) t (suc k) (current_before log t k) statement written)
          two None is = tt
          two (Some written) is = (rewritten_step catalogue of_step (current_before log t k) tables t (suc k) written statement (fits k statement e) is, tt)

  composed_sound : (k : ℕ) → list_all (λ (step : QueryStep). is_sound step.query) (composed (width_of catalogue) log t k) ≡ true
  composed_sound zero = refl
  composed_sound (suc k) = sound_append (composed (width_of catalogue) log t k) (step_of (width_of catalogue) t (suc k) (current_before log t k) (log.statement t (suc k))) (composed_sound k) (one (log.statement t (suc k)) refl)
    where
      one : (o : Option Statement) → log.statement t (suc k) ≡ o → list_all (λ (step : QueryStep). is_sound step.query) (step_of (width_of catalogue) t (suc k) (current_before log t k) o) ≡ true
      one None e = refl
      one (Some statement) e = two (target statement)
        where
          two : (written : Option ℕ) → list_all (λ (step : QueryStep). is_sound step.query) (steps_of (width_of catalogue) t (suc k) (current_before log t k) statement written) ≡ true
          two None = refl
          two (Some written) =
              and_from (is_sound (rewritten (width_of catalogue) t (suc k) statement (current_before log t k))) true
              (rewritten_sound (current_before log t k) (before_sound (width_of catalogue) log t k) t (suc k) some_transaction (omega arith) catalogue statement (fits k statement e)) refl

  -- ---- programs

  composed_is_built : (k : ℕ) (last : Query) → reads_only (numbers_with [] (composed (width_of catalogue) log t k)) last ≡ true → is_sound last ≡ true → HasSteps (width_of catalogue) (record { steps = composed (width_of catalogue) log t k; last = last })
  composed_is_built k last reads sound = record {
    rising = composed_rises (width_of catalogue) log t k;
    forms = subst (λ n. AreSteps (width_of catalogue) (step_table (composed (width_of catalogue) log t n)) (composed (width_of catalogue) log t k)) (plus_zero k) (composed_forms k 0);
    reads = composed_reads (width_of catalogue) log t k;
    sound = composed_sound k;
    last_reads = reads;
    last_sound = sound;
  }

  pub after_is_built : (k : ℕ) (select : Select) → select_fits catalogue select ≡ true → IsWellBuilt (width_of catalogue) (program_after (width_of catalogue) log t k select)
  after_is_built k select fit = record {
    steps =
        composed_is_built k (query_of (current log t k) select) (query_reads (numbers_with [] (composed (width_of catalogue) log t k)) (current log t k) (current_reads (width_of catalogue) log t k) select)
        (query_sound (current log t k) (current_sound (width_of catalogue) log t k) catalogue select fit);
    answer = query_answers catalogue (step_table (composed (width_of catalogue) log t k)) (current log t k) tables select fit;
  }
    where
      tables : (table : ℕ) → IsTable (width_of catalogue) (step_table (composed (width_of catalogue) log t k)) table (current log t k table)
      tables table = subst (λ n. IsTable (width_of catalogue) (step_table (composed (width_of catalogue) log t n)) table (current log t k table)) (plus_zero k) (current_table (width_of catalogue) log t k 0 table)

  pub commit_is_built : (before : ℕ) (select : Select) → select_fits catalogue select ≡ true → IsWellBuilt (width_of catalogue) (program_of_commit (width_of catalogue) log t before select)
  commit_is_built before select fit =
      let steps = composed (width_of catalogue) log t (log.statement_count t) in
      record {
        steps =
            composed_is_built (log.statement_count t) (query_of (published_query log t before) select) (query_reads (numbers_with [] steps) (published_query log t before) (published_reads (width_of catalogue) log t before) select)
            (query_sound (published_query log t before) (published_sound (width_of catalogue) log t before) catalogue select fit);
        answer = query_answers catalogue (step_table steps) (published_query log t before) (published_table_is (width_of catalogue) log t before) select fit;
      }

  pub published_is_built : (before table : ℕ) → IsTableProgram (width_of catalogue) table (published_table (width_of catalogue) log t before table)
  published_is_built before table = record {
    steps = composed_is_built (log.statement_count t) (published_query log t before table) (published_reads (width_of catalogue) log t before table) (published_sound (width_of catalogue) log t before table);
    contents = published_table_is (width_of catalogue) log t before table;
  }

  -- the rows by which one looks at a statement that writes a table are contents of the table
  pub looking_is_built : (k table : ℕ) (statement : Statement) → log.statement t (suc k) ≡ Some statement → target statement ≡ Some table
      → IsTableProgram (width_of catalogue) table (looking_program (width_of catalogue) log t k statement)
  looking_is_built k table statement e is = record {
    steps = composed_is_built (suc k) (looking (suc k) (current_before log t k) statement) (reads statement e) (sound statement (fits k statement e));
    contents = contents statement e is;
  }
    where
      steps : List QueryStep
      steps = composed (width_of catalogue) log t (suc k)

      stands : (statement : Statement) (written : ℕ) → log.statement t (suc k) ≡ Some statement → target statement ≡ Some written → Stands (suc k) written steps
      stands statement written e is = stands_within (width_of catalogue) log t (suc k) k written (omega arith) (writes_is log t k written statement e is)

      before : (written : ℕ) → IsTable (width_of catalogue) (step_table steps) written (current_before log t k written)
      before written = subst (λ n. IsTable (width_of catalogue) (step_table (composed (width_of catalogue) log t n)) written (current_before log t k written)) (plus_suc k 0 ∙ ap suc (plus_zero k)) (before_table (width_of catalogue) log t k 1 written)

      more_reads : (written : ℕ) → reads_only (numbers_with [] steps) (current_before log t k written) ≡ true
      more_reads written = before_has (width_of catalogue) log t (λ query. reads_only (numbers_with [] steps) query ≡ true) written k (λ v. refl) (λ old new query is. and_from (reads_only (numbers_with [] steps) query) true is refl)
          (λ j within e. stands_among (suc j) written [] steps (stands_within (width_of catalogue) log t (suc k) j written (omega arith) e))

      reads : (statement : Statement) → log.statement t (suc k) ≡ Some statement → reads_only (numbers_with [] steps) (looking (suc k) (current_before log t k) statement) ≡ true
      reads (s.insert written rows) e = stands_among (suc k) written [] steps (stands (s.insert written rows) written e refl)
      reads (s.insert_select written select) e = stands_among (suc k) written [] steps (stands (s.insert_select written select) written e refl)
      reads (s.update written sets c) e = more_reads written
      reads (s.delete written c) e = more_reads written
      reads (s.read select) e = refl

      simple_chosen : (written : ℕ) (c : Cond) → cond_is_simple c ≡ true → is_sound (q.select (current_before log t k written) c) ≡ true
      simple_chosen written c simple = and_from (is_sound (current_before log t k written)) (cond_is_simple c) (before_sound (width_of catalogue) log t k written) simple

      sound : (statement : Statement) → statement_fits catalogue statement ≡ true → is_sound (looking (suc k) (current_before log t k) statement) ≡ true
      sound (s.insert written rows) fit = refl
      sound (s.insert_select written select) fit = refl
      sound (s.update written sets c) fit = simple_chosen written c (update_is_simple catalogue written sets c fit)
      sound (s.delete written c) fit = simple_chosen written c (delete_is_simple catalogue written c fit)
      sound (s.read select) fit = refl

      contents : (statement : Statement) → log.statement t (suc k) ≡ Some statement → target statement ≡ Some table
          → IsTable (width_of catalogue) (step_table steps) table (looking (suc k) (current_before log t k) statement)
      contents (s.insert written rows) e is = stands_table (suc k) table steps (stands (s.insert written rows) table e is)
      contents (s.insert_select written select) e is = stands_table (suc k) table steps (stands (s.insert_select written select) table e is)
      contents (s.update written sets c) e is = subst (λ place. IsTable (width_of catalogue) (step_table steps) place (current_before log t k written)) (same_Some written table is) (before written)
      contents (s.delete written c) e is = subst (λ place. IsTable (width_of catalogue) (step_table steps) place (current_before log t k written)) (same_Some written table is) (before written)
      contents (s.read select) e is = absurd (none-some table is)

pub as_of_is_built : (catalogue : List Table) (version : ℕ) (select : Select) → select_fits catalogue select ≡ true → IsWellBuilt (width_of catalogue) (program_as_of version select)
as_of_is_built catalogue version select fit = record {
  steps = record {
    rising = tt;
    forms = tt;
    reads = refl;
    sound = refl;
    last_reads = query_reads [] (λ table. q.scan table version) (λ table. refl) select;
    last_sound = query_sound (λ table. q.scan table version) (λ table. refl) catalogue select fit;
  };
  answer = query_answers catalogue (step_table []) (λ table. q.scan table version) (λ table. refl) select fit;
}
