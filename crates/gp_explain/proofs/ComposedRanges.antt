-- The programs of the states of a small log are in range, so they have texts, which explain the states.
use Rattle.gp_explain.proofs.Prelude.{◌≡◌, ◌≤◌, ℕ, zero, suc, Bool, true, false, cond, List, [], ◌∷◌, length, refl, subst, arith, Option, Some, None, ◌==◌, ◌&&◌, nat_lt, nat_le, not, is_none, AllByRecursion, leb-true, none-some, E20, E21, Table, MAX_COLUMNS, Query, step_table, select_fits, statement_fits, Select, Statement, target, width_of, Entry, Log, fate_of, log_of, transactions_in, version_of, version_before, log_refusal, statement_refusal, transaction_refusal, tables_in, statements_fit, statement_at_fits, query_of, program_after, program_as_of, program_of_commit, composed, current, current_before, last_write, moved, onto, program_at, published_query, step_of, writes, steps_of, plain_program, merged_at, program_text, Explains, IsU32, ProgramInRange, AreNamed, HasFewTables, StatementIsSmall, each_append, some_none, and_parts}
use Rattle.std.proofs.lemmas.Option.{same_Some}
use Rattle.gp_base.specs.declared.refusal.Refusal.TheVariants.{E22, E23}
use Rattle.gp_grammar.specs.Syntax as y
use Rattle.gp_algebra.specs.AnnotatedQueries as q
use Rattle.gp_machine.specs.Entries.{Created, Began, Ran, Committed, Ended, at_newest, begin_version, is_read_committed, is_statement_at, read_next, statement_at, statement_count, statement_version, versions_in}
use Rattle.gp_machine.proofs.EntryCounts.{count-most}
use Rattle.gp_explain.specs.SmallLogs.{EntryIsSmall, IsSmall}
use Rattle.gp_compose.specs.Seen.{missing_statement_refusal, saw_refusal, unknown_refusal}
use Rattle.gp_explain.proofs.ComposedShapes.{merged_at_shaped, seen_shaped}
use Rattle.gp_explain.proofs.MeaningLemmas.{spelled_explains, spelled_saw}
use Rattle.gp_explain.proofs.MergedRanges.{merged_range}
use Rattle.gp_explain.proofs.PlainRanges.{AnnotatedInRange, AnnotatedStepInRange, program_range, reach, widths}
use Rattle.gp_explain.proofs.RangeLemmas.{program_spelled}
use Rattle.gp_explain.proofs.RewrittenRanges.{query_range, rewritten_range}
use Rattle.gp_base.proofs.SmallLemmas.{none_parts}
use Rattle.gp_reenact.proofs.LookingLemmas.{known_of}

-- ---- the tables that statements read

module _ (catalogue : List Table) (few : (table : ℕ) → width_of catalogue table ≤ MAX_COLUMNS) (of_step : ℕ → ℕ) (prov : Bool) where
  abbrev InRange : Query → Type 0
  InRange query = AnnotatedInRange (width_of catalogue) of_step prov query

  abbrev far : Query → ℕ
  far query = reach (widths (width_of catalogue) of_step prov query)

  onto_range : (old new table : ℕ) (write : Option ℕ) (query : Query) → IsU32 old → IsU32 new → InRange query → InRange (onto old new table write query)
  onto_range old new table None query past now so = now
  onto_range old new table (Some j) query past now so = let own = few table in (omega (arith, own), (past, (so, now)))

  onto_far : (old new table : ℕ) (write : Option ℕ) (query : Query) → far (onto old new table write query) ≤ 19
  onto_far old new table None query = let own = few table in omega (arith, own)
  onto_far old new table (Some j) query = let own = few table in omega (arith, own)

  moved_range : (old new table : ℕ) (write : Option ℕ) (query : Query) → IsU32 old → IsU32 new → InRange query → InRange (moved old new table write query)
  moved_range old new table write query past now so =
      elim (new == old) as (λ b. InRange (cond b query (onto old new table write query))) [ true ↦ so | false ↦ onto_range old new table write query past now so ]

  moved_far : (old new table : ℕ) (write : Option ℕ) (query : Query) → far query ≤ 19 → far (moved old new table write query) ≤ 19
  moved_far old new table write query so =
      elim (new == old) as (λ b. far (cond b query (onto old new table write query)) ≤ 19) [ true ↦ so | false ↦ onto_far old new table write query ]

  module _ (log : Log) (t : ℕ) (of_transaction : IsU32 t) (versions : (k : ℕ) → IsU32 (log.version t k))
      (fits : (k : ℕ) (statement : Statement) → log.statement t (suc k) ≡ Some statement → (statement_fits catalogue statement ≡ true) × StatementIsSmall statement) where
    abbrev columns : ℕ → ℕ
    columns = width_of catalogue

    current_range : (k : ℕ) → IsU32 k → (table : ℕ) → InRange (current log t k table)
    current_range zero count table = versions zero
    current_range (suc k) count table =
        elim (writes (log.statement t (suc k)) table) as (λ b. InRange (cond b (q.step (suc k)) (current_before log t k table))) [
          | true ↦ count
          | false ↦ moved_range (log.version t k) (log.version t (suc k)) table (last_write log t k table) (current log t k table) (versions k) (versions (suc k)) (current_range k (omega (arith, count)) table)
        ]

    current_far : (k table : ℕ) → far (current log t k table) ≤ 19
    current_far zero table = let own = few table in omega (arith, own)
    current_far (suc k) table =
        elim (writes (log.statement t (suc k)) table) as (λ b. far (cond b (q.step (suc k)) (current_before log t k table)) ≤ 19) [
          | true ↦ let own = few (of_step (suc k)) in omega (arith, own)
          | false ↦ moved_far (log.version t k) (log.version t (suc k)) table (last_write log t k table) (current log t k table) (current_far k table)
        ]

    -- as the next statement reads it
    before_range : (k : ℕ) → IsU32 k → (table : ℕ) → InRange (current_before log t k table)
    before_range k count table =
        moved_range (log.version t k) (log.version t (suc k)) table (last_write log t k table) (current log t k table) (versions k) (versions (suc k)) (current_range k count table)

    before_far : (k table : ℕ) → far (current_before log t k table) ≤ 19
    before_far k table = moved_far (log.version t k) (log.version t (suc k)) table (last_write log t k table) (current log t k table) (current_far k table)

    composed_range : (k : ℕ) → IsU32 k → AllByRecursion (AnnotatedStepInRange columns of_step prov) (composed columns log t k)
    composed_range zero count = tt
    composed_range (suc k) count =
        each_append (AnnotatedStepInRange columns of_step prov) (composed columns log t k) (step_of columns t (suc k) (current_before log t k) (log.statement t (suc k)))
        (composed_range k (omega (arith, count))) (one (log.statement t (suc k)) refl)
      where
        one : (o : Option Statement) → log.statement t (suc k) ≡ o → AllByRecursion (AnnotatedStepInRange columns of_step prov) (step_of columns t (suc k) (current_before log t k) o)
        one None e = tt
        one (Some statement) e = two (target statement)
          where
            two : (own : Option ℕ) → AllByRecursion (AnnotatedStepInRange columns of_step prov) (steps_of columns t (suc k) (current_before log t k) statement own)
            two None = tt
            two (Some own) =
                let fit = fits k statement e in
                ((count, rewritten_range catalogue few of_step prov (current_before log t k) (before_range k (omega (arith, count))) (before_far k) t (suc k) of_transaction count statement fit.0 fit.1), tt)

    read_range : (k : ℕ) → IsU32 k → (select : Select) → select_fits catalogue select ≡ true → HasFewTables select → InRange (query_of (current log t k) select)
    read_range k count select fit short = query_range catalogue few of_step prov (current log t k) (current_range k count) (current_far k) select fit short

    published_range : (before : ℕ) → IsU32 before → IsU32 (log.statement_count t) → (select : Select) → select_fits catalogue select ≡ true → HasFewTables select
        → InRange (query_of (published_query log t before) select)
    published_range before past count select fit short =
        query_range catalogue few of_step prov (published_query log t before)
        (λ table. onto_range (log.version t (log.statement_count t)) before table (last_write log t (log.statement_count t) table) (current log t (log.statement_count t) table)
        (versions (log.statement_count t)) past (current_range (log.statement_count t) count table))
        (λ table. onto_far (log.version t (log.statement_count t)) before table (last_write log t (log.statement_count t) table) (current log t (log.statement_count t) table)) select fit short

  version_range : (version : ℕ) → IsU32 version → (select : Select) → select_fits catalogue select ≡ true → HasFewTables select → InRange (query_of (λ table. q.scan table version) select)
  version_range version count select fit short =
      query_range catalogue few of_step prov (λ table. q.scan table version) (λ table. count) (λ table. let own = few table in omega (arith, own)) select fit short

-- ---- the numbers of a log are at most as many as its lines

newest_most : (test : Entry → List Entry → Bool) (value : Entry → List Entry → ℕ) → ((entry : Entry) (older : List Entry) → value entry older ≤ length older)
    → (entries : List Entry) → at_newest test value zero entries ≤ length entries
newest_most test value most [] = omega arith
newest_most test value most (entry ∷ older) =
    elim (test entry older) as (λ b. cond b (value entry older) (at_newest test value zero older) ≤ suc (length older)) [
      | true ↦ let own = most entry older in omega (arith, own)
      | false ↦ let rest = newest_most test value most older in omega (arith, rest)
    ]

versions_most : (entries : List Entry) → versions_in entries ≤ length entries
versions_most entries = count-most _ entries

begin_most : (t : ℕ) (entries : List Entry) → begin_version t entries ≤ length entries
begin_most t entries = newest_most _ (λ entry older. versions_in older) (λ entry older. versions_most older) entries

next_most : (t : ℕ) (entries : List Entry) → read_next t entries ≤ length entries
next_most t entries =
    elim (is_read_committed t entries) as (λ b. cond b (versions_in entries) (begin_version t entries) ≤ length entries) [ true ↦ versions_most entries | false ↦ begin_most t entries ]

version_most : (t k : ℕ) (entries : List Entry) → statement_version t k entries ≤ length entries
version_most t zero entries = begin_most t entries
version_most t (suc k) entries = newest_most (is_statement_at t (suc k)) (λ entry older. read_next t older) (λ entry older. next_most t older) entries

before_most : (t : ℕ) (entries : List Entry) → version_before (version_of t entries) ≤ length entries
before_most t [] = omega arith
before_most t (Created line session table ∷ older) = let rest = before_most t older in omega (arith, rest)
before_most t (Began line session u level ∷ older) = let rest = before_most t older in omega (arith, rest)
before_most t (Ran line session command u statement ∷ older) = let rest = before_most t older in omega (arith, rest)
before_most t (Committed line session u ∷ older) =
    elim (u == t) as (λ b. version_before (cond b (Some (suc (versions_in older))) (version_of t older)) ≤ suc (length older)) [
      | true ↦ let own = versions_most older in omega (arith, own)
      | false ↦ let rest = before_most t older in omega (arith, rest)
    ]
before_most t (Ended line session end u ∷ older) = let rest = before_most t older in omega (arith, rest)

-- the statements of a small log
at_small : (entries : List Entry) → AllByRecursion EntryIsSmall entries → (t k : ℕ) (statement : Statement) → statement_at t k entries ≡ Some statement → StatementIsSmall statement
at_small [] small t k statement e = absurd (none-some statement e)
at_small (Created line session table ∷ older) small t k statement e = at_small older small.1 t k statement e
at_small (Began line session u level ∷ older) small t k statement e = at_small older small.1 t k statement e
at_small (Ran line session command u other ∷ older) small t k statement e =
    go ((u == t) && (suc (statement_count t older) == k)) e (at_small older small.1 t k statement)
  where
    go : (b : Bool) → cond b (Some other) (statement_at t k older) ≡ Some statement → (statement_at t k older ≡ Some statement → StatementIsSmall statement) → StatementIsSmall statement
    go true e before = subst StatementIsSmall (same_Some other statement e) small.0
    go false e before = before e
at_small (Committed line session u ∷ older) small t k statement e = at_small older small.1 t k statement e
at_small (Ended line session end u ∷ older) small t k statement e = at_small older small.1 t k statement e

-- ---- what a log does not refuse is in it

known_most : (entries : List Entry) (t : ℕ) → transaction_refusal t entries ≡ None → t ≤ transactions_in entries
known_most entries t e = go (nat_lt 0 t) (nat_le t (transactions_in entries)) refl e
  where
    go : (a b : Bool) → nat_le t (transactions_in entries) ≡ b
        → cond (not (a && b)) (Some (E20 t)) (cond (is_none (version_of t entries)) (Some (E21 t (fate_of t entries))) None) ≡ None → t ≤ transactions_in entries
    go true true is e = leb-true t (transactions_in entries) is
    go true false is e = absurd (some_none (E20 t) e)
    go false b is e = absurd (some_none (E20 t) e)

statement_most : (entries : List Entry) (t k : ℕ) → statement_refusal t k entries ≡ None → k ≤ statement_count t entries
statement_most entries t k e = go (nat_lt 0 k) (nat_le k (statement_count t entries)) refl e
  where
    go : (a b : Bool) → nat_le k (statement_count t entries) ≡ b → cond (a && b) None (Some (E22 t (statement_count t entries))) ≡ None → k ≤ statement_count t entries
    go true true is e = leb-true k (statement_count t entries) is
    go true false is e = absurd (some_none (E22 t (statement_count t entries)) e)
    go false b is e = absurd (some_none (E22 t (statement_count t entries)) e)

as_of_most : (entries : List Entry) (version : ℕ) → log_refusal entries (y.as_of version) ≡ None → version ≤ versions_in entries
as_of_most entries version e = go (nat_le version (versions_in entries)) refl e
  where
    go : (b : Bool) → nat_le version (versions_in entries) ≡ b → cond b None (Some (E23 (versions_in entries))) ≡ None → version ≤ versions_in entries
    go true is e = leb-true version (versions_in entries) is
    go false is e = absurd (some_none (E23 (versions_in entries)) e)

-- ---- programs

module _ (entries : List Entry) (small : IsSmall entries) (fit : statements_fit (tables_in entries) entries ≡ true) (prov : Bool)
    (select : Select) (fitting : select_fits (tables_in entries) select ≡ true) (short : HasFewTables select) where
  abbrev tables : List Table
  tables = tables_in entries

  within : (n m : ℕ) → n ≤ m → m ≤ length entries → IsU32 n
  within n m a b = let lines = small.lines in omega (arith, lines, a, b)

  count_most : (t : ℕ) → IsU32 (statement_count t entries)
  count_most t = let most = count-most _ entries in within (statement_count t entries) (statement_count t entries) (omega arith) most

  read_most : (t k : ℕ) → IsU32 (statement_version t k entries)
  read_most t k = within (statement_version t k entries) (statement_version t k entries) (omega arith) (version_most t k entries)

  at_fits : (t k : ℕ) (statement : Statement) → statement_at t (suc k) entries ≡ Some statement → (statement_fits tables statement ≡ true) × StatementIsSmall statement
  at_fits t k statement e = (statement_at_fits tables entries fit t (suc k) statement e, at_small entries small.statements t (suc k) statement e)

  -- what a transaction of this number saw
  after_range : (t k : ℕ) → t ≤ transactions_in entries → k ≤ statement_count t entries → ProgramInRange (plain_program (width_of tables) prov (program_at (width_of tables) entries (y.after t k) select))
  after_range t k known some =
      let steps = composed (width_of tables) (log_of entries) t k in
      let transaction = within t (transactions_in entries) known (count-most _ entries) in
      let count = within k (statement_count t entries) some (count-most _ entries) in
      program_range (width_of tables) prov (program_after (width_of tables) (log_of entries) t k select)
      (composed_range tables small.columns (step_table steps) prov (log_of entries) t transaction (read_most t) (at_fits t) k count)
      (read_range tables small.columns (step_table steps) prov (log_of entries) t transaction (read_most t) (at_fits t) k count select fitting short)

  point_range : (point : y.Point) → log_refusal entries point ≡ None → ProgramInRange (plain_program (width_of tables) prov (program_at (width_of tables) entries point select))
  point_range (y.as_of version) e =
      program_range (width_of tables) prov (program_as_of version select) tt
      (version_range tables small.columns (step_table []) prov version (within version (versions_in entries) (as_of_most entries version e) (versions_most entries)) select fitting short)
  point_range (y.after t k) e =
      let parts = none_parts (transaction_refusal t entries) (statement_refusal t k entries) e in
      after_range t k (known_most entries t parts.0) (statement_most entries t k parts.1)
  point_range (y.Point.commit t) e =
      let before = version_before (version_of t entries) in
      let steps = composed (width_of tables) (log_of entries) t (statement_count t entries) in
      let transaction = within t (transactions_in entries) (known_most entries t e) (count-most _ entries) in
      let past = within before before (omega arith) (before_most t entries) in
      program_range (width_of tables) prov (program_of_commit (width_of tables) (log_of entries) t before select)
      (composed_range tables small.columns (step_table steps) prov (log_of entries) t transaction (read_most t) (at_fits t) (statement_count t entries) (count_most t))
      (published_range tables small.columns (step_table steps) prov (log_of entries) t transaction (read_most t) (at_fits t) before past (count_most t) select fitting short)

  pub merged_at_range : (point : y.Point) → log_refusal entries point ≡ None → ProgramInRange (merged_at prov entries point select)
  merged_at_range point e = merged_range (plain_program (width_of tables) prov (program_at (width_of tables) entries point select)) (point_range point e)

  pub small_explained : AreNamed tables → (point : y.Point) → log_refusal entries point ≡ None
      → Explains entries point select prov (program_text tables (merged_at prov entries point select))
  small_explained named point e =
      let program = merged_at prov entries point select in
      spelled_explains entries select fit fitting point prov e (program_text tables program) (record {
        spellable = program_spelled tables program (merged_at_shaped entries named.named fit prov select fitting point e) (merged_at_range point e);
        is = refl;
      })

-- what a transaction saw, whatever became of it
module _ (entries : List Entry) (t k : ℕ) (known : saw_refusal t k entries ≡ None) where
  seen_most : t ≤ transactions_in entries
  seen_most = leb-true t (transactions_in entries) (and_parts (nat_lt 0 t) (nat_le t (transactions_in entries)) (known_of t k entries known)).1

  seen_count : k ≤ statement_count t entries
  seen_count = go (nat_le k (statement_count t entries)) refl (none_parts (unknown_refusal t entries) (missing_statement_refusal t k entries) known).1
    where
      go : (b : Bool) → nat_le k (statement_count t entries) ≡ b → cond b None (Some (E22 t (statement_count t entries))) ≡ None → k ≤ statement_count t entries
      go true is e = leb-true k (statement_count t entries) is
      go false is e = absurd (some_none (E22 t (statement_count t entries)) e)

  pub small_saw_explained : IsSmall entries → statements_fit (tables_in entries) entries ≡ true → (select : Select) → select_fits (tables_in entries) select ≡ true → HasFewTables select
      → AreNamed (tables_in entries) → Explains entries (y.after t k) select false (program_text (tables_in entries) (merged_at false entries (y.after t k) select))
  small_saw_explained small fit select fitting short named =
      let program = merged_at false entries (y.after t k) select in
      spelled_saw entries select fit fitting t k known (program_text (tables_in entries) program) (record {
        spellable = program_spelled (tables_in entries) program (seen_shaped entries named.named fit select fitting t k known)
            (merged_range (plain_program (width_of (tables_in entries)) false (program_at (width_of (tables_in entries)) entries (y.after t k) select))
            (after_range entries small fit false select fitting short t k seen_most seen_count));
        is = refl;
      })
