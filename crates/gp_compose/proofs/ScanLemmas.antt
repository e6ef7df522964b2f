-- The program of a state scans no version above the one that the state needs.
use Rattle.gp_compose.proofs.Prelude.{◌≡◌, ℕ, zero, suc, ◌<◌, ◌≤◌, true, false, cond, List, [], ◌∷◌, ◌++◌, length, sym, subst, arith, Option, Some, None, ◌==◌, AllByRecursion, Cond, Branch, Select, Statement, insert, insert_select, update, delete, read, target, Query, QueryStep, Log, log_of, statement_count, version_of, version_before, log_refusal, branch_of, made_of, made_onto, product_of, query_of, rewritten, selected_by, product_onto, union_onto, each_append}
use Rattle.std.specs.Prelude.{Contains}
use Rattle.gp_grammar.specs.Syntax as y
use Rattle.gp_algebra.specs.declared.plain.ScanAt.{ScanAt}
use Rattle.gp_algebra.specs.AnnotatedQueries as q
use Rattle.gp_algebra.specs.Scans.{annotated_program_scans, annotated_query_scans, annotated_steps_scans}
use Rattle.gp_machine.specs.Entries.{Entry, statement_version}
use Rattle.gp_machine.specs.QuestionForms.{IsAsked, to_commit, to_statement, to_version}
use Rattle.gp_machine.specs.Questions.{needed_version}
use Rattle.gp_machine.proofs.AskedLemmas.{asked}
use Rattle.gp_log.specs.Sessions.{KeepsSessions}
use Rattle.gp_log.proofs.KeptSessions.{read_before, rising}
use Rattle.gp_compose.specs.Composed.{composed, current, current_before, last_write, moved, onto, program_at, published_query, step_of, writes}
use Rattle.gp_compose.specs.StepForms.{steps_of}

-- ---- versions up to one

abbrev pub IsUpTo : ℕ → ScanAt → Type 0
IsUpTo n scan = scan.version ≤ n

abbrev pub ReadsUpTo : ℕ → Query → Type 0
ReadsUpTo n query = AllByRecursion (IsUpTo n) (annotated_query_scans query)

pub each_contained : {X : Type 0} (P : X → Type 0) (xs : List X) → AllByRecursion P xs → (x : X) → Contains xs x → P x
each_contained P [] a x (k, within, is) = absurd (nothing k within)
  where
    nothing : (k : ℕ) → k < zero → ⊥
    nothing k l = omega arith
each_contained P (x' ∷ xs) a x (zero, within, is) = subst P is a.0
each_contained P (x' ∷ xs) a x (suc k, within, is) = each_contained P xs a.1 x (k, (let l : suc k < suc (length xs) = within in omega arith), is)

-- ---- queries and statements

module _ (n : ℕ) (tables : ℕ → Query) (are : (table : ℕ) → ReadsUpTo n (tables table)) where
  onto_up_to : (others : List ℕ) (query : Query) → ReadsUpTo n query → ReadsUpTo n (product_onto tables query others)
  onto_up_to [] query s = s
  onto_up_to (table ∷ others) query s = onto_up_to others (q.product query (tables table)) (each_append (IsUpTo n) (annotated_query_scans query) (annotated_query_scans (tables table)) s (are table))

  product_up_to : (from : List ℕ) → ReadsUpTo n (product_of tables from)
  product_up_to [] = (omega arith, tt)
  product_up_to (table ∷ others) = onto_up_to others (tables table) (are table)

  selected_up_to : (o : Option Cond) (query : Query) → ReadsUpTo n query → ReadsUpTo n (selected_by o query)
  selected_up_to None query s = s
  selected_up_to (Some c) query s = s

  branch_up_to : (branch : Branch) → ReadsUpTo n (branch_of tables branch)
  branch_up_to branch = selected_up_to branch.cond (product_of tables branch.from) (product_up_to branch.from)

  union_up_to : (branches : List Branch) (query : Query) → ReadsUpTo n query → ReadsUpTo n (union_onto tables query branches)
  union_up_to [] query s = s
  union_up_to (branch ∷ branches) query s =
      union_up_to branches (q.union query (branch_of tables branch)) (each_append (IsUpTo n) (annotated_query_scans query) (annotated_query_scans (branch_of tables branch)) s (branch_up_to branch))

  query_up_to : (select : Select) → ReadsUpTo n (query_of tables select)
  query_up_to [] = (omega arith, tt)
  query_up_to (branch ∷ branches) = union_up_to branches (branch_of tables branch) (branch_up_to branch)

  made_onto_up_to : (t k b : ℕ) (branches : List Branch) (query : Query) → ReadsUpTo n query → ReadsUpTo n (made_onto t k b tables query branches)
  made_onto_up_to t k b [] query s = s
  made_onto_up_to t k b (branch ∷ branches) query s =
      made_onto_up_to t k (suc b) branches (q.union query (q.new_rows t k b (branch_of tables branch)))
      (each_append (IsUpTo n) (annotated_query_scans query) (annotated_query_scans (branch_of tables branch)) s (branch_up_to branch))

  made_up_to : (t k : ℕ) (select : Select) → ReadsUpTo n (made_of t k tables select)
  made_up_to t k [] = (omega arith, tt)
  made_up_to t k (branch ∷ branches) = made_onto_up_to t k 2 branches (q.new_rows t k 1 (branch_of tables branch)) (branch_up_to branch)

  rewritten_up_to : (columns : ℕ → ℕ) (t k : ℕ) (statement : Statement) → ReadsUpTo n (rewritten columns t k statement tables)
  rewritten_up_to columns t k (insert written rows) = each_append (IsUpTo n) (annotated_query_scans (tables written)) [] (are written) tt
  rewritten_up_to columns t k (insert_select written select) =
      each_append (IsUpTo n) (annotated_query_scans (tables written)) (annotated_query_scans (made_of t k tables select)) (are written) (made_up_to t k select)
  rewritten_up_to columns t k (update written sets c) = are written
  rewritten_up_to columns t k (delete written c) = are written
  rewritten_up_to columns t k (read select) = (omega arith, tt)

-- ---- composed programs

-- the first statements, this many, read versions up to this one
abbrev ReadUpTo : Log → ℕ → ℕ → ℕ → Type 0
ReadUpTo log t k n = (j : ℕ) → j ≤ k → log.version t j ≤ n

module _ (n : ℕ) (columns : ℕ → ℕ) (log : Log) (t : ℕ) where
  moved_up_to : (old new table : ℕ) (o : Option ℕ) (query : Query) → old ≤ n → new ≤ n → ReadsUpTo n query → ReadsUpTo n (moved old new table o query)
  moved_up_to old new table None query before later reads = elim (new == old) as (λ b. ReadsUpTo n (cond b query (q.scan table new))) [ true ↦ reads | false ↦ (later, tt) ]
  moved_up_to old new table (Some j) query before later reads =
      elim (new == old) as (λ b. ReadsUpTo n (cond b query (q.publish (q.scan table old) query (q.scan table new)))) [
        | true ↦ reads
        | false ↦ (before, each_append (IsUpTo n) (annotated_query_scans query) (annotated_query_scans (q.scan table new)) reads (later, tt))
      ]

  current_up_to : (k table : ℕ) → ReadUpTo log t k n → ReadsUpTo n (current log t k table)
  current_up_to zero table within = (within zero (omega arith), tt)
  current_up_to (suc k) table within =
      elim (writes (log.statement t (suc k)) table) as (λ b. ReadsUpTo n (cond b (q.step (suc k)) (current_before log t k table))) [
        | true ↦ tt
        | false ↦ moved_up_to (log.version t k) (log.version t (suc k)) table (last_write log t k table) (current log t k table) (within k (omega arith)) (within (suc k) (omega arith))
            (current_up_to k table (λ j l. within j (omega arith)))
      ]

  before_up_to : (k table : ℕ) → ReadUpTo log t (suc k) n → ReadsUpTo n (current_before log t k table)
  before_up_to k table within =
      moved_up_to (log.version t k) (log.version t (suc k)) table (last_write log t k table) (current log t k table) (within k (omega arith)) (within (suc k) (omega arith))
      (current_up_to k table (λ j l. within j (omega arith)))

  published_up_to : (before table : ℕ) → ReadUpTo log t (log.statement_count t) n → before ≤ n → ReadsUpTo n (published_query log t before table)
  published_up_to before table within later = go (last_write log t (log.statement_count t) table)
    where
      go : (o : Option ℕ) → ReadsUpTo n (onto (log.version t (log.statement_count t)) before table o (current log t (log.statement_count t) table))
      go None = (later, tt)
      go (Some j) = (
        within (log.statement_count t) (omega arith),
        each_append (IsUpTo n) (annotated_query_scans (current log t (log.statement_count t) table)) (annotated_query_scans (q.scan table before)) (current_up_to (log.statement_count t) table within) (later, tt),
      )

  steps_more : (xs ys : List QueryStep) → AllByRecursion (IsUpTo n) (annotated_steps_scans xs) → AllByRecursion (IsUpTo n) (annotated_steps_scans ys) → AllByRecursion (IsUpTo n) (annotated_steps_scans (xs ++ ys))
  steps_more [] ys a b = b
  steps_more (x ∷ xs) ys a b =
      let parts = each_split (annotated_query_scans x.query) (annotated_steps_scans xs) a in
      each_append (IsUpTo n) (annotated_query_scans x.query) (annotated_steps_scans (xs ++ ys)) parts.0 (steps_more xs ys parts.1 b)
    where
      each_split : (xs ys : List ScanAt) → AllByRecursion (IsUpTo n) (xs ++ ys) → AllByRecursion (IsUpTo n) xs × AllByRecursion (IsUpTo n) ys
      each_split [] ys a = (tt, a)
      each_split (x ∷ xs) ys a = let parts = each_split xs ys a.1 in ((a.0, parts.0), parts.1)

  composed_up_to : (k : ℕ) → ReadUpTo log t k n → AllByRecursion (IsUpTo n) (annotated_steps_scans (composed columns log t k))
  composed_up_to zero within = tt
  composed_up_to (suc k) within =
      steps_more (composed columns log t k) (step_of columns t (suc k) (current_before log t k) (log.statement t (suc k))) (composed_up_to k (λ j l. within j (omega arith))) (one (log.statement t (suc k)))
    where
      one : (o : Option Statement) → AllByRecursion (IsUpTo n) (annotated_steps_scans (step_of columns t (suc k) (current_before log t k) o))
      one None = tt
      one (Some statement) = two (target statement)
        where
          two : (written : Option ℕ) → AllByRecursion (IsUpTo n) (annotated_steps_scans (steps_of columns t (suc k) (current_before log t k) statement written))
          two None = tt
          two (Some written) =
              each_append (IsUpTo n) (annotated_query_scans (rewritten columns t (suc k) statement (current_before log t k))) []
              (rewritten_up_to n (current_before log t k) (λ table. before_up_to k table within) columns t (suc k) statement) tt

  program_up_to : (k : ℕ) (last : Query) → ReadUpTo log t k n → ReadsUpTo n last → AllByRecursion (IsUpTo n) (annotated_program_scans (record { steps = composed columns log t k; last = last }))
  program_up_to k last within reads = each_append (IsUpTo n) (annotated_steps_scans (composed columns log t k)) (annotated_query_scans last) (composed_up_to k within) reads

-- ---- the programs of states

needed_scans : (columns : ℕ → ℕ) (entries : List Entry) → KeepsSessions entries → (point : y.Point) → IsAsked entries point → (select : Select) (scan : ScanAt) →
    Contains (annotated_program_scans (program_at columns entries point select)) scan → scan.version ≤ needed_version entries point
needed_scans columns entries is (y.as_of version) (to_version l) select scan among =
    each_contained (IsUpTo version) (annotated_query_scans (query_of (λ table. q.scan table version) select)) (query_up_to version (λ table. q.scan table version) (λ table. (omega arith, tt)) select) scan among
needed_scans columns entries is (y.after t k) (to_statement {version = version} made count) select scan among =
    let log = log_of entries in
    let needed : ℕ = statement_version t k entries in
    let within : ReadUpTo log t k needed = λ j l. rising entries is t j k l count in
    each_contained (IsUpTo needed) (annotated_program_scans (program_at columns entries (y.after t k) select))
    (program_up_to needed columns log t k (query_of (current log t k) select) within
    (query_up_to needed (current log t k) (λ table. current_up_to needed columns log t k table within) select)) scan among
needed_scans columns entries is (y.Point.commit t) (to_commit {version = version} made) select scan among =
    let log = log_of entries in
    let before : ℕ = version_before (version_of t entries) in
    let within : ReadUpTo log t (statement_count t entries) before = λ j l. up_to j version made (read_before entries is t version j made l) in
    each_contained (IsUpTo before) (annotated_program_scans (program_at columns entries (y.Point.commit t) select))
    (program_up_to before columns log t (statement_count t entries) (query_of (published_query log t before) select) within
    (query_up_to before (published_query log t before) (λ table. published_up_to before columns log t before table within (omega arith)) select)) scan among
  where
    up_to : (j v : ℕ) → version_of t entries ≡ Some v → statement_version t j entries < v → statement_version t j entries ≤ version_before (version_of t entries)
    up_to j zero made l = absurd (omega arith)
    up_to j (suc w) made l = subst (λ o. statement_version t j entries ≤ version_before o) (sym made) (omega arith)

pub scans_are_needed : (columns : ℕ → ℕ) (entries : List Entry) → KeepsSessions entries → (point : y.Point) → log_refusal entries point ≡ None → (select : Select) (scan : ScanAt) →
    Contains (annotated_program_scans (program_at columns entries point select)) scan → scan.version ≤ needed_version entries point
scans_are_needed columns entries is point known select scan among = needed_scans columns entries is point (asked entries point known) select scan among
