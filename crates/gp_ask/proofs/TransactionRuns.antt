-- The run of any transaction of a history, whatever became of it, over the row versions of the history in any order. It gives what the transaction read before
-- and after each of its statements, and passes no limit; and no table that the transaction reads has an identity twice.
use Rattle.std.proofs.Common.{◌≡◌, ◌≢◌, ℕ, zero, suc, ◌<◌, ◌≤◌, Bool, true, false, true≢false, cond, List, [], ◌∷◌, ◌++◌, map, Option, Some, None, refl, sym, ap, ◌∙◌, subst, arith}
use Rattle.std.specs.Prelude.{◌==◌, ◌&&◌, ◌||◌, not}
use Rattle.std.proofs.lemmas.Bool.{and_from, and_parts, eqb-true}
use Rattle.std.proofs.lemmas.List.{map-append}
use Rattle.std.specs.List.{AllByRecursion, filter, list_any}
use Rattle.std.proofs.lemmas.List.Elements.{filter_agree}
use Rattle.std.proofs.lemmas.Option.{none-some, same_Some}
use Rattle.gp_base.proofs.Bags.{SameBag, any_same, filtered, joined, same_from, through}
use Rattle.gp_base.proofs.SmallLemmas.{eq_itself}
use Rattle.gp_base.specs.Annotated.{Annotated, Annotations, Database, Environment, unannotated}
use Rattle.gp_expr.specs.Values.{passes}
use Rattle.gp_versions.proofs.SameLemmas.{same-itself}
use Rattle.gp_base.specs.Identities.{Identity, same_identity}
use Rattle.gp_base.specs.IdentityParts.{identity_statement, identity_transaction}
use Rattle.gp_algebra.proofs.StepBags.{SameTables}
use Rattle.gp_algebra.specs.Answers.{answer}
use Rattle.gp_algebra.specs.Effects.{Written, given_from, made, written_in}
use Rattle.gp_algebra.specs.Statements.{Statement, delete, insert, insert_select, read, update}
use Rattle.gp_machine.proofs.RunBags.{run_stop_same}
use Rattle.gp_machine.proofs.ActiveLemmas.{IsOver, active_clean, active_kept, refreshed_view, step_view}
use Rattle.gp_machine.proofs.AnyLemmas.{saw_held, saw_stops}
use Rattle.gp_machine.proofs.Distinct.{differ_append, differ_filter, differ_map, each_all, each_filter, each_weaker, none_any}
use Rattle.gp_machine.proofs.HeldPoints.{after_held, committed_stops, version_is}
use Rattle.gp_machine.proofs.LogLemmas.{versions_le}
use Rattle.gp_machine.proofs.Made.{given_unique, made_unique, same_equal}
use Rattle.gp_machine.proofs.RunLemmas.{before_is, run_is}
use Rattle.gp_machine.proofs.Simulation.{versions_held}
use Rattle.gp_machine.proofs.UnstoppedLemmas.{reached_unstopped}
use Rattle.gp_machine.specs.Bases.{Based, is_new, pairs, with_base, with_bases}
use Rattle.gp_machine.specs.Committed.{is_written, merged}
use Rattle.gp_machine.specs.Entries.{Entry, Log, committer_of, log_of, statement_count, statement_version, transactions_in, version_of, versions_in}
use Rattle.gp_machine.specs.Histories.{IsHistory}
use Rattle.gp_machine.specs.HistorySpans.{as_of, state_spans}
use Rattle.gp_machine.specs.Parameters.{Parameters}
use Rattle.gp_machine.specs.Points.{run_stop}
use Rattle.gp_machine.specs.Publishing.{holds_identity, publish, was_written}
use Rattle.gp_machine.specs.Reached.{IsReached}
use Rattle.gp_machine.specs.ReadBy.{seen_by, start_by}
use Rattle.gp_machine.specs.Reading.{wrote_by}
use Rattle.gp_machine.specs.ReplayForms.{upto_version}
use Rattle.gp_machine.specs.Runs.{refreshed, run, run_before, stepped}
use Rattle.gp_machine.specs.SeenRows.{AreDistinct, HaveDifferentIdentities, IsViewOf, same_row}
use Rattle.gp_machine.specs.State.{Active, State}
use Rattle.gp_versions.specs.declared.span.Span.{Span}

-- ---- reading a later version takes equal bags to equal bags

module _ {M : Type 0} where
  was-same : (xs ys us vs : List (Annotated M)) (id : Identity) → SameBag xs ys → SameBag us vs → was_written xs us id ≡ was_written ys vs id
  was-same xs ys us vs id s t =
      let e : list_any (λ row. row.mark && same_identity row.identity id) us ≡ list_any (λ row. row.mark && same_identity row.identity id) vs = any_same (λ row. row.mark && same_identity row.identity id) t in
      let f : holds_identity id xs ≡ holds_identity id ys = any_same (λ row. same_identity row.identity id) s in
      let g : holds_identity id us ≡ holds_identity id vs = any_same (λ row. same_identity row.identity id) t in
      rw (e, f, g)

  publish-same : (a b c d e f : Database M) → SameTables a b → SameTables c d → SameTables e f → SameTables (publish a c e) (publish b d f)
  publish-same a b c d e f s t u table =
      let agree : filter (λ row. not (was_written (a table) (c table) row.identity)) (e table) ≡ filter (λ row. not (was_written (b table) (d table) row.identity)) (e table) =
      filter_agree (λ row. not (was_written (a table) (c table) row.identity)) (λ row. not (was_written (b table) (d table) row.identity))
      (λ row. ap not (was-same (a table) (b table) (c table) (d table) row.identity (s table) (t table))) (e table) in
      joined (through (same_from _ _ agree) (filtered (λ row. not (was_written (b table) (d table) row.identity)) (u table))) (filtered (λ row. row.mark) (t table))

  refreshed-same : (old new : ℕ) (a b : Environment M) (c d : Database M) → SameTables (a old) (b old) → SameTables (a new) (b new) → SameTables c d
      → SameTables (refreshed old new a c) (refreshed old new b d)
  refreshed-same old new a b c d s t u =
      elim (new == old) as (λ e. SameTables (cond e c (publish (a old) c (a new))) (cond e d (publish (b old) d (b new)))) [ true ↦ u | false ↦ publish-same _ _ _ _ _ _ s u t ]

-- ---- rows that were written, behind rows that were not

module _ {M : Type 0} (was : Identity → Bool) where
  unlike-by : (row other : Annotated M) → not (was row.identity) ≡ true → was other.identity ≡ true → (b : Bool) → same_row other row ≡ b → b ≡ false
  unlike-by row other unwritten written false is = refl
  unlike-by row other unwritten written true is = absurd (true≢false (sym unwritten ∙ ap not (ap was (sym (same_equal other.identity row.identity is)) ∙ written)))

  apart : (rows others : List (Annotated M)) → HaveDifferentIdentities rows → HaveDifferentIdentities others
      → HaveDifferentIdentities (filter (λ row. not (was row.identity)) rows ++ filter (λ row. was row.identity) others)
  apart rows others different own =
      differ_append same_row (filter (λ row. not (was row.identity)) rows) (filter (λ row. was row.identity) others)
      (differ_filter same_row (λ row. not (was row.identity)) rows different) (differ_filter same_row (λ row. was row.identity) others own)
      (each_filter _ (λ row. Unit {0}) (λ row. not (was row.identity))
      (λ row unwritten any. none_any (λ other. same_row other row) (filter (λ other. was other.identity) others)
      (each_filter _ (λ other. Unit {0}) (λ other. was other.identity) (λ other written some. unlike-by row other unwritten written (same_row other row) refl) others (each_all _ (λ other. tt) others)))
      rows (each_all _ (λ row. tt) rows))

-- ---- rows that were written, each once

abbrev pub same_written : Written → Written → Bool
same_written pair other = (pair.table == other.table) && same_identity pair.identity other.identity

module _ {M : Type 0} (domain : Annotations M) (t k : ℕ) where
  written-once : (table : ℕ) (rows : List (Annotated M)) → HaveDifferentIdentities rows → AreDistinct same_written (written_in table rows)
  written-once table rows different =
      differ_map same_row same_written (λ (row : Annotated M). record { table = table; identity = row.identity }) (λ row other. ap (λ b. b && same_identity row.identity other.identity) (eq_itself table)) rows different

  pub wrote-once : (statement : Option Statement) (db : Database M) → ((table : ℕ) → HaveDifferentIdentities (db table)) → AreDistinct same_written (wrote_by domain t k statement db)
  wrote-once None db different = tt
  wrote-once (Some (insert table rows)) db different = written-once table (given_from domain t k 1 rows) (given_unique domain t k 1 rows)
  wrote-once (Some (insert_select table select)) db different = written-once table (map (made domain t k) (answer domain select db)) (made_unique domain t k select db different)
  wrote-once (Some (update table sets c)) db different = written-once table (filter (λ row. passes c row.cells) (db table)) (differ_filter same_row (λ row. passes c row.cells) (db table) (different table))
  wrote-once (Some (delete table c)) db different = written-once table (filter (λ row. passes c row.cells) (db table)) (differ_filter same_row (λ row. passes c row.cells) (db table) (different table))
  wrote-once (Some (read select)) db different = tt

-- each is among them
itself-written : (xs : List Written) → AllByRecursion (λ (x : Written). is_written x.table x.identity xs ≡ true) xs
itself-written [] = tt
itself-written (x ∷ xs) = (
  ap (λ b. b || is_written x.table x.identity xs) (and_from (x.table == x.table) (same_identity x.identity x.identity) (eq_itself x.table) (same-itself x.identity)),
  each_weaker (λ (y : Written). is_written y.table y.identity (x ∷ xs) ≡ true) (λ (y : Written). is_written y.table y.identity xs ≡ true)
      (λ y is. elim ((x.table == y.table) && same_identity x.identity y.identity) as (λ b. (b || is_written y.table y.identity xs) ≡ true) [ true ↦ refl | false ↦ is ]) xs (itself-written xs),
)

more-pairs : (version : ℕ) (based : List Based) (more : List Written) → pairs (with_bases version based more) ≡ pairs based ++ filter (is_new based) more
more-pairs version based more = map-append (λ (own : Based). own.pair) based (map (with_base version) (filter (is_new based) more)) ∙ ap (λ (own : List Written). pairs based ++ own) (alone (filter (is_new based) more))
  where
    alone : (xs : List Written) → pairs (map (with_base version) xs) ≡ xs
    alone [] = refl
    alone (x ∷ xs) = ap (λ (own : List Written). x ∷ own) (alone xs)

bases-once : (version : ℕ) (based : List Based) (more : List Written) → AreDistinct same_written (pairs based) → AreDistinct same_written more → AreDistinct same_written (pairs (with_bases version based more))
bases-once version based more once own =
    subst (AreDistinct same_written) (sym (more-pairs version based more))
    (differ_append same_written (pairs based) (filter (is_new based) more) once (differ_filter same_written (is_new based) more own)
    (each_weaker (λ (x : Written). list_any (λ y. same_written y x) (filter (is_new based) more) ≡ false) (λ (x : Written). is_written x.table x.identity (pairs based) ≡ true)
    (λ x is. none_any (λ y. same_written y x) (filter (is_new based) more)
    (each_filter (λ y. same_written y x ≡ false) (λ y. Unit {0}) (is_new based) (λ y new any. unlike x y is new (same_written y x) refl) more (each_all (λ y. Unit {0}) (λ y. tt) more)))
    (pairs based) (itself-written (pairs based))))
  where
    unlike : (x y : Written) → is_written x.table x.identity (pairs based) ≡ true → is_new based y ≡ true → (b : Bool) → same_written y x ≡ b → b ≡ false
    unlike x y is new false same = refl
    unlike x y is new true same =
        let parts = and_parts (y.table == x.table) (same_identity y.identity x.identity) same in
        let tables : y.table ≡ x.table = eqb-true y.table x.table parts.0 in
        let ids : y.identity ≡ x.identity = same_equal y.identity x.identity parts.1 in
        absurd (true≢false (sym new ∙ (λ i. not (is_written (tables i) (ids i) (pairs based))) ∙ ap not is))

-- ---- a transaction over a history whose versions it did not make

module _ {M : Type 0} (domain : Annotations M) (log : Log) (committed : Environment M) (written : ℕ → List Written) (history : IsHistory domain log committed written) (t count : ℕ)
    (reads : (k : ℕ) → k ≤ count → log.version t k ≤ log.versions) (rises : (k : ℕ) → k < count → log.version t k ≤ log.version t (suc k))
    (unfinished : (u : ℕ) → u < log.versions → log.committer (suc u) ≢ t) where
  -- as if it were running
  abbrev reading : ℕ → Active M
  reading k = record { transaction = t; read_committed = false; version = log.version t k; statements = k; seen = seen_by domain log t k committed }

  over : (k : ℕ) → k ≤ count → IsOver domain log committed (reading k)
  over k within = record {
    seen = refl;
    version = refl;
    read = λ (j : ℕ) (below : j ≤ k). reads j (omega arith);
    rising = λ (j : ℕ) (below : j < k). rises j (omega arith);
    unfinished = unfinished;
  }

  pub runs : (k : ℕ) → k ≤ count → run domain log t k committed ≡ (seen_by domain log t k committed).view
  runs k within = run_is domain log committed written history t count (active_clean domain log committed written history (reading count) (over count (omega arith))) reads rises k within

  pub starts : (k : ℕ) → k < count → run_before domain log t k committed ≡ start_by domain log t k committed
  starts k within = before_is domain log committed written history t count (active_clean domain log committed written history (reading count) (over count (omega arith))) reads rises k (omega arith)

  -- no table that it reads has an identity twice, after a statement or before one
  pub after-different : (k : ℕ) → k ≤ count → (table : ℕ) → HaveDifferentIdentities ((seen_by domain log t k committed).view table)
  after-different k within table = (active_kept domain log committed written history (reading k) (over k within) table).different

  pub before-different : (k : ℕ) → k < count → (table : ℕ) → HaveDifferentIdentities (start_by domain log t k committed table)
  before-different k within table =
      let seen = seen_by domain log t k committed in
      let new = committed (log.version t (suc k)) in
      elim (log.version t (suc k) == log.version t k) as (λ b. HaveDifferentIdentities ((cond b seen.view (merged new seen.view (pairs seen.written))) table)) [
        | true ↦ after-different k (omega arith) table
        | false ↦ apart (λ id. is_written table id (pairs seen.written)) (new table) (seen.view table)
            ((active_clean domain log committed written history (reading count) (over count (omega arith))).different (suc k) (omega arith) table) (after-different k (omega arith) table)
      ]

  -- a row of what it reads that it made itself was made by one of these statements
  abbrev pub IsOwnBy : ℕ → Database M → Type 0
  IsOwnBy k view = (table : ℕ) → AllByRecursion (λ row. identity_transaction row.identity ≡ t → identity_statement row.identity ≤ k) (view table)

  before-view : (k : ℕ) → k < count → IsOwnBy k (seen_by domain log t k committed).view → (base : Database M) × ((others : List Written) × IsViewOf t k base (start_by domain log t k committed) others)
  before-view k within own =
      let seen = seen_by domain log t k committed in
      let new = committed (log.version t (suc k)) in
      let clean = active_clean domain log committed written history (reading count) (over count (omega arith)) in
      let is : IsViewOf t k (committed (log.version t k)) seen.view (pairs seen.written) = record { tables = active_kept domain log committed written history (reading k) (over k (omega arith)); own = own } in
      elim (log.version t (suc k) == log.version t k) as (λ b. (base : Database M) × ((others : List Written) × IsViewOf t k base (cond b seen.view (merged new seen.view (pairs seen.written))) others)) [
        | true ↦ (committed (log.version t k), (pairs seen.written, is))
        | false ↦ (
          new,
          (
            pairs seen.written,
            refreshed_view t k (committed (log.version t k)) seen.view new (pairs seen.written) is (clean.different (suc k) (omega arith)) (clean.unmarked (suc k) (omega arith))
                (clean.others (suc k) (omega arith)),
          ),
        )
      ]

  stepped-own : (k : ℕ) (statement : Option Statement) → (base : Database M) × ((others : List Written) × IsViewOf t k base (start_by domain log t k committed) others)
      → IsOwnBy (suc k) (stepped domain t (suc k) statement (start_by domain log t k committed))
  stepped-own k None view =
      λ table. each_weaker (λ row. identity_transaction row.identity ≡ t → identity_statement row.identity ≤ suc k) (λ row. identity_transaction row.identity ≡ t → identity_statement row.identity ≤ k)
      (λ row earlier own. let most = earlier own in omega (arith, most)) (start_by domain log t k committed table) (view.1.1.own table)
  stepped-own k (Some statement) view = (step_view domain t k statement view.0 (start_by domain log t k committed) view.1.0 view.1.1).own

  after-own : (k : ℕ) → k ≤ count → IsOwnBy k (seen_by domain log t k committed).view
  after-own zero within =
      λ table. each_weaker (λ row. identity_transaction row.identity ≡ t → identity_statement row.identity ≤ 0) (λ row. identity_transaction row.identity ≢ t) (λ row others own. absurd (others own)) (committed (log.version t zero) table)
      ((active_clean domain log committed written history (reading count) (over count (omega arith))).others 0 (omega arith) table)
  after-own (suc k) within = stepped-own k (log.statement t (suc k)) (before-view k within (after-own k (omega arith)))

  -- before a statement, by one before it
  pub before-own : (k : ℕ) → k < count → IsOwnBy k (start_by domain log t k committed)
  before-own k within = (before-view k within (after-own k (omega arith))).1.1.own

  -- it wrote no row twice
  pub written-each-once : (k : ℕ) → k ≤ count → AreDistinct same_written (pairs (seen_by domain log t k committed).written)
  written-each-once zero within = tt
  written-each-once (suc k) within =
      bases-once (log.version t (suc k)) (seen_by domain log t k committed).written (wrote_by domain t (suc k) (log.statement t (suc k)) (start_by domain log t k committed)) (written-each-once k (omega arith))
      (wrote-once domain t (suc k) (log.statement t (suc k)) (start_by domain log t k committed) (before-different k (omega arith)))

-- ---- the transactions of a history

-- a transaction made none of the first versions, this many, and read no later one
pub record ReadsWithin (entries : List Entry) (t versions : ℕ) : Type 0 where
  pub within : versions ≤ versions_in entries
  pub reads : (k : ℕ) → k ≤ statement_count t entries → statement_version t k entries ≤ versions
  pub unfinished : (u : ℕ) → u < versions → committer_of (suc u) entries ≢ t

-- each version was made by the transaction that made it
abbrev pub MakesOnce : List Entry → Type 0
MakesOnce entries = (u : ℕ) → u < versions_in entries → version_of (committer_of (suc u) entries) entries ≡ Some (suc u)

module _ {M : Type 0} (domain : Annotations M) (state : State M) (history : IsHistory domain (log_of state.entries) state.committed state.written) where
  -- those before its own version, or all
  pub reads-within : MakesOnce state.entries → (t : ℕ) (version : Option ℕ) → version_of t state.entries ≡ version → (versions : ℕ) × ReadsWithin state.entries t versions
  reads-within once t None none = (
    versions_in state.entries,
    record {
      within = omega arith;
      reads = λ k below. versions_le t k state.entries;
      unfinished = λ u below own. none-some (suc u) (sym none ∙ ap (λ n. version_of n state.entries) (sym own) ∙ once u below);
    },
  )
  reads-within once t (Some version) made =
      let i = version_is t version state.entries made in (
        i.earlier,
        record {
          within = let w = i.within in omega arith;
          reads = λ k below.
              subst (λ n. k ≤ statement_count n state.entries → statement_version n k state.entries ≤ i.earlier) i.made (λ has. history.order i.earlier k i.within has) below;
          unfinished = λ (u : ℕ) (below : u < i.earlier) own.
              let w = i.within in
              let is = i.is in
              let same : suc u ≡ version = same_Some (suc u) version (sym (once u (omega arith)) ∙ ap (λ n. version_of n state.entries) own ∙ made) in
              omega arith;
        },
      )

  pub first-versions : (versions : ℕ) → versions ≤ versions_in state.entries → IsHistory domain (upto_version versions (log_of state.entries)) state.committed state.written
  first-versions versions within = record {
    start = history.start;
    order = λ (u k : ℕ) (below : u < versions) has. history.order u k (omega arith) has;
    later = λ (u k : ℕ) (below : u < versions) has. history.later u k (omega arith) has;
    once = λ (u v : ℕ) (below : u < versions) (other : v < versions) same. history.once u v (omega arith) (omega arith) same;
    wrote = λ (u : ℕ) (below : u < versions). history.wrote u (omega arith);
    published = λ (u table : ℕ) (below : u < versions). history.published u table (omega arith);
    first = λ (u : ℕ) (below : u < versions). history.first u (omega arith);
  }

-- no statement of a transaction reads an older version than the one before it
abbrev pub IsRising : List Entry → ℕ → Type 0
IsRising entries t = (k : ℕ) → k < statement_count t entries → statement_version t k entries ≤ statement_version t (suc k) entries

-- over the versions of a history with any annotations
module _ {M : Type 0} (domain : Annotations M) (state : State M) (history : IsHistory domain (log_of state.entries) state.committed state.written) (t versions : ℕ) (rises : IsRising state.entries t)
    (is : ReadsWithin state.entries t versions) where
  abbrev early : IsHistory domain (upto_version versions (log_of state.entries)) state.committed state.written
  early = first-versions domain state history versions is.within

  pub own-runs : (k : ℕ) → k ≤ statement_count t state.entries → run domain (log_of state.entries) t k state.committed ≡ (seen_by domain (log_of state.entries) t k state.committed).view
  own-runs =
      runs domain (upto_version versions (log_of state.entries)) state.committed state.written early t (statement_count t state.entries) is.reads rises is.unfinished

  pub own-starts : (k : ℕ) → k < statement_count t state.entries → run_before domain (log_of state.entries) t k state.committed ≡ start_by domain (log_of state.entries) t k state.committed
  own-starts =
      starts domain (upto_version versions (log_of state.entries)) state.committed state.written early t (statement_count t state.entries) is.reads rises is.unfinished

  pub different-before : (k : ℕ) → k < statement_count t state.entries → (table : ℕ) → HaveDifferentIdentities (start_by domain (log_of state.entries) t k state.committed table)
  different-before =
      before-different domain (upto_version versions (log_of state.entries)) state.committed state.written early t (statement_count t state.entries) is.reads rises
      is.unfinished

  pub own-before : (k : ℕ) → k < statement_count t state.entries → (table : ℕ)
      → AllByRecursion (λ row. identity_transaction row.identity ≡ t → identity_statement row.identity ≤ k) (start_by domain (log_of state.entries) t k state.committed table)
  own-before =
      before-own domain (upto_version versions (log_of state.entries)) state.committed state.written early t (statement_count t state.entries) is.reads rises
      is.unfinished

  pub own-once : (k : ℕ) → k ≤ statement_count t state.entries → AreDistinct same_written (pairs (seen_by domain (log_of state.entries) t k state.committed).written)
  own-once =
      written-each-once domain (upto_version versions (log_of state.entries)) state.committed state.written early t (statement_count t state.entries) is.reads rises
      is.unfinished

  pub different-after : (k : ℕ) → k ≤ statement_count t state.entries → (table : ℕ) → HaveDifferentIdentities ((seen_by domain (log_of state.entries) t k state.committed).view table)
  different-after =
      after-different domain (upto_version versions (log_of state.entries)) state.committed state.written early t (statement_count t state.entries) is.reads rises
      is.unfinished

-- over the row versions of a history, in any order
module _ (parameters : Parameters) (state : State (Unit {0})) (reached : IsReached unannotated parameters state) (spans : ℕ → List Span)
    (are : (table : ℕ) → SameBag (spans table) (state_spans state table)) (t : ℕ) (some : zero < t) (known : t ≤ transactions_in state.entries) (rises : IsRising state.entries t) where
  pub saw : (k : ℕ) → k ≤ statement_count t state.entries → SameTables (run unannotated (log_of state.entries) t k (as_of unannotated spans)) (state.views t k)
  saw k within = by (version_of t state.entries) refl
    where
      by : (version : Option ℕ) → version_of t state.entries ≡ version → SameTables (run unannotated (log_of state.entries) t k (as_of unannotated spans)) (state.views t k)
      by None none = saw_held unannotated parameters state reached t some known none rises spans are k within
      by (Some version) made = after_held unannotated parameters state (reached_unstopped unannotated parameters state reached) spans are t k version made within

  pub passes-none : (k : ℕ) → k ≤ statement_count t state.entries → run_stop unannotated parameters (log_of state.entries) t k (as_of unannotated spans) ≡ None
  passes-none k within = by (version_of t state.entries) refl
    where
      by : (version : Option ℕ) → version_of t state.entries ≡ version → run_stop unannotated parameters (log_of state.entries) t k (as_of unannotated spans) ≡ None
      by None none = saw_stops unannotated parameters state reached t some known none rises spans are k within
      by (Some version) made = committed_stops unannotated parameters state (reached_unstopped unannotated parameters state reached) spans are t k version made within

  version-same : (version : ℕ) → version ≤ versions_in state.entries → SameTables (as_of unannotated spans version) (state.committed version)
  version-same version within = versions_held unannotated (log_of state.entries) state.committed state.written reached.history spans are version within

  -- nor does its run over the versions of the history
  pub runs-none : (k : ℕ) → k ≤ statement_count t state.entries → run_stop unannotated parameters (log_of state.entries) t k state.committed ≡ None
  runs-none k within =
      sym (run_stop_same unannotated parameters (log_of state.entries) t k (as_of unannotated spans) state.committed (λ j upto. version-same (statement_version t j state.entries) (versions_le t j state.entries)))
      ∙ passes-none k within

  -- before a statement it read what its run over the versions of the history gives
  pub started : (once : MakesOnce state.entries) (k : ℕ) → k < statement_count t state.entries
      → SameTables (run_before unannotated (log_of state.entries) t k (as_of unannotated spans)) (run_before unannotated (log_of state.entries) t k state.committed)
  started once k within =
      let bound = reads-within unannotated state reached.history once t (version_of t state.entries) refl in
      let after : run unannotated (log_of state.entries) t k state.committed ≡ state.views t k =
      own-runs unannotated state reached.history t bound.0 rises bound.1 k (omega arith) ∙ sym (reached.views t k some known (omega arith)) in
      refreshed-same (statement_version t k state.entries) (statement_version t (suc k) state.entries) (as_of unannotated spans) state.committed
      (run unannotated (log_of state.entries) t k (as_of unannotated spans)) (run unannotated (log_of state.entries) t k state.committed)
      (version-same (statement_version t k state.entries) (versions_le t k state.entries)) (version-same (statement_version t (suc k) state.entries) (versions_le t (suc k) state.entries))
      (λ table. through (saw k (omega arith) table) (same_from _ _ (ap (λ (db : Database (Unit {0})). db table) (sym after))))
