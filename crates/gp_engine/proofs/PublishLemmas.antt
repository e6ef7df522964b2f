-- What a commit publishes is what the history machine asks of an engine, and the engine's invariant holds afterwards.
use Rattle.std.proofs.Common.{◌≡◌, ◌≢◌, ℕ, zero, suc, pred, ◌+◌, ◌<◌, ◌≤◌, true, false, List, [], ◌∷◌, ◌++◌, ◌||◌, map, length, Option, Some, None, refl, ap, sym, ◌∙◌, subst, arith, inl, inr}
use Rattle.std.specs.Prelude.{nat_lt, if◌then◌else◌, slice_set}
use Rattle.std.specs.List.{cons_option, filter_map, AllByRecursion}
use Rattle.std.specs.Option.{option_map}
use Rattle.std.proofs.lemmas.Bool.{cases_eq, cases_lt, le-ltb, lt-ltb}
use Rattle.std.proofs.lemmas.List.{get_or-set_other, get_or-set_same, length-set}
use Rattle.std.proofs.Math.ListN.{get_or-eq_default}
use Rattle.gp_base.specs.declared.cell.Cell.{Cell}
use Rattle.gp_base.specs.declared.stored.Stored.{Stored}
use Rattle.gp_base.specs.Identities.{Identity, same_identity}
use Rattle.gp_base.specs.IdentityParts.{identity_transaction}
use Rattle.gp_versions.specs.declared.span.Span.{Span}
use Rattle.gp_versions.specs.declared.span.Write.{Write}
use Rattle.gp_versions.specs.Commits.{AreBelow, after_commit, begun, ended}
use Rattle.gp_versions.specs.Spans.{Versions}
use Rattle.gp_versions.proofs.SameLemmas.{same-exact}
use Rattle.gp_versions.proofs.SpanLemmas.{ended_id}
use Rattle.gp_base.specs.declared.limit.TheConstants.{MAX_SPANS}
use Rattle.gp_txn.specs.declared.carried.Carried.{Carried}
use Rattle.gp_txn.specs.declared.overlay.TableWrites.{TableWrites}
use Rattle.gp_txn.specs.Committing as txn
use Rattle.gp_txn.specs.Committing.{commit_of, spans_left}
use Rattle.gp_txn.specs.Counts.{count_rows, count_spans}
use Rattle.gp_txn.specs.Bases.{table_view}
use Rattle.gp_txn.specs.Overlay as txn_overlay
use Rattle.gp_txn.specs.Overlay.{carried_write, own_write, rows_below, slot_writes}
use Rattle.gp_txn.specs.Transactions.{AreThere, HoldsOwn, HoldsThere, has_span, no_table, overlay_at, table_at, view_at, writes_at}
use Rattle.gp_txn.proofs.AfterLemmas.{commit-bases, commit-count, commit-none, commit-rows, others-after, there-after}
use Rattle.gp_txn.proofs.CommitLemmas.{inserted-own, slots-all}
use Rattle.gp_txn.proofs.CountLemmas.{count-after}
use Rattle.gp_txn.proofs.PairLemmas.{all-map, all-weaker}
use Rattle.gp_machine.specs.Entries.{Entry, Committed, transactions_in, versions_in}
use Rattle.gp_machine.specs.EngineLine.{marked_rows, rows_after}
use Rattle.gp_machine.specs.Represents as machine
use Rattle.gp_machine.specs.Represents.{AreWritesOf}
use Rattle.gp_engine.specs.declared.running.Running.{Running}
use Rattle.gp_engine.specs.Engine.{Engine, IsSession, IsSound, kept_of, overlay_of, session_at, spans_of, tables_of}
use Rattle.gp_engine.proofs.OverlayLemmas.{overlay_stays, snapshot_later, snapshot_newest}
use Rattle.gp_engine.proofs.SessionLemmas.{count-cleared}
use Rattle.gp_base.proofs.SmallLemmas.{each_append}

-- ---- what a commit writes to each table

-- the transaction reads no rows of tables that are not there
abbrev pub ReadsNothingBeyond : Engine → Running → Type 0
ReadsNothingBeyond engine running = (place : ℕ) → length engine.versions ≤ place → view_at running.active.tables engine.versions running.active.begin place ≡ []

-- the row versions of the tables are those after its commit
abbrev pub HasCommitted : Engine → Running → List Versions → ℕ → Type 0
HasCommitted engine running new version =
    (place : ℕ) → place < length engine.versions
    → (table_at place new).spans ≡ after_commit version (commit_of running.active.tables engine.versions place) (table_at place engine.versions).spans

-- what a transaction commits to a table, and nothing beyond the last one
abbrev pub published : Engine → Running → ℕ → List Write
published engine running place =
    if nat_lt place (length engine.versions) then commit_of running.active.tables engine.versions place else []

module _ (engine : Engine) (running : Running) where
  -- also where there is no table
  published-is : HoldsThere running.active.tables engine.versions → ReadsNothingBeyond engine running → (place : ℕ) → published engine running place ≡ commit_of running.active.tables engine.versions place
  published-is there nothing place =
      elim (cases_lt place (length engine.versions)) [
        | inl low ↦ rw (lt-ltb place (length engine.versions) low) refl
        | inr high ↦ rw (le-ltb place (length engine.versions) high) (sym (commit-none running.active engine.versions place running.active.begin high there (nothing place high)))
      ]

  -- these are the writes that the history machine asks for
  pub writes_of : HoldsOwn running.active → HoldsThere running.active.tables engine.versions → ReadsNothingBeyond engine running → (place : ℕ)
      → AreWritesOf (spans_of engine.versions) (overlay_of (spans_of engine.versions) running) place (published engine running place)
  writes_of own there nothing place =
      subst (AreWritesOf (spans_of engine.versions) (overlay_of (spans_of engine.versions) running) place) (sym (published-is there nothing place)) (record {
        names = commit-bases running.active engine.versions own place;
        rows = commit-rows running.active engine.versions place;
      })

-- where there is no table, there are no spans
no-spans : (versions : List Versions) (place : ℕ) → length versions ≤ place → spans_of versions place ≡ []
no-spans versions place high = ap (λ (table : Versions). table.spans) (get_or-eq_default versions no_table high)

-- the spans afterwards, also where there is no table
pub spans_published : (engine : Engine) (running : Running) (new : List Versions) (version : ℕ) → length new ≡ length engine.versions
    → HasCommitted engine running new version → (place : ℕ) → spans_of new place ≡ after_commit version (published engine running place) (spans_of engine.versions place)
spans_published engine running new version same spans place =
    elim (cases_lt place (length engine.versions)) [
      | inl low ↦ rw (lt-ltb place (length engine.versions) low) (spans place low)
      | inr high ↦
          rw (le-ltb place (length engine.versions) high)
          (no-spans new place (subst (λ n. n ≤ place) (sym same) high) ∙ sym (ap (after_commit version []) (no-spans engine.versions place high)))
    ]

-- ---- how many rows it publishes

module _ (engine : Engine) (running : Running) where
  -- the writes leave the marked rows of what the transaction reads
  pub rows_published : (count : ℕ)
      → count_rows (commit_of running.active.tables engine.versions) count
      ≡ marked_rows (machine.view_of (spans_of engine.versions) (overlay_of (spans_of engine.versions) running)) count
  rows_published count =
      commit-count running.active engine.versions (marked_rows (machine.view_of (spans_of engine.versions) (overlay_of (spans_of engine.versions) running))) refl (λ place. refl) count

  module _ (tables : length engine.versions ≡ length (tables_of engine)) where
    pub left_published : spans_left running.active.tables engine.versions ≡ rows_after (kept_of engine) (overlay_of (spans_of engine.versions) running)
    left_published =
        ap (λ n. count_spans engine.versions (length engine.versions) + n) (rows_published (length engine.versions))
        ∙ ap (λ n. count_spans engine.versions n + marked_rows (machine.view_of (spans_of engine.versions) (overlay_of (spans_of engine.versions) running)) n) tables

    -- too many
    pub is_full : MAX_SPANS < spans_left running.active.tables engine.versions → nat_lt MAX_SPANS (rows_after (kept_of engine) (overlay_of (spans_of engine.versions) running)) ≡ true
    is_full many = lt-ltb MAX_SPANS (rows_after (kept_of engine) (overlay_of (spans_of engine.versions) running)) (subst (λ n. MAX_SPANS < n) left_published many)

    -- not too many
    pub has_room : spans_left running.active.tables engine.versions ≤ MAX_SPANS → nat_lt MAX_SPANS (rows_after (kept_of engine) (overlay_of (spans_of engine.versions) running)) ≡ false
    has_room few = le-ltb MAX_SPANS (rows_after (kept_of engine) (overlay_of (spans_of engine.versions) running)) (subst (λ n. n ≤ MAX_SPANS) left_published few)

    -- the number of spans afterwards
    pub count_published : (new : List Versions) (version : ℕ) → HasCommitted engine running new version → count_spans new (length (tables_of engine)) ≡ rows_after (kept_of engine) (overlay_of (spans_of engine.versions) running)
    count_published new version spans =
        subst (λ n. count_spans new n ≡ rows_after (kept_of engine) (overlay_of (spans_of engine.versions) running)) tables
        (count-after version (commit_of running.active.tables engine.versions) engine.versions new (length engine.versions) spans ∙ left_published)

-- ---- whose rows they are

-- a fact of the identities of all spans and writes holds of those of the spans afterwards
module _ (P : Identity → Type 0) where
  ids_ended : (version : ℕ) (writes : List Write) (spans : List Span) → AllByRecursion (λ (span : Span). P span.id) spans → AllByRecursion (λ (span : Span). P span.id) (map (ended version writes) spans)
  ids_ended version writes spans all =
      all-map (ended version writes) (λ (span : Span). P span.id) (λ (span : Span). P span.id) (λ span is. subst P (sym (ended_id version writes span)) is) spans all

  ids_begun-one : (version : ℕ) (id : Identity) (row : Option (List Cell)) (rest : List Span) → P id → AllByRecursion (λ (span : Span). P span.id) rest
      → AllByRecursion (λ (span : Span). P span.id) (cons_option (option_map (λ cells. record { id = id; from = version; to = None; row = cells }) row) rest)
  ids_begun-one version id None rest is all = all
  ids_begun-one version id (Some cells) rest is all = (is, all)

  ids_begun : (version : ℕ) (writes : List Write) → AllByRecursion (λ (write : Write). P write.id) writes → AllByRecursion (λ (span : Span). P span.id) (filter_map (begun version) writes)
  ids_begun version [] all = tt
  ids_begun version (write ∷ writes) all = ids_begun-one version write.id write.row (filter_map (begun version) writes) all.0 (ids_begun version writes all.1)

  pub ids_after : (version : ℕ) (writes : List Write) (spans : List Span) → AllByRecursion (λ (span : Span). P span.id) spans → AllByRecursion (λ (write : Write). P write.id) writes
      → AllByRecursion (λ (span : Span). P span.id) (after_commit version writes spans)
  ids_after version writes spans held wrote =
      each_append (λ (span : Span). P span.id) (map (ended version writes) spans) (filter_map (begun version) writes)
      (ids_ended version writes spans held) (ids_begun version writes wrote)

  id_there : (spans : List Span) (id : Identity) → AllByRecursion (λ (span : Span). P span.id) spans → has_span spans id ≡ true → P id
  id_there [] id all is = absurd cc
  id_there (span ∷ spans) id all is =
      elim (same_identity span.id id) as (λ b. same_identity span.id id ≡ b → (b || has_span spans id) ≡ true → P id) [
        | true ↦ λ same is. subst P (same-exact span.id id same) all.0
        | false ↦ λ other is. id_there spans id all.1 is
      ] refl is

  -- a commit writes rows of the table, and rows that the transaction inserted
  pub ids_written : (tables : List TableWrites) (versions : List Versions) (place : ℕ) → AllByRecursion (λ (span : Span). P span.id) (table_at place versions).spans
      → AreThere (table_at place versions).spans (writes_at place tables).carried → AllByRecursion (λ (stored : Stored). P stored.id) (writes_at place tables).own
      → AllByRecursion (λ (write : Write). P write.id) (commit_of tables versions place)
  ids_written tables versions place held there own =
      let table = overlay_at place tables versions in
      let spans = (table_at place versions).spans in
      each_append (λ (write : Write). P write.id) (slot_writes table (rows_below table spans)) (map carried_write table.carried ++ map own_write table.own) (slots-all P table spans held)
      (each_append (λ (write : Write). P write.id) (map carried_write table.carried) (map own_write table.own)
      (all-map carried_write (λ (row : Carried). has_span spans row.id ≡ true) (λ (write : Write). P write.id) (λ row is. id_there spans row.id held is) table.carried there)
      (all-map own_write (λ (stored : Stored). P stored.id) (λ (write : Write). P write.id) (λ stored is. is) table.own own))

-- ---- the sessions afterwards

-- the transactions that are left, once that of the session at a place has ended
pub session_left : (sessions : List (Option Running)) (place : ℕ) → place < length sessions → (session : ℕ) (running : Running)
    → session_at session (slice_set sessions place None) ≡ Some running → (session ≢ suc place) × (session_at session sessions ≡ Some running)
session_left sessions place within zero running at = absurd cc
session_left sessions place within (suc other) running at =
    elim (cases_eq other place) [
      | inl same ↦ absurd (none-some (sym (get_or-set_same sessions place None None within) ∙ ap (λ (n : ℕ). session_at (suc n) (slice_set sessions place None)) (sym same) ∙ at))
      | inr differ ↦ ((λ same. differ (ap pred same)), sym (get_or-set_other sessions place other None None differ) ∙ at)
    ]
  where
    none-some : None ≡ Some running → ⊥
    none-some e = cc

-- ---- the invariant after a COMMIT that makes a version

module _ (entries : List Entry) (held : List Versions) (sessions : List (Option Running)) (line place : ℕ) (running : Running) (versions : List Versions) (kept : IsSound entries held sessions)
    (at : session_at (suc place) sessions ≡ Some running) (holds : HoldsOwn running.active) (within : place < length sessions) (same : length versions ≡ length held)
    (commits : txn.Commits (suc (versions_in entries)) running.active held versions) where
  abbrev later : List Entry
  later = Committed line (suc place) running.active.t ∷ entries

  mine : IsSession entries held running
  mine = kept.each (suc place) running at

  abbrev IsMade : Identity → Type 0
  IsMade id = identity_transaction id ≤ transactions_in entries

  made-own : (table : ℕ) → AllByRecursion (λ (stored : Stored). IsMade stored.id) (writes_at table running.active.tables).own
  made-own table =
      all-weaker (λ (stored : Stored). identity_transaction stored.id ≡ running.active.t) (λ (stored : Stored). IsMade stored.id) (λ stored is. omega (arith, is, mine.began))
      (writes_at table running.active.tables).own (inserted-own running.active.t running.active.last (writes_at table running.active.tables).own (holds table).own).0

  made : (table : ℕ) → AllByRecursion (λ (span : Span). IsMade span.id) (spans_of versions table)
  made table =
      elim (cases_lt table (length held)) [
        | inl low ↦
            subst (AllByRecursion (λ (span : Span). IsMade span.id)) (sym (commits.made.spans table low))
            (ids_after IsMade (suc (versions_in entries)) (commit_of running.active.tables held table) (spans_of held table) (kept.makers table)
            (ids_written IsMade running.active.tables held table (kept.makers table) (mine.there table) (made-own table)))
        | inr high ↦ subst (AllByRecursion (λ (span : Span). IsMade span.id)) (sym (no-spans versions table (subst (λ n. n ≤ table) (sym same) high))) tt
      ]

  -- the others still read no rows of tables that are not there
  nothing-beyond : (other : Running) → ((table : ℕ) → length held ≤ table → view_at other.active.tables held other.active.begin table ≡ []) → (table : ℕ) → length versions ≤ table
      → view_at other.active.tables versions other.active.begin table ≡ []
  nothing-beyond other nothing table high =
      let high-before : length held ≤ table = subst (λ n. n ≤ table) same high in
      subst (λ spans. table_view (txn_overlay.overlay_of spans (writes_at table other.active.tables)) spans other.active.begin ≡ []) (no-spans held table high-before ∙ sym (no-spans versions table high))
      (nothing table high-before)

  others-stay : (session : ℕ) (other : Running) → session_at session (slice_set sessions place None) ≡ Some other → IsSession later versions other
  others-stay session other found =
      let left = session_left sessions place within session other found in
      let was = kept.each session other left.1 in
      record {
        first = was.first;
        began = was.began;
        begin = omega (arith, was.begin);
        last = was.last;
        count = was.count;
        others =
            others-after other.active.t (suc (versions_in entries)) running.active held versions same holds mine.there commits
            (λ equal. left.0 (kept.apart session (suc place) other running left.1 at equal)) was.others;
        below = λ table. let before = was.below table in let later = snapshot_later other.active (versions_in entries) (suc (versions_in entries)) (omega arith) in omega (arith, before, later);
        there = there-after other.active.tables (suc (versions_in entries)) running.active held versions same commits was.there;
        beyond = nothing-beyond other was.beyond;
      }

  -- the others' writes are the same
  pub overlays_stay : (session : ℕ) → option_map (overlay_of (spans_of versions)) (session_at session (slice_set sessions place None))
      ≡ option_map (overlay_of (spans_of held)) (session_at session (slice_set sessions place None))
  overlays_stay session = by (session_at session (slice_set sessions place None)) refl
    where
      by : (found : Option Running) → session_at session (slice_set sessions place None) ≡ found → option_map (overlay_of (spans_of versions)) found ≡ option_map (overlay_of (spans_of held)) found
      by None is = refl
      by (Some other) is =
          let was = kept.each session other (session_left sessions place within session other is).1 in
          let newest = snapshot_newest other.active (versions_in entries) was.begin in
          ap Some (overlay_stays (suc (versions_in entries)) running.active held versions same commits other (λ table. let below = was.below table in omega (arith, below, newest)))

  next : suc (versions_in entries) + 1 ≡ suc (versions_in later)
  next = omega arith

  pub committed_sound : IsSound later versions (slice_set sessions place None)
  committed_sound = record {
    valid = kept.valid;
    tables = same ∙ kept.tables;
    few = kept.few;
    places = length-set sessions place None ∙ kept.places;
    transactions = kept.transactions;
    statements = kept.statements;
    numbers = kept.numbers;
    unended = omega (arith, kept.unended, count-cleared sessions place running at);
    below = λ table. subst (λ n. AreBelow n (spans_of versions table)) next (commits.below table);
    makers = made;
    each = others-stay;
    apart = λ session other a b first second. kept.apart session other a b (session_left sessions place within session a first).1 (session_left sessions place within other b second).1;
  }
