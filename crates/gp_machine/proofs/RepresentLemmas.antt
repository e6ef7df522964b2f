-- What an engine keeps represents the next state after each action.
use Rattle.gp_machine.proofs.Prelude.{◌≡◌, ℕ, zero, suc, ◌+◌, ◌≤◌, Bool, true, false, cond, List, [], ◌∷◌, ◌++◌, length, refl, sym, ap, ◌∙◌, subst, arith, Option, Some, None, ◌≢◌, ◌==◌, filter, is_none, step, wrote, Statement, Database, unannotated, Table, Command, pairs, next_version, Began, Committed, Created, End, Ended, Entry, Lost, Ran, begin_version, log_of, transactions_in, versions_in, accepted, began, conflict_of, created, ended, published, published_rows, seen_after, start_now, version_now, as_of, spans_of, Parameters, IsReached, AreWritesOf, Kept, Overlay, Represents, RepresentsActive, RepresentsSession, base_after, version_to_read, view_at, Active, State, with_value, after_commit, rows_at, Span, Write, both_ways, eq_itself, eq_not}
use Rattle.gp_machine.proofs.ActiveLemmas.{active_over, active_version}
use Rattle.gp_machine.proofs.BaseLemmas.{base_more}
use Rattle.gp_machine.proofs.LogLemmas.{at_other}
use Rattle.gp_machine.proofs.OverlayLemmas.{now_is, now_within, start_shown}
use Rattle.gp_machine.proofs.ReachedLemmas.{published_reached}
use Rattle.gp_machine.proofs.SpanCommit.{commit_spans}
use Rattle.gp_machine.proofs.SpanLaws.{plain_spans_rows}
use Rattle.gp_machine.specs.Represents.{Applied, IsNew, rows_below}

-- the spans hold the same rows of the versions up to this one
abbrev KeepVersions : (ℕ → List Span) → (ℕ → List Span) → ℕ → Type 0
KeepVersions old new versions = (version place : ℕ) → version ≤ versions → as_of unannotated new version place ≡ as_of unannotated old version place

-- the spans that an engine keeps hold the rows of each version
pub committed_rows : (parameters : Parameters) (state : State (Unit {0})) (kept : Kept) → Represents kept state → IsReached unannotated parameters state → (version place : ℕ) → version ≤ versions_in state.entries
    → as_of unannotated kept.spans version place ≡ state.committed version place
committed_rows parameters state kept represents reached version place l =
    ap (rows_at unannotated version) (represents.spans place) ∙ plain_spans_rows (log_of state.entries) state.committed state.written reached.history version place l

-- spans that say the same of the versions up to the one that a transaction read last keep what the others keep
pub runs_kept : (old new : ℕ → List Span) (versions begun : ℕ) (overlay : Overlay) (active : Active (Unit {0})) → KeepVersions old new versions → active.version ≤ versions → RepresentsActive old begun overlay active → RepresentsActive new begun overlay active
runs_kept old new versions begun overlay active same within runs =
    let rows : rows_below new overlay ≡ rows_below old overlay = λ i place. same (overlay.version place) place (let l = runs.version place in omega arith) i in
    record {
      transaction = runs.transaction;
      read_committed = runs.read_committed;
      begin = runs.begin;
      statements = runs.statements;
      version = runs.version;
      view = λ place.
          (λ i. cond (active.version == overlay.version place) (overlay.shown (rows i) place)
          (filter (λ row. is_none (overlay.base (rows i) place row.identity)) (same active.version place within i) ++ filter (λ row. row.mark) (overlay.shown (rows i) place)))
          ∙ runs.view place;
      base = λ place id other. ap (λ (database : Database (Unit {0})). overlay.base database place id) rows ∙ runs.base place id other;
    }

session_kept : (old new : ℕ → List Span) (entries later : List Entry) (o : Option Overlay) (m : Option (Active (Unit {0}))) → KeepVersions old new (versions_in entries)
    → ((a : Active (Unit {0})) → m ≡ Some a → (begin_version a.transaction later ≡ begin_version a.transaction entries) × (a.version ≤ versions_in entries)) → RepresentsSession old entries o m → RepresentsSession new later o m
session_kept old new entries later None None same begun s = tt
session_kept old new entries later None (Some a) same begun s = s
session_kept old new entries later (Some o) None same begun s = s
session_kept old new entries later (Some o) (Some a) same begun s =
    subst (λ b. RepresentsActive new b o a) (sym (begun a refl).0) (runs_kept old new (versions_in entries) (begin_version a.transaction entries) o a same (begun a refl).1 s)

-- one session changes, and the others are represented as before
pub frame : (session : ℕ) (o : Option Overlay) (a : Option (Active (Unit {0}))) (old new : ℕ → List Span) (entries later : List Entry) (sessions : ℕ → Option Overlay) (active : ℕ → Option (Active (Unit {0})))
    → KeepVersions old new (versions_in entries)
    → ((other : ℕ) (b : Active (Unit {0})) → other ≢ session → active other ≡ Some b → (begin_version b.transaction later ≡ begin_version b.transaction entries) × (b.version ≤ versions_in entries))
    → RepresentsSession new later o a → ((other : ℕ) → RepresentsSession old entries (sessions other) (active other))
    → (other : ℕ) → RepresentsSession new later (with_value session o sessions other) (with_value session a active other)
frame session o a old new entries later sessions active same begun here all other =
    (elim (other == session) as (λ b. (other == session) ≡ b → RepresentsSession new later (cond b o (sessions other)) (cond b a (active other))) [
      | true ↦ λ is. here
      | false ↦ λ is. session_kept old new entries later (sessions other) (active other) same
          (λ b e. begun other b (λ eq. absurd (both_ways (other == session) is (ap (λ n. n == session) eq ∙ eq_itself session))) e) (all other)
    ]) refl

module _ (parameters : Parameters) (state : State (Unit {0})) (kept : Kept) (represents : Represents kept state) (reached : IsReached unannotated parameters state) (line session : ℕ) where
  within : (other : ℕ) (b : Active (Unit {0})) → state.active other ≡ Some b → b.version ≤ versions_in state.entries
  within other b e = active_version unannotated parameters state reached other b e

  -- CREATE TABLE changes no session
  pub created_represented : (table : Table)
      → Represents (record kept { catalogue = kept.catalogue ++ table ∷ []; entries = Created line session table ∷ kept.entries }) (created state line session table)
  created_represented table = record {
    catalogue = ap (λ tables. tables ++ table ∷ []) represents.catalogue;
    entries = ap (λ entries. Created line session table ∷ entries) represents.entries;
    versions = represents.versions;
    transactions = represents.transactions;
    statements = represents.statements;
    rows = represents.rows;
    spans = represents.spans;
    sessions = λ other. session_kept kept.spans kept.spans state.entries (Created line session table ∷ state.entries) (kept.sessions other) (state.active other) (λ v place l. refl) (λ a e. (refl, within other a e)) (represents.sessions other);
  }

  -- BEGIN: a new overlay
  pub began_represented : (level : Bool) (overlay : Overlay) → IsNew kept.spans overlay → overlay.transaction ≡ suc kept.transactions → overlay.read_committed ≡ level → overlay.begin ≡ kept.versions
      → Represents (record kept { entries = Began line session (suc kept.transactions) level ∷ kept.entries; transactions = suc kept.transactions; sessions = with_value session (Some overlay) kept.sessions }) (began state line session level)
  began_represented level overlay new number how begin = record {
    catalogue = represents.catalogue;
    entries = λ i. Began line session (suc (represents.transactions i)) level ∷ represents.entries i;
    versions = represents.versions;
    transactions = ap suc represents.transactions;
    statements = represents.statements;
    rows = represents.rows;
    spans = represents.spans;
    sessions = frame session (Some overlay)
        (Some (record { transaction = suc (transactions_in state.entries); read_committed = level; version = versions_in state.entries; statements = zero; seen = record { view = state.committed (versions_in state.entries); written = [] } }))
        kept.spans kept.spans state.entries (Began line session (suc (transactions_in state.entries)) level ∷ state.entries)
        kept.sessions state.active (λ v place l. refl)
        (λ other b n e. let k = (reached.running other b e).known in (ap (λ c. cond c (versions_in state.entries) (begin_version b.transaction state.entries)) (eq_not (suc (transactions_in state.entries)) b.transaction (λ is. omega arith)), within other b e))
        (record {
          transaction = number ∙ ap suc represents.transactions;
          read_committed = how;
          begin = begin ∙ represents.versions ∙ sym (ap (λ b. cond b (versions_in state.entries) (begin_version (suc (transactions_in state.entries)) state.entries)) (eq_itself (suc (transactions_in state.entries))));
          statements = new.statements;
          version = λ place. subst (λ v. overlay.version place ≤ v) at (new.version place);
          view = λ place.
              ap (λ v. view_at kept.spans overlay v place) (sym at) ∙ new.view place
              ∙ ap (λ v. as_of unannotated kept.spans v place) at ∙ committed_rows parameters state kept represents reached (versions_in state.entries) place (omega arith);
          base = new.base;
        }) represents.sessions;
  }
    where
      at : overlay.begin ≡ versions_in state.entries
      at = begin ∙ represents.versions

  module _ (active : Active (Unit {0})) (e : state.active session ≡ Some active) (overlay : Overlay) (runs : RepresentsActive kept.spans (begin_version active.transaction state.entries) overlay active) where
    now : version_to_read overlay kept.versions ≡ version_now state active
    now = now_is parameters state reached session active e kept.spans overlay runs kept.versions represents.versions

    -- what the transaction reads before its next statement
    pub start_seen : view_at kept.spans overlay (version_to_read overlay kept.versions) ≡ start_now state active
    start_seen = λ i place. (ap (λ v. view_at kept.spans overlay v place) now
        ∙ start_shown parameters state reached session active e kept.spans overlay runs (λ place. committed_rows parameters state kept represents reached (version_now state active) place (now_within parameters state reached session active e kept.spans overlay runs)) place) i

    -- a statement: the writes of this session alone
    pub accepted_represented : (command : Command) (statement : Statement) (new : Overlay) → Applied statement kept.spans (version_to_read overlay kept.versions) overlay new
        → Represents (record kept { entries = Ran line session command overlay.transaction statement ∷ kept.entries; statements = suc kept.statements; sessions = with_value session (Some new) kept.sessions })
        (accepted unannotated state line session active command statement)
    accepted_represented command statement new applied = record {
      catalogue = represents.catalogue;
      entries = λ i. Ran line session command (runs.transaction i) statement ∷ represents.entries i;
      versions = represents.versions;
      transactions = represents.transactions;
      statements = ap suc represents.statements;
      rows = represents.rows;
      spans = represents.spans;
      sessions = frame session (Some new) (Some (record active { version = version_now state active; statements = suc active.statements; seen = seen_after unannotated state line session active command statement }))
          kept.spans kept.spans state.entries (Ran line session command active.transaction statement ∷ state.entries) kept.sessions state.active (λ v place l. refl) (λ other b n f. (refl, within other b f))
          (record {
            transaction = applied.transaction ∙ runs.transaction;
            read_committed = applied.read_committed ∙ runs.read_committed;
            begin = applied.begin ∙ runs.begin;
            statements = applied.statements ∙ ap suc runs.statements;
            version = λ place. subst (λ v. new.version place ≤ v) now (applied.version place);
            view = λ place. ap (λ v. view_at kept.spans new v place) (sym now) ∙ applied.view place ∙ (λ i. step unannotated (runs.transaction i) (suc (runs.statements i)) statement (start_seen i) place);
            base = λ place id other.
                applied.base place id (λ f. other (f ∙ sym applied.transaction))
                ∙ (λ i. base_after (now i) place id (wrote unannotated (runs.transaction i) (suc (runs.statements i)) statement (start_seen i)) (runs.base place id (λ f. other (f ∙ sym applied.transaction)) i))
                ∙ sym (base_more place id (version_now state active) active.seen.written (wrote unannotated active.transaction (suc active.statements) statement (start_now state active)));
          }) represents.sessions;
    }

    -- ROLLBACK, and a COMMIT that lost
    pub ended_represented : (end : End) → Represents (record kept { entries = Ended line session end overlay.transaction ∷ kept.entries; sessions = with_value session None kept.sessions }) (ended state line session active end)
    ended_represented end = record {
      catalogue = represents.catalogue;
      entries = λ i. Ended line session end (runs.transaction i) ∷ represents.entries i;
      versions = represents.versions;
      transactions = represents.transactions;
      statements = represents.statements;
      rows = represents.rows;
      spans = represents.spans;
      sessions = frame session None None kept.spans kept.spans state.entries (Ended line session end active.transaction ∷ state.entries) kept.sessions state.active (λ v place l. refl) (λ other b n f. (refl, within other b f)) tt represents.sessions;
    }

    -- COMMIT: the spans grow, and the other sessions are represented as before
    pub published_represented : conflict_of state active ≡ None
        → (writes : ℕ → List Write) (count : ℕ) → ((place : ℕ) → AreWritesOf kept.spans overlay place (writes place)) → count ≡ published_rows active.seen (length state.catalogue)
        → Represents (record kept {
          entries = Committed line session overlay.transaction ∷ kept.entries;
          versions = suc kept.versions;
          spans = λ place. after_commit (suc kept.versions) (writes place) (kept.spans place);
          rows = kept.rows + count;
          sessions = with_value session None kept.sessions;
        }) (published state line session active)
    published_represented won writes count are counted = record {
      catalogue = represents.catalogue;
      entries = λ i. Committed line session (runs.transaction i) ∷ represents.entries i;
      versions = ap suc represents.versions;
      transactions = represents.transactions;
      statements = represents.statements;
      rows = λ i. represents.rows i + counted i;
      spans = exact;
      sessions = frame session None None kept.spans (λ place. after_commit (suc kept.versions) (writes place) (kept.spans place)) state.entries (Committed line session active.transaction ∷ state.entries) kept.sessions state.active same (λ other b n f. (refl, within other b f)) tt represents.sessions;
    }
      where
        next : State (Unit {0})
        next = published state line session active

        exact : (place : ℕ) → after_commit (suc kept.versions) (writes place) (kept.spans place) ≡ spans_of (suc (versions_in state.entries)) next.committed next.written place
        exact place =
            ap (λ n. after_commit (suc n) (writes place) (kept.spans place)) represents.versions
            ∙ commit_spans (log_of state.entries) state.committed state.written reached.history active (active_over unannotated parameters state reached session active e) kept.spans (begin_version active.transaction state.entries) overlay place (writes place) (represents.spans place) runs (are place)

        same : KeepVersions kept.spans (λ place. after_commit (suc kept.versions) (writes place) (kept.spans place)) (versions_in state.entries)
        same version place l =
            ap (rows_at unannotated version) (exact place)
            ∙ plain_spans_rows (log_of next.entries) next.committed next.written (published_reached unannotated parameters state line session Lost active e reached won).history version place (omega arith)
            ∙ ap (λ (db : Database (Unit {0})). db place) (at_other (suc (versions_in state.entries)) (next_version (state.committed (versions_in state.entries)) active.seen.view (pairs active.seen.written)) state.committed version (λ is. omega arith))
            ∙ sym (committed_rows parameters state kept represents reached version place l)
