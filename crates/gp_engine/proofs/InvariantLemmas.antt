-- Every line keeps what the engine's invariant says.
use Rattle.std.proofs.Common.{◌≡◌, ◌≢◌, ℕ, zero, suc, pred, ◌+◌, ◌-◌, ◌^◌, ◌<◌, ◌≤◌, Bool, true, false, cond, List, [], ◌∷◌, ◌++◌, length, Option, Some, None, get_or, refl, ap, sym, ◌∙◌, subst, arith, inl, inr, ◌⊎◌}
use Rattle.std.specs.Prelude.{if◌then◌else◌, nat_le, slice_set, Result, Ok, Err}
use Rattle.std.specs.List.{AllByRecursion}
use Rattle.std.proofs.lemmas.Bool.{cases_eq, eq-eqb, leb-false, ne_eqb}
use Rattle.std.proofs.lemmas.List.{get_or_read_under, get_or-set_other, get_or-set_same, length-set, length_push}
use Rattle.std.proofs.Math.ListN.{get_or-eq_default}
use Rattle.gp_base.specs.declared.catalog.TheConstants.{MAX_TABLES}
use Rattle.gp_base.specs.declared.refusal.Refusal.{Refusal}
use Rattle.gp_base.specs.declared.limit.Limit.TheVariants as limit
use Rattle.gp_base.specs.declared.refusal.Refusal.TheVariants.{E09, E10, E14}
use Rattle.gp_base.specs.declared.table.Table.{Table}
use Rattle.gp_base.specs.Annotated.{Database, unannotated}
use Rattle.gp_base.specs.IdentityParts.{identity_transaction}
use Rattle.gp_grammar.specs.Syntax as y
use Rattle.gp_grammar.specs.Syntax.{Command}
use Rattle.gp_check.specs.Valid.{is_valid}
use Rattle.gp_check.proofs.ValidLemmas.{tables-added}
use Rattle.gp_algebra.specs.Effects.{step, with_rows}
use Rattle.gp_algebra.specs.Statements.{Statement, insert, insert_select, update, delete, read}
use Rattle.gp_versions.specs.declared.span.Span.{Span}
use Rattle.gp_versions.specs.Commits.{AreBelow}
use Rattle.gp_versions.specs.Spans.{Versions, rows_at}
use Rattle.gp_txn.specs.Bases.{table_view}
use Rattle.gp_txn.specs.Overlay.{PlainRow, overlay_of}
use Rattle.gp_txn.specs.Transactions.{AreOthers, AreThere, HoldsOthers, IsUnwritten, Writes, no_table, snapshot_of, table_at, view_at, writes_at}
use Rattle.gp_txn.proofs.AfterLemmas.{view-beyond}
use Rattle.gp_txn.proofs.PairLemmas.{all-weaker}
use Rattle.gp_txn.proofs.UnwrittenLemmas.{unwritten-view}
use Rattle.gp_machine.specs.declared.reply.Reply.{Reply}
use Rattle.gp_machine.specs.ActionForms.{Action, Begin, Commit, Create, Rollback, Run, action_of}
use Rattle.gp_machine.specs.Entries.{End, Entry, RolledBack, Lost, Created, Began, Ran, Committed, Ended, statement_count, transactions_in, versions_in}
use Rattle.gp_machine.specs.Event.{count_refusal, creation_refusal, target_of}
use Rattle.gp_check.specs.Checking.{checked}
use Rattle.gp_log.specs.declared.limit.TheConstants.{MAX_TRANSACTIONS, MAX_STATEMENTS}
use Rattle.gp_log.specs.LogFacts.{tables_in}
use Rattle.gp_log.specs.LogCounts.{ends_in}
use Rattle.gp_log.specs.Logs.{log_view}
use Rattle.gp_log.proofs.CountLemmas.{log_view-length}
use Rattle.gp_log.proofs.EntryLemmas.{entries-counted, versions-ended}
use Rattle.gp_engine.specs.declared.running.Running.{Running}
use Rattle.gp_engine.specs.Engine.{Engine, IsEngine, IsSession, IsSound, IsUnchanged, count_running, entries_of, newest_of, session_at, spans_of, statements_of, tables_of, transactions_of}
use Rattle.gp_log.specs.Parameters.{parameters}
use Rattle.gp_engine.specs.Methods.{Begins, Clears, Commits, Creates, DoesAt, HasPlace, Keeps, Records, Refuses, RunsAs, RunsChecked, is_read, loses, meaning_of, overflows, publishes, refusal_at}
use Rattle.gp_engine.proofs.OverlayLemmas.{snapshot_first, snapshot_later}
use Rattle.gp_engine.proofs.PublishLemmas.{committed_sound, session_left}
use Rattle.gp_engine.proofs.SessionLemmas.{count-cleared, count-replaced, count-taken}
use Rattle.std.proofs.lemmas.Option.{same_Some}
use Rattle.gp_engine.proofs.FollowLemmas.{spans-added}

-- ---- sessions

-- the transaction of a session, where that of the session at a place was replaced
pub session-put : (sessions : List (Option Running)) (place : ℕ) (put : Option Running) → place < length sessions → (session : ℕ) (running : Running)
    → session_at session (slice_set sessions place put) ≡ Some running
    → ((session ≡ suc place) × (put ≡ Some running)) ⊎ ((session ≢ suc place) × (session_at session sessions ≡ Some running))
session-put sessions place put within zero running at = absurd cc
session-put sessions place put within (suc other) running at =
    elim (cases_eq other place) [
      | inl same ↦ inl (ap suc same, sym (get_or-set_same sessions place put None within) ∙ ap (λ (n : ℕ). session_at (suc n) (slice_set sessions place put)) (sym same) ∙ at)
      | inr differ ↦ inr ((λ same. differ (ap pred same)), sym (get_or-set_other sessions place other put None differ) ∙ at)
    ]

-- the places of the sessions
pub within-sessions : (engine : Engine) (place : ℕ) → IsEngine engine → place < 64 → place < length engine.sessions
within-sessions engine place kept within = subst (λ n. place < n) (sym kept.places) within

-- the transaction that a look at a place has found, in the parts of an engine
pub looked : (engine inside : Engine) (place : ℕ) (found session : Option Running) → IsEngine engine → place < 64 → inside ≡ engine → found ≡ get_or inside.sessions place found
    → get_or inside.sessions place found ≡ session → get_or engine.sessions place None ≡ session
looked engine inside place found session sound within view is at =
    subst (λ (e : Engine). place < length e.sessions → get_or e.sessions place None ≡ session) view
    (λ low. sym (get_or_read_under inside.sessions place (length inside.sessions) found None is low refl) ∙ is ∙ at) (within-sessions engine place sound within)

-- ---- what the log has room for

-- the log has as many entries as there are tables, begins, statements and ends
pub few-entries : (engine : Engine) → IsEngine engine → length engine.log.entries < 2 ^ 32 - 1
few-entries engine kept =
    let count = entries-counted (entries_of engine) in
    let long = log_view-length engine.log.entries in
    let tables = kept.few in
    let begun = kept.transactions in
    let ran = kept.statements in
    let unended = kept.unended in
    omega (arith, count, long, tables, begun, ran, unended)

pub few-versions : (engine : Engine) → IsEngine engine → versions_in (entries_of engine) ≤ MAX_TRANSACTIONS
few-versions engine kept =
    let ended = versions-ended (entries_of engine) in
    let begun = kept.transactions in
    let unended = kept.unended in
    omega (arith, ended, begun, unended)

-- the transaction of a session can end
pub has-place : (engine : Engine) (place : ℕ) (running : Running) → IsEngine engine → get_or engine.sessions place None ≡ Some running → HasPlace engine.log
has-place engine place running kept at =
    let unended = kept.unended in
    record { few = few-entries engine kept; unended = omega (arith, unended, count-cleared engine.sessions place running at) }

-- ---- the same facts of other parts

-- an engine with these parts
pub keeps-sound : (engine : Engine) (entries : List Entry) (versions : List Versions) (sessions : List (Option Running)) → Keeps engine entries versions sessions → IsSound entries versions sessions
    → IsEngine engine
keeps-sound engine entries versions sessions keeps sound =
    subst (λ (x : List Entry × (List Versions × List (Option Running))). IsSound x.0 x.1.0 x.1.1) (λ i. (sym keeps.log_is i, (sym keeps.versions_are i, sym keeps.sessions_are i))) sound

-- a transaction stays as it was, where the row versions are the same, there are no fewer tables, versions and transactions, and its statements are as many
pub session-stays : (entries later : List Entry) (versions others : List Versions) (running : Running) → ((place : ℕ) → spans_of others place ≡ spans_of versions place)
    → length versions ≤ length others → versions_in entries ≤ versions_in later → transactions_in entries ≤ transactions_in later → statement_count running.active.t later ≡ statement_count running.active.t entries
    → IsSession entries versions running → IsSession later others running
session-stays entries later versions others running spans tables committed begun counted was = record {
  first = was.first;
  began = omega (arith, was.began, begun);
  begin = omega (arith, was.begin, committed);
  last = was.last;
  count = was.count ∙ sym counted;
  others = λ place. subst (AreOthers running.active.t) (sym (spans place)) (was.others place);
  below = λ place. let before = was.below place in let now = snapshot_later running.active (versions_in entries) (versions_in later) committed in omega (arith, before, now);
  there = λ place. subst (λ held. AreThere held (writes_at place running.active.tables).carried) (sym (spans place)) (was.there place);
  beyond = λ place high. subst (λ held. table_view (overlay_of held (writes_at place running.active.tables)) held running.active.begin ≡ []) (sym (spans place)) (was.beyond place (omega (arith, high, tables)));
}

-- other row versions of the same spans
respanned : (entries : List Entry) (versions others : List Versions) (sessions : List (Option Running)) → IsSound entries versions sessions → ((place : ℕ) → spans_of others place ≡ spans_of versions place)
    → length others ≡ length versions → IsSound entries others sessions
respanned entries versions others sessions kept spans same = record {
  valid = kept.valid;
  tables = same ∙ kept.tables;
  few = kept.few;
  places = kept.places;
  transactions = kept.transactions;
  statements = kept.statements;
  numbers = kept.numbers;
  unended = kept.unended;
  below = λ place. subst (AreBelow (suc (versions_in entries))) (sym (spans place)) (kept.below place);
  makers = λ place. subst (AllByRecursion (λ (span : Span). identity_transaction span.id ≤ transactions_in entries)) (sym (spans place)) (kept.makers place);
  each = λ session running at. session-stays entries entries versions others running spans (omega (arith, same)) (omega arith) (omega arith) refl (kept.each session running at);
  apart = kept.apart;
}

pub unchanged_engine : (old new : Engine) → IsEngine old → IsUnchanged old new → IsEngine new
unchanged_engine old new kept same =
    keeps-sound new (entries_of old) new.versions old.sessions (record { log_is = ap log_view same.entries; versions_are = refl; sessions_are = same.sessions })
    (respanned (entries_of old) old.versions new.versions old.sessions kept same.spans same.tables)

-- ---- CREATE TABLE

-- the number of tables is tested first
has-room : (full : Bool) (refusal : Refusal) (rest : Option Refusal) → (if full then Some refusal else rest) ≡ None → full ≡ false
has-room true refusal rest none = absurd cc
has-room false refusal rest none = refl

created_sound : (entries : List Entry) (versions : List Versions) (sessions : List (Option Running)) (line session : ℕ) (table : Table) (added : Versions) → IsSound entries versions sessions
    → is_valid (y.create table) ≡ true → length (tables_in entries) < MAX_TABLES → added.spans ≡ [] → IsSound (Created line session table ∷ entries) (versions ++ added ∷ []) sessions
created_sound entries versions sessions line session table added kept valid few empty =
    let spans = spans-added versions added empty in
    let versions-pushed = length_push versions added in
    let tables-pushed = length_push (tables_in entries) table in
    record {
      valid = tables-added (tables_in entries) table kept.valid valid;
      tables = omega (arith, versions-pushed, tables-pushed, kept.tables);
      few = omega (arith, tables-pushed, few);
      places = kept.places;
      transactions = kept.transactions;
      statements = kept.statements;
      numbers = kept.numbers;
      unended = kept.unended;
      below = λ place. subst (AreBelow (suc (versions_in entries))) (sym (spans place)) (kept.below place);
      makers = λ place. subst (AllByRecursion (λ (span : Span). identity_transaction span.id ≤ transactions_in entries)) (sym (spans place)) (kept.makers place);
      each = λ other running at.
          session-stays entries (Created line session table ∷ entries) versions (versions ++ added ∷ []) running spans (omega (arith, versions-pushed)) (omega arith) (omega arith) refl (kept.each other running at);
      apart = kept.apart;
    }

-- ---- another transaction of a session

module _ (entries later : List Entry) (versions : List Versions) (sessions : List (Option Running)) (place : ℕ) (after : Running) (kept : IsSound entries versions sessions)
    (within : place < length sessions) where
  -- no other session has a transaction of its number
  abbrev IsAlone : Type 0
  IsAlone = (session : ℕ) (other : Running) → session ≢ suc place → session_at session sessions ≡ Some other → other.active.t ≢ after.active.t

  -- whose transaction a session has
  found : (session : ℕ) (running : Running) → session_at session (slice_set sessions place (Some after)) ≡ Some running
      → ((session ≡ suc place) × (Some after ≡ Some running)) ⊎ ((session ≢ suc place) × (session_at session sessions ≡ Some running))
  found session running at = session-put sessions place (Some after) within session running at

  -- the other sessions' transactions have as many statements
  abbrev IsCounted : Type 0
  IsCounted =
      (session : ℕ) (other : Running) → session ≢ suc place → session_at session sessions ≡ Some other
      → statement_count other.active.t later ≡ statement_count other.active.t entries

  sessions-stay : versions_in entries ≤ versions_in later → transactions_in entries ≤ transactions_in later → IsCounted → IsSession later versions after
      → (session : ℕ) (running : Running) → session_at session (slice_set sessions place (Some after)) ≡ Some running → IsSession later versions running
  sessions-stay committed begun counted mine session running at =
      elim (found session running at) [
        | inl here ↦ subst (IsSession later versions) (same_Some after running here.1) mine
        | inr there ↦ session-stays entries later versions versions running (λ place. refl) (omega arith) committed begun (counted session running there.0 there.1) (kept.each session running there.1)
      ]

  stay-apart : IsAlone → (session other : ℕ) (a b : Running) → session_at session (slice_set sessions place (Some after)) ≡ Some a → session_at other (slice_set sessions place (Some after)) ≡ Some b
      → a.active.t ≡ b.active.t → session ≡ other
  stay-apart alone session other a b first second equal =
      elim (found session a first) [
        | inl here ↦
            elim (found other b second) [
              | inl both ↦ here.0 ∙ sym both.0
              | inr there ↦ absurd (alone other b there.0 there.1 (sym equal ∙ ap (λ (running : Running). running.active.t) (sym (same_Some after a here.1))))
            ]
        | inr there ↦
            elim (found other b second) [
              | inl here ↦ absurd (alone session a there.0 there.1 (equal ∙ ap (λ (running : Running). running.active.t) (sym (same_Some after b here.1))))
              | inr both ↦ kept.apart session other a b there.1 both.1 equal
            ]
      ]

-- ---- BEGIN

-- what has no writes reads nothing beyond the last table
nothing-written : (active : Writes) (versions : List Versions) (begin place : ℕ) → IsUnwritten begin (writes_at place active.tables) → length versions ≤ place → view_at active.tables versions active.begin place ≡ []
nothing-written active versions begin place none high =
    unwritten-view begin active.begin (writes_at place active.tables) (table_at place versions).spans none ∙ (λ i. rows_at unannotated active.begin (get_or-eq_default versions no_table high i).spans)

began_sound : (entries : List Entry) (versions : List Versions) (sessions : List (Option Running)) (line place : ℕ) (kind : Bool) (active : Writes) → IsSound entries versions sessions → place < length sessions
    → get_or sessions place None ≡ None → transactions_in entries < MAX_TRANSACTIONS → active.t ≡ suc (transactions_in entries) → active.begin ≡ versions_in entries → active.last ≡ 0
    → ((table : ℕ) → IsUnwritten (versions_in entries) (writes_at table active.tables))
    → IsSound (Began line (suc place) (suc (transactions_in entries)) kind ∷ entries) versions (slice_set sessions place (Some (record { active = active; statements = 0 })))
began_sound entries versions sessions line place kind active kept within at few t begin last tables =
    let after : Running = record { active = active; statements = 0 } in
    let later = Began line (suc place) (suc (transactions_in entries)) kind ∷ entries in
    let mine : IsSession later versions after = record {
      first = omega (arith, t);
      began = omega (arith, t);
      begin = omega (arith, begin);
      last = omega (arith, last);
      count = sym (kept.numbers active.t (omega (arith, t)));
      others = λ table. all-weaker (λ (span : Span). identity_transaction span.id ≤ transactions_in entries) (λ (span : Span). identity_transaction span.id ≢ active.t) (λ span is same. omega (arith, is, same, t)) (spans_of versions table) (kept.makers table);
      below = λ table. let before = (tables table).below in let now = snapshot_first active (versions_in entries) (omega (arith, begin)) in omega (arith, before, now, begin);
      there = λ table. subst (AreThere (table_at table versions).spans) (sym (tables table).carried) tt;
      beyond = λ table high. nothing-written active versions (versions_in entries) table (tables table) high;
    } in
    record {
      valid = kept.valid;
      tables = kept.tables;
      few = kept.few;
      places = length-set sessions place (Some after) ∙ kept.places;
      transactions = omega (arith, few);
      statements = kept.statements;
      numbers = λ number above. kept.numbers number (omega (arith, above));
      unended = omega (arith, kept.unended, count-taken sessions place after within at);
      below = kept.below;
      makers = λ table. all-weaker (λ (span : Span). identity_transaction span.id ≤ transactions_in entries) (λ (span : Span). identity_transaction span.id ≤ suc (transactions_in entries)) (λ span is. omega (arith, is)) (spans_of versions table) (kept.makers table);
      each = sessions-stay entries later versions sessions place after kept within (omega arith) (omega arith) (λ session other elsewhere there. refl) mine;
      apart = stay-apart entries later versions sessions place after kept within (λ session other elsewhere there same. omega (arith, (kept.each session other there).began, same, t));
    }

-- ---- the end of a transaction

ended_sound : (entries : List Entry) (versions : List Versions) (sessions : List (Option Running)) (line session place : ℕ) (end : End) (t : ℕ) (running : Running) → IsSound entries versions sessions
    → place < length sessions → get_or sessions place None ≡ Some running → IsSound (Ended line session end t ∷ entries) versions (slice_set sessions place None)
ended_sound entries versions sessions line session place end t running kept within at =
    let left = session_left sessions place within in
    let later = Ended line session end t ∷ entries in
    record {
      valid = kept.valid;
      tables = kept.tables;
      few = kept.few;
      places = length-set sessions place None ∙ kept.places;
      transactions = kept.transactions;
      statements = kept.statements;
      numbers = kept.numbers;
      unended = omega (arith, kept.unended, count-cleared sessions place running at);
      below = kept.below;
      makers = kept.makers;
      each = λ other b found. session-stays entries later versions versions b (λ place. refl) (omega arith) (omega arith) (omega arith) refl (kept.each other b (left other b found).1);
      apart = λ one other a b first second. kept.apart one other a b (left one a first).1 (left other b second).1;
    }

-- ---- a statement

rows-elsewhere : (target place : ℕ) (rows : List PlainRow) (db : Database (Unit {0})) → place ≢ target → with_rows target rows db place ≡ db place
rows-elsewhere target place rows db other = ap (λ b. cond b rows (db place)) (ne_eqb place target other)

-- a statement changes no table beyond those that there are
step-beyond : (t k count : ℕ) (statement : Statement) (db : Database (Unit {0})) → (is_read statement ≡ true) ⊎ (target_of statement < count) → (place : ℕ) → count ≤ place
    → step unannotated t k statement db place ≡ db place
step-beyond t k count (insert table rows) db (inl reads) place high = absurd cc
step-beyond t k count (insert table rows) db (inr low) place high = rows-elsewhere table place _ db (λ same. omega (arith, same, low, high))
step-beyond t k count (insert_select table select) db (inl reads) place high = absurd cc
step-beyond t k count (insert_select table select) db (inr low) place high = rows-elsewhere table place _ db (λ same. omega (arith, same, low, high))
step-beyond t k count (update table sets c) db (inl reads) place high = absurd cc
step-beyond t k count (update table sets c) db (inr low) place high = rows-elsewhere table place _ db (λ same. omega (arith, same, low, high))
step-beyond t k count (delete table c) db (inl reads) place high = absurd cc
step-beyond t k count (delete table c) db (inr low) place high = rows-elsewhere table place _ db (λ same. omega (arith, same, low, high))
step-beyond t k count (read select) db there place high = refl

-- the counts are tested one after the other
pub all-below : (steps full : Bool) (first second : Refusal) → (if steps then Some first else if full then Some second else None) ≡ None → full ≡ false
all-below true full first second none = absurd cc
all-below false true first second none = absurd cc
all-below false false first second none = refl

-- one more statement of its own transaction, and of another one
counted-own : (t u line session : ℕ) (command : Command) (statement : Statement) (entries : List Entry) → u ≡ t
    → statement_count t (Ran line session command u statement ∷ entries) ≡ suc (statement_count t entries)
counted-own t u line session command statement entries same = rw (eq-eqb u t same) refl

counted-other : (t u line session : ℕ) (command : Command) (statement : Statement) (entries : List Entry) → u ≢ t
    → statement_count t (Ran line session command u statement ∷ entries) ≡ statement_count t entries
counted-other t u line session command statement entries other = rw (ne_eqb u t other) refl

ran_sound : (old new : Engine) (answer : Reply) (line place : ℕ) (running : Running) (command : Command) (statement : Statement) → IsEngine old → place < 64
    → get_or old.sessions place None ≡ Some running → statements_of old < MAX_STATEMENTS → Records old new answer line place running command statement → IsEngine new
ran_sound old new answer line place running command statement kept within at below records =
    let after = records.after in
    let accepts = records.accepts in
    let entries = entries_of old in
    let later = Ran line (suc place) command running.active.t statement ∷ entries in
    let was = kept.each (suc place) running at in
    let inside = within-sessions old place kept within in
    let mine : IsSession later old.versions after = record {
      first = omega (arith, was.first, accepts.t);
      began = omega (arith, was.began, accepts.t);
      begin = omega (arith, was.begin, accepts.begin);
      last = omega (arith, accepts.last, accepts.statements);
      count =
          accepts.statements
          ∙ ap suc was.count
          ∙ ap (λ t. suc (statement_count t entries)) (sym accepts.t)
          ∙ sym (counted-own after.active.t running.active.t line (suc place) command statement entries (sym accepts.t));
      others = subst (λ t. HoldsOthers t old.versions) (sym accepts.t) was.others;
      below = λ table. later-below after.active running.active (newest_of old) (writes_at table after.active.tables).version (writes_at table running.active.tables).version
          accepts.read_committed accepts.begin (accepts.below table) (was.below table);
      there = accepts.holds was.there;
      beyond = λ table high.
          view-beyond after.active.tables old.versions table after.active.begin (snapshot_of running.active (newest_of old)) high
          ∙ accepts.view table
          ∙ step-beyond running.active.t (suc running.statements) (length old.versions) statement (view_at running.active.tables old.versions (snapshot_of running.active (newest_of old))) accepts.there table high
          ∙ view-beyond running.active.tables old.versions table (snapshot_of running.active (newest_of old)) running.active.begin high
          ∙ was.beyond table high;
    } in
    keeps-sound new later old.versions (slice_set old.sessions place (Some after)) records.keeps (record {
      valid = kept.valid;
      tables = kept.tables;
      few = kept.few;
      places = length-set old.sessions place (Some after) ∙ kept.places;
      transactions = kept.transactions;
      statements = omega (arith, below);
      numbers = λ t above.
          counted-other t running.active.t line (suc place) command statement entries (λ same. omega (arith, same, was.began, above)) ∙ kept.numbers t above;
      unended = count-same old.sessions place running after at (ends_in entries) (transactions_in entries) kept.unended;
      below = kept.below;
      makers = kept.makers;
      each = sessions-stay entries later old.versions old.sessions place after kept inside (omega arith) (omega arith)
          (λ session other elsewhere found.
          counted-other other.active.t running.active.t line (suc place) command statement entries (λ same. elsewhere (kept.apart session (suc place) other running found at (sym same)))) mine;
      apart = stay-apart entries later old.versions old.sessions place after kept inside
          (λ session other elsewhere found same. elsewhere (kept.apart session (suc place) other running found at (same ∙ accepts.t)));
    })
  where
    count-same : (sessions : List (Option Running)) (place : ℕ) (running after : Running) → get_or sessions place None ≡ Some running → (ends begun : ℕ) → count_running sessions + ends ≡ begun
        → count_running (slice_set sessions place (Some after)) + ends ≡ begun
    count-same sessions place running after at ends begun is = omega (arith, is, count-replaced sessions place running after at)

    -- the writes of a table lie over the version that they lay over, or over the one that the statement read
    later-below : (new before : Writes) (newest version was : ℕ) → new.read_committed ≡ before.read_committed → new.begin ≡ before.begin → (version ≡ was) ⊎ (version ≡ snapshot_of before newest)
        → was ≤ snapshot_of before newest → version ≤ snapshot_of new newest
    later-below new before newest version was kind begin over low =
        subst (λ n. version ≤ n) (λ i. cond (sym kind i) newest (sym begin i)) (go over)
      where
        go : (version ≡ was) ⊎ (version ≡ snapshot_of before newest) → version ≤ snapshot_of before newest
        go (inl same) = omega (arith, same, low)
        go (inr here) = omega (arith, here)

-- ---- a line

-- a new table is that of a valid command
created-valid : (command : Command) (table : Table) → is_valid command ≡ true → action_of command ≡ Create table → is_valid (y.create table) ≡ true
created-valid (y.create own) table valid is = subst (λ t. is_valid (y.create t) ≡ true) (create-is own table is) valid
  where
    create-is : (a b : Table) → Create a ≡ Create b → a ≡ b
    create-is a b is = cc
created-valid command table valid is = absurd cc

module _ (old new : Engine) (answer : Reply) (line place : ℕ) (kept : IsEngine old) (within : place < 64) where
  -- a refused line changes nothing
  refused-engine : (refusal : Refusal) → Refuses old new answer refusal → IsEngine new
  refused-engine refusal r = unchanged_engine old new kept r.0

  creates-engine : (session : ℕ) (table : Table) (refusal : Option Refusal) → is_valid (y.create table) ≡ true → creation_refusal parameters (tables_of old) table ≡ refusal
      → Creates old new answer line session table refusal → IsEngine new
  creates-engine session table (Some refusal) valid is creates = refused-engine refusal creates
  creates-engine session table None valid is creates =
      keeps-sound new (Created line session table ∷ entries_of old) (old.versions ++ creates.added ∷ []) old.sessions creates.keeps
      (created_sound (entries_of old) old.versions old.sessions line session table creates.added kept valid
      (leb-false MAX_TABLES (length (tables_of old)) (has-room (nat_le MAX_TABLES (length (tables_of old))) _ (parameters.created (tables_of old) table) is)) creates.empty)

  begins-engine : (kind full : Bool) → get_or old.sessions place None ≡ None → nat_le MAX_TRANSACTIONS (transactions_of old) ≡ full → Begins old new answer line place kind full → IsEngine new
  begins-engine kind true at is begins = refused-engine (E14 limit.Transactions) begins
  begins-engine kind false at is begins =
      keeps-sound new (Began line (suc place) (suc (transactions_of old)) kind ∷ entries_of old) old.versions (slice_set old.sessions place (Some (record { active = begins.active; statements = 0 }))) begins.keeps
      (began_sound (entries_of old) old.versions old.sessions line place kind begins.active kept (within-sessions old place kept within) at
      (leb-false MAX_TRANSACTIONS (transactions_of old) is) begins.t begins.begin begins.last begins.tables)

  module _ (running : Running) (at : get_or old.sessions place None ≡ Some running) where
    ends-engine : (end : End) (t : ℕ) → Clears old new place (Ended line (suc place) end t) → IsEngine new
    ends-engine end t clears =
        keeps-sound new (Ended line (suc place) end t ∷ entries_of old) old.versions (slice_set old.sessions place None) clears
        (ended_sound (entries_of old) old.versions old.sessions line (suc place) place end t running kept (within-sessions old place kept within) at)

    -- a conflict ends the transaction, and too many row versions leave it running
    commits-engine : Commits old new answer line place running → IsEngine new
    commits-engine (loses conflict middle own first unchanged clears says) =
        let still = unchanged_engine old middle kept unchanged in
        keeps-sound new (Ended line (suc place) Lost running.active.t ∷ entries_of middle) middle.versions (slice_set middle.sessions place None) clears
        (ended_sound (entries_of middle) middle.versions middle.sessions line (suc place) place Lost running.active.t running still (within-sessions middle place still within)
        (subst (λ sessions. get_or sessions place None ≡ Some running) (sym unchanged.sessions) at))
    commits-engine (overflows own first many unchanged says) = unchanged_engine old new kept unchanged
    commits-engine (publishes own same commits keeps says) =
        keeps-sound new (Committed line (suc place) running.active.t ∷ entries_of old) new.versions (slice_set old.sessions place None) keeps
        (committed_sound (entries_of old) old.versions old.sessions line place running new.versions kept at own (within-sessions old place kept within) same commits)

    checked-engine : (command : Command) (statement : Statement) (refusal : Option Refusal) → statements_of old < MAX_STATEMENTS
        → RunsChecked old new answer line place running command statement refusal → IsEngine new
    checked-engine command statement (Some refusal) below runs = refused-engine refusal runs
    checked-engine command statement None below runs = ran_sound old new answer line place running command statement kept within at below runs

    counted-engine : (command : Command) (refusal : Option Refusal) (checked : Result Statement Refusal) → count_refusal parameters running.statements (statements_of old) ≡ refusal
        → RunsAs old new answer line place running command (meaning_of refusal checked) → IsEngine new
    counted-engine command (Some refusal) checked is runs = refused-engine refusal runs
    counted-engine command None (Err refusal) is runs = refused-engine refusal runs
    counted-engine command None (Ok statement) is runs =
        checked-engine command statement (refusal_at old running statement)
        (leb-false MAX_STATEMENTS (statements_of old) (all-below (nat_le parameters.steps running.statements) (nat_le MAX_STATEMENTS (statements_of old)) _ _ is)) runs

  action-engine : (session : Option Running) (action : Action) → get_or old.sessions place None ≡ session → ((table : Table) → action ≡ Create table → is_valid (y.create table) ≡ true)
      → DoesAt old new answer line place session action → IsEngine new
  action-engine None (Create table) at valid does = creates-engine (suc place) table (creation_refusal parameters (tables_of old) table) (valid table refl) refl does
  action-engine None (Begin kind) at valid does = begins-engine kind (nat_le MAX_TRANSACTIONS (transactions_of old)) at refl does
  action-engine None Commit at valid does = refused-engine E10 does
  action-engine None Rollback at valid does = refused-engine E10 does
  action-engine None (Run command) at valid does = refused-engine E10 does
  action-engine (Some running) (Create table) at valid does = refused-engine E09 does
  action-engine (Some running) (Begin kind) at valid does = refused-engine E09 does
  action-engine (Some running) Commit at valid does = commits-engine running at does
  action-engine (Some running) Rollback at valid does = ends-engine running at RolledBack running.active.t does.0
  action-engine (Some running) (Run command) at valid does =
      counted-engine running at command (count_refusal parameters running.statements (statements_of old)) (checked (tables_of old) command) refl does

-- the invariant holds after every line
pub does_engine : (old new : Engine) (answer : Reply) (line place : ℕ) (command : Command) → IsEngine old → place < 64 → is_valid command ≡ true
    → DoesAt old new answer line place (get_or old.sessions place None) (action_of command) → IsEngine new
does_engine old new answer line place command kept within valid does =
    action-engine old new answer line place kept within (get_or old.sessions place None) (action_of command) refl (λ table is. created-valid command table valid is) does
