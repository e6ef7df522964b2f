-- An engine whose methods do what they have to follows the history machine.
use Rattle.std.proofs.Common.{◌≡◌, ℕ, zero, suc, pred, ◌+◌, ◌<◌, ◌≤◌, ◌⊎◌, Bool, true, false, List, [], ◌∷◌, ◌++◌, length, Option, Some, None, Result, Ok, Err, get_or, refl, sym, ap, ◌∙◌, subst, arith, inl, inr}
use Rattle.std.specs.Prelude.{nat_le, slice_set}
use Rattle.std.specs.Option.{option_map}
use Rattle.std.proofs.lemmas.Bool.{cases_eq, eq-eqb, ne_eqb}
use Rattle.std.proofs.lemmas.List.{get_or-set_other, get_or-set_same, get_or_past, length_push}
use Rattle.gp_base.specs.declared.limit.Limit.TheVariants as limit
use Rattle.gp_base.specs.declared.refusal.Refusal.{Refusal}
use Rattle.gp_base.specs.declared.refusal.Refusal.TheVariants.{E09, E10, E11, E14}
use Rattle.gp_base.specs.declared.table.Table.{Table}
use Rattle.gp_base.specs.Annotated.{unannotated}
use Rattle.gp_algebra.specs.Effects.{step, wrote}
use Rattle.gp_algebra.specs.Statements.{Statement}
use Rattle.gp_check.specs.Checking.{checked}
use Rattle.gp_grammar.specs.Syntax.{Command}
use Rattle.gp_versions.specs.Commits.{after_commit}
use Rattle.gp_versions.specs.Spans.{Versions}
use Rattle.gp_versions.specs.TableSpans.{AreWhole, NoOverlap}
use Rattle.gp_versions.specs.declared.span.Span.{Span}
use Rattle.gp_txn.proofs.UnwrittenLemmas.{unwritten-base, unwritten-view}
use Rattle.gp_txn.specs.Counts.{count_spans}
use Rattle.gp_txn.specs.Transactions.{no_table, snapshot_of, table_at, view_at, writes_at}
use Rattle.gp_machine.specs.declared.reply.Reply.{Reply}
use Rattle.gp_machine.specs.declared.reply.Reply.TheVariants as reply
use Rattle.gp_machine.specs.ActionForms.{Action, Begin, Commit, Create, Rollback, Run, action_of}
use Rattle.gp_machine.specs.Conflicts as machine
use Rattle.gp_machine.specs.EngineLine as line
use Rattle.gp_machine.specs.EngineLine.{Answers, FindsConflict, rows_after}
use Rattle.gp_machine.specs.Entries.{End, Entry, RolledBack, Lost, Created, Began, Ran, Committed, Ended, committer_of, log_of, versions_in}
use Rattle.gp_machine.specs.Event.{Line, event, conflict_of, creation_refusal, count_refusal, name_at, refusal_of, reply_of}
use Rattle.gp_machine.specs.Reached.{IsReached}
use Rattle.gp_machine.specs.Represents as machine_view
use Rattle.gp_machine.specs.Represents.{Kept, Overlay, Represents}
use Rattle.gp_machine.specs.State.{Active, State, start, with_value}
use Rattle.gp_machine.proofs.SpanLaws.{spans_apart, spans_whole}
use Rattle.gp_machine.proofs.EngineLemmas.{after_last, line_represented, reached_after}
use Rattle.gp_engine.specs.declared.running.Running.{Running}
use Rattle.gp_log.specs.LogFacts.{tables_in}
use Rattle.gp_log.specs.Logs.{log_view}
use Rattle.gp_engine.specs.Engine.{Engine, IsEngine, IsEngineOf, IsUnchanged, entries_of, kept_by, kept_of, newest_of, overlay_of, session_at, spans_of, statements_of, tables_of, transactions_of}
use Rattle.gp_log.specs.Parameters.{parameters}
use Rattle.gp_engine.specs.Methods as method
use Rattle.gp_engine.specs.Methods.{DoesAt, Keeps, loses, meaning_of, overflows, publishes, refusal_at}
use Rattle.gp_engine.proofs.ConflictLemmas.{found, shown_none, shown_some}
use Rattle.gp_engine.proofs.OverlayLemmas.{base_same, view_same}
use Rattle.gp_engine.proofs.PublishLemmas.{count_published, has_room, is_full, overlays_stay, published, spans_published, writes_of}

-- ---- what is kept of a changed engine

-- another transaction of one session
sessions-put : (spans : ℕ → List Span) (sessions : List (Option Running)) (place : ℕ) (running : Option Running) → place < length sessions → (session : ℕ)
    → option_map (overlay_of spans) (session_at session (slice_set sessions place running)) ≡ with_value (suc place) (option_map (overlay_of spans) running) (λ n. option_map (overlay_of spans) (session_at n sessions)) session
sessions-put spans sessions place running within zero = rw (ne_eqb 0 (suc place) (λ e. omega (arith, e))) refl
sessions-put spans sessions place running within (suc other) =
    elim (cases_eq other place) [
      | inl same ↦ rw same (rw (eq-eqb (suc place) (suc place) refl) (ap (option_map (overlay_of spans)) (get_or-set_same sessions place running None within)))
      | inr differ ↦ rw (ne_eqb (suc other) (suc place) (λ e. differ (ap pred e))) (ap (option_map (overlay_of spans)) (get_or-set_other sessions place other running None differ))
    ]

-- one more table, without spans
pub spans-added : (versions : List Versions) (table : Versions) → table.spans ≡ [] → (place : ℕ) → spans_of (versions ++ table ∷ []) place ≡ spans_of versions place
spans-added [] table empty zero = empty
spans-added [] table empty (suc place) = refl
spans-added (first ∷ versions) table empty zero = refl
spans-added (first ∷ versions) table empty (suc place) = spans-added versions table empty place

count-alike : (versions others : List Versions) → ((place : ℕ) → spans_of versions place ≡ spans_of others place) → (count : ℕ) → count_spans versions count ≡ count_spans others count
count-alike versions others same zero = refl
count-alike versions others same (suc count) = λ i. count-alike versions others same count i + length (same count i)

rows-added : (tables : List Table) (new : Table) (versions : List Versions) (table : Versions) → length versions ≡ length tables → table.spans ≡ []
    → count_spans (versions ++ table ∷ []) (length (tables ++ new ∷ [])) ≡ count_spans versions (length tables)
rows-added tables new versions table count empty =
    let long : length (tables ++ new ∷ []) ≡ suc (length tables) = omega (arith, length_push tables new) in
    let none : length (spans_of (versions ++ table ∷ []) (length tables)) ≡ 0 =
    ap length (spans-added versions table empty (length tables) ∙ ap (λ (t : Versions). t.spans) (get_or_past versions (length tables) no_table (omega (arith, count)))) in
    let others = count-alike (versions ++ table ∷ []) versions (spans-added versions table empty) (length tables) in
    rw long (omega (arith, none, others))

-- what is kept of an engine with these parts
pub kept-as : (engine : Engine) (entries : List Entry) (versions : List Versions) (sessions : List (Option Running)) → Keeps engine entries versions sessions → kept_of engine ≡ kept_by entries versions sessions
kept-as engine entries versions sessions keeps = λ i. kept_by (keeps.log_is i) (keeps.versions_are i) (keeps.sessions_are i)

-- what is kept is of the spans alone, whatever memory the versions have
kept-respanned : (entries : List Entry) (versions others : List Versions) (sessions : List (Option Running)) → ((place : ℕ) → spans_of others place ≡ spans_of versions place)
    → kept_by entries others sessions ≡ kept_by entries versions sessions
kept-respanned entries versions others sessions same =
    λ i. record (kept_by entries versions sessions) {
      spans = λ place. same place i;
      sessions = λ session. option_map (overlay_of (λ place. same place i)) (session_at session sessions);
      rows = count-alike others versions same (length (tables_in entries)) i;
    }

-- an engine that keeps the same, but for the room of its log and row versions
pub kept-unchanged : (old new : Engine) → IsUnchanged old new → kept_of new ≡ kept_of old
kept-unchanged old new same =
    (λ i. kept_by (log_view (same.entries i)) new.versions (same.sessions i)) ∙ kept-respanned (entries_of old) old.versions new.versions old.sessions same.spans

pub engine-unchanged : (old new : Engine) (state : State (Unit {0})) → IsUnchanged old new → IsEngineOf old state → IsEngineOf new state
engine-unchanged old new state same engine = record {
  lines = engine.lines;
  reached = engine.reached;
  kept = subst (λ k. Represents k state) (sym (kept-unchanged old new same)) engine.kept;
}

-- an engine against itself
pub unchanged : (engine : Engine) → IsUnchanged engine engine
unchanged engine = record { entries = refl; sessions = refl; spans = λ place. refl; tables = refl }

-- ---- one line

-- what a commit of the active transaction of a session is lost by
abbrev conflict_in : State (Unit {0}) → Option (Active (Unit {0})) → Option machine.Conflict
conflict_in state None = None
conflict_in state (Some active) = conflict_of state active

module _ (old new : Engine) (answer : Reply) (state : State (Unit {0})) (engine : IsEngineOf old state) (sound : IsEngine old) (number place : ℕ) (within : place < length old.sessions) where
  abbrev session : ℕ
  session = suc place

  abbrev kept : Kept
  kept = kept_of old

  abbrev next : Kept
  next = kept_of new

  reached : IsReached unannotated parameters state
  reached = subst (IsReached unannotated parameters) (sym engine.reached) (reached_after parameters engine.lines)

  -- the writes of a transaction before it
  abbrev seen : Running → Overlay
  seen = overlay_of (spans_of old.versions)

  -- the sessions, where the one at the place has another transaction, or none
  put : (running : Option Running) (n : ℕ) → option_map seen (session_at n (slice_set old.sessions place running)) ≡ with_value session (option_map seen running) (λ m. option_map seen (session_at m old.sessions)) n
  put running n = sessions-put (spans_of old.versions) old.sessions place running within n

  refuses : (refusal : Refusal) → method.Refuses old new answer refusal → line.Refuses parameters kept number session next answer refusal
  refuses refusal r = (kept-unchanged old new r.0, r.1)

  creates : (table : Table) (refusal : Option Refusal) → method.Creates old new answer number session table refusal → line.Creates parameters kept number session next answer table refusal
  creates table (Some refusal) r = refuses refusal r
  creates table None r =
      let entries = entries_of old in
      let later = Created number session table ∷ entries in
      let same : kept_by later (old.versions ++ r.added ∷ []) old.sessions ≡ record kept { catalogue = tables_of old ++ table ∷ []; entries = later } =
      (λ i. record kept {
        catalogue = tables_of old ++ table ∷ [];
        entries = later;
        spans = λ at. spans-added old.versions r.added r.empty at i;
        sessions = λ s. option_map (overlay_of (λ at. spans-added old.versions r.added r.empty at i)) (session_at s old.sessions);
        rows = rows-added (tables_of old) table old.versions r.added sound.tables r.empty i;
      }) in
      (kept-as new later (old.versions ++ r.added ∷ []) old.sessions r.keeps ∙ same, r.says)

  begins : (kind full : Bool) → method.Begins old new answer number place kind full → line.Begins parameters kept number session next answer kind full
  begins kind true r = refuses (E14 limit.Transactions) r
  begins kind false starts =
      let begun = suc (transactions_of old) in
      let later = Began number session begun kind ∷ entries_of old in
      let running : Running = record { active = starts.active; statements = 0 } in
      let same : kept_by later old.versions (slice_set old.sessions place (Some running)) ≡ record kept { entries = later; transactions = begun; sessions = with_value session (Some (seen running)) kept.sessions } =
      (λ i. record kept { entries = later; transactions = begun; sessions = λ s. put (Some running) s i }) in (
        seen running,
        record {
          version = λ at. let low = (starts.tables at).below in omega (arith, low, starts.begin);
          statements = refl;
          view = λ at.
              view_same old.versions running starts.active.begin at
              ∙ unwritten-view (newest_of old) starts.active.begin (writes_at at starts.active.tables) (table_at at old.versions).spans (starts.tables at);
          base = λ at id other. unwritten-base (newest_of old) (writes_at at starts.active.tables) (spans_of old.versions at) _ id (starts.tables at);
        },
        starts.t,
        starts.kind,
        starts.begin,
        kept-as new later old.versions (slice_set old.sessions place (Some running)) starts.keeps ∙ same,
        starts.says,
      )

  -- the end of a transaction, where only the memory of the row versions has changed before
  ends : (left : Engine) → IsUnchanged old left → (running : Running) (end : End) (expected : Reply) → method.Clears left new place (Ended number session end running.active.t) → answer ≡ expected
      → line.Ends parameters kept number session next answer (seen running) end expected
  ends left same running end expected clears says =
      let added = Ended number session end running.active.t in
      let cleared : kept_by (added ∷ entries_of left) left.versions (slice_set left.sessions place None) ≡ kept_by (added ∷ entries_of old) left.versions (slice_set old.sessions place None) =
      (λ i. kept_by (added ∷ log_view (same.entries i)) left.versions (slice_set (same.sessions i) place None)) in
      let put-none : kept_by (added ∷ entries_of old) old.versions (slice_set old.sessions place None) ≡ record kept { entries = added ∷ entries_of old; sessions = with_value session None kept.sessions } =
      (λ i. record kept { entries = added ∷ entries_of old; sessions = λ s. put None s i }) in (
        kept-as new (added ∷ entries_of left) left.versions (slice_set left.sessions place None) clears
            ∙ cleared
            ∙ kept-respanned (added ∷ entries_of old) old.versions left.versions (slice_set old.sessions place None) same.spans
            ∙ put-none,
        says,
      )

  -- ---- a statement

  module _ (running : Running) (at : get_or old.sessions place None ≡ Some running) (command : Command) where
    -- what its transaction reads
    abbrev now : ℕ
    now = snapshot_of running.active (newest_of old)

    start-same : machine_view.view_at (spans_of old.versions) (seen running) now ≡ view_at running.active.tables old.versions now
    start-same = λ i table. view_same old.versions running now table i

    over : (version was : ℕ) → (version ≡ was) ⊎ (version ≡ now) → was ≤ now → version ≤ now
    over version was (inl same) low = omega (arith, same, low)
    over version was (inr here) low = omega (arith, here)

    records : (statement : Statement) (refusal : Option Refusal) → method.RunsChecked old new answer number place running command statement refusal
        → line.Applies parameters kept number session next answer (seen running) command statement refusal
    records statement (Some refusal) r = refuses refusal r
    records statement None r =
        let later = Ran number session command running.active.t statement ∷ entries_of old in
        let accepts = r.accepts in
        let ran = suc (statements_of old) in
        let same : kept_by later old.versions (slice_set old.sessions place (Some r.after)) ≡ record kept { entries = later; statements = ran; sessions = with_value session (Some (seen r.after)) kept.sessions } =
        (λ i. record kept { entries = later; statements = ran; sessions = λ s. put (Some r.after) s i }) in (
          seen r.after,
          record {
            transaction = accepts.t;
            read_committed = accepts.read_committed;
            begin = accepts.begin;
            version = λ table. over (writes_at table r.after.active.tables).version (writes_at table running.active.tables).version (accepts.below table) ((sound.each session running at).below table);
            statements = accepts.statements;
            view = λ table.
                view_same old.versions r.after now table
                ∙ accepts.view table
                ∙ ap (λ db. step unannotated running.active.t (suc running.statements) statement db table) (sym start-same);
            base = λ table id other.
                accepts.base table id other
                ∙ base_same now table id (wrote unannotated running.active.t (suc running.statements) statement (view_at running.active.tables old.versions now)) _
                ∙ ap (λ db. machine_view.base_after now table id (wrote unannotated running.active.t (suc running.statements) statement db) (machine_view.base_in (spans_of old.versions) (seen running) table id)) (sym start-same);
          },
          kept-as new later old.versions (slice_set old.sessions place (Some r.after)) r.keeps ∙ same,
          accepts.says ∙ ap (reply_of unannotated running.active.t (suc running.statements) statement) (sym start-same),
        )

    runs : (refusal : Option Refusal) (meaning : Result Statement Refusal) → method.RunsAs old new answer number place running command (meaning_of refusal meaning)
        → line.RunsStatement parameters kept number session next answer (seen running) command refusal meaning
    runs (Some refusal) meaning r = refuses refusal r
    runs None (Err refusal) r = refuses refusal r
    runs None (Ok statement) r =
        subst (line.Applies parameters kept number session next answer (seen running) command statement) (ap (refusal_of unannotated parameters (tables_of old) running.active.t (suc running.statements) statement) (sym start-same))
        (records statement (refusal_at old running statement) r)

  -- ---- the line

  -- what is kept afterwards, beside the conflict that a commit is lost by
  record Leads (overlay : Option Overlay) (action : Action) : Type 0 where
    conflict : Overlay → Option machine.Conflict
    finds : FindsConflict kept state session conflict
    does : Answers parameters kept number session next answer conflict overlay action

  -- an action that looks for no conflict
  quiet : (overlay : Option Overlay) (action : Action) → Answers parameters kept number session next answer (λ o. conflict_in state (state.active session)) overlay action → Leads overlay action
  quiet overlay action does = record {
    conflict = λ o. conflict_in state (state.active session);
    finds = λ o active f e represents. ap (conflict_in state) e;
    does = does;
  }

  apart : (table : ℕ) → NoOverlap (spans_of old.versions table)
  apart table = subst NoOverlap (sym (engine.kept.spans table)) (spans_apart unannotated (log_of state.entries) state.committed state.written reached.history table)

  whole : (table : ℕ) → AreWhole (spans_of old.versions table)
  whole table = subst AreWhole (sym (engine.kept.spans table)) (spans_whole (versions_in state.entries) state.committed state.written table)

  commits : (running : Running) (at : get_or old.sessions place None ≡ Some running) → method.Commits old new answer number place running → Leads (Some (seen running)) Commit
  commits running at (loses conflict left own first same clears says) =
      let lost : machine.Conflict = record { pair = record { table = conflict.place; identity = conflict.late.id }; version = conflict.late.version } in
      let other = committer_of conflict.late.version (entries_of old) in
      record {
        conflict = λ o. Some lost;
        finds = found state kept session (seen running) (Some lost) engine.kept reached (ap (option_map seen) at) (shown_some running old conflict own apart whole first);
        does = ends left same running Lost (reply.Refused (E11 running.active.t other (name_at conflict.place (tables_of old)) conflict.late.id)) clears says;
      }
  commits running at (overflows own first many same says) = record {
    conflict = λ o. None;
    finds = found state kept session (seen running) None engine.kept reached (ap (option_map seen) at) (shown_none running old own apart whole first);
    does = subst (λ full. line.Commits parameters kept number session next answer (seen running) None full) (sym (is_full old running sound.tables many)) (kept-unchanged old new same, says);
  }
  commits running at (publishes own long made keeps says) =
      let later = Committed number session running.active.t ∷ entries_of old in
      let nothing = (sound.each session running at).beyond in
      let version = suc (newest_of old) in
      let same : kept_by later new.versions (slice_set old.sessions place None)
      ≡ record kept {
        entries = later;
        spans = λ table. after_commit version (published old running table) (spans_of old.versions table);
        sessions = with_value session None kept.sessions;
        versions = version;
        rows = rows_after kept (seen running);
      } =
      (λ i. record kept {
        entries = later;
        spans = λ table. spans_published old running new.versions version long made.made.spans table i;
        sessions = λ s. (overlays_stay (entries_of old) old.versions old.sessions number place running new.versions sound at own within long made s ∙ put None s) i;
        versions = version;
        rows = count_published old running sound.tables new.versions version made.made.spans i;
      }) in
      record {
        conflict = λ o. None;
        finds = found state kept session (seen running) None engine.kept reached (ap (option_map seen) at) (shown_none running old own apart whole made.made.first);
        does = subst (λ full. line.Commits parameters kept number session next answer (seen running) None full) (sym (has_room old running sound.tables made.made.few)) (
          published old running,
          writes_of old running own (sound.each session running at).there nothing,
          kept-as new later new.versions (slice_set old.sessions place None) keeps ∙ same,
          says,
        );
      }

  leads : (found : Option Running) → get_or old.sessions place None ≡ found → (action : Action) → DoesAt old new answer number place found action → Leads (option_map seen found) action
  leads None at (Create table) r = quiet None (Create table) (creates table (creation_refusal parameters (tables_of old) table) r)
  leads None at (Begin kind) r = quiet None (Begin kind) (begins kind (nat_le parameters.transactions (transactions_of old)) r)
  leads None at Commit r = quiet None Commit (refuses E10 r)
  leads None at Rollback r = quiet None Rollback (refuses E10 r)
  leads None at (Run command) r = quiet None (Run command) (refuses E10 r)
  leads (Some running) at (Create table) r = quiet (Some (seen running)) (Create table) (refuses E09 r)
  leads (Some running) at (Begin kind) r = quiet (Some (seen running)) (Begin kind) (refuses E09 r)
  leads (Some running) at Commit r = commits running at r
  leads (Some running) at Rollback r =
      quiet (Some (seen running)) Rollback (ends old (unchanged old) running RolledBack (reply.RolledBack running.active.t) r.0 r.1)
  leads (Some running) at (Run command) r =
      quiet (Some (seen running)) (Run command) (runs running at command (count_refusal parameters running.statements (statements_of old)) (checked (tables_of old) command) r)

  -- the engine represents the state of the event, and its answer is the reply
  pub follows_at : (command : Command) → DoesAt old new answer number place (get_or old.sessions place None) (action_of command)
      → IsEngineOf new (event unannotated parameters state number session command).0 × (answer ≡ (event unannotated parameters state number session command).1)
  follows_at command does =
      let lead = leads (get_or old.sessions place None) refl (action_of command) does in
      let both = line_represented parameters state kept engine.kept reached number session next answer lead.conflict lead.finds command lead.does in
      let last : Line = record { number = number; session = session; command = command } in (
        record {
          lines = engine.lines ++ last ∷ [];
          reached = ap (λ (s : State (Unit {0})). (event unannotated parameters s number session command).0) engine.reached ∙ sym (after_last unannotated parameters start engine.lines last);
          kept = both.0;
        },
        both.1,
      )
