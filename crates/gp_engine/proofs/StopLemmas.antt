-- What a COMMIT does, by what became of the writes of its transaction.
use Rattle.std.proofs.Common.{◌≡◌, ℕ, suc, List, ◌∷◌, length, Option, Some, None, get_or, refl, ap, sym, ◌∙◌, subst}
use Rattle.std.specs.Prelude.{slice_set}
use Rattle.std.proofs.lemmas.List.{set-get_or}
use Rattle.gp_versions.specs.Spans.{Versions}
use Rattle.gp_txn.specs.declared.error.CommitStop.{CommitStop}
use Rattle.gp_txn.specs.declared.error.CommitStop.TheVariants as variant
use Rattle.gp_txn.specs.Committing as txn
use Rattle.gp_txn.specs.Committing.{HasCause, HaveSameSpans, spans_left}
use Rattle.gp_txn.specs.Conflicts.{lates_at}
use Rattle.gp_txn.specs.Transactions.{HoldsOwn}
use Rattle.gp_base.specs.declared.refusal.Refusal.TheVariants.{E11}
use Rattle.gp_machine.specs.declared.reply.Reply.{Reply}
use Rattle.gp_machine.specs.declared.reply.Reply.TheVariants as reply
use Rattle.gp_machine.specs.Entries.{Committed, committer_of}
use Rattle.gp_machine.specs.Event.{name_at}
use Rattle.gp_log.specs.LogFacts.{tables_in}
use Rattle.gp_log.specs.Logs.{log_view}
use Rattle.gp_engine.specs.Engine.{Engine, IsUnchanged, newest_of, spans_of}
use Rattle.gp_engine.specs.Methods.{Clears, Commits, IsConflictIn, Stops, loses, overflows, publishes}
use Rattle.gp_engine.specs.declared.running.Running.{Running}
use Rattle.gp_engine.proofs.ConflictLemmas.{late_there}

-- a conflict is in one of the tables
pub cause-in : (running : Running) (versions : List Versions) (stop : CommitStop)
    → HasCause stop (length versions) (lates_at running.active.tables versions) (spans_left running.active.tables versions) → IsConflictIn (length versions) stop
cause-in running versions (variant.Conflict version table id) cause = late_there versions running (record { place = table; late = record { id = id; version = version } }) cause
cause-in running versions variant.Full cause = tt
cause-in running versions variant.NoMemory cause = tt

-- nothing has changed after two steps, neither of which has changed anything
pub unchanged-twice : (old kept new : Engine) → IsUnchanged old kept → IsUnchanged kept new → IsUnchanged old new
unchanged-twice old kept new first second = record {
  entries = second.entries ∙ first.entries;
  sessions = second.sessions ∙ first.sessions;
  spans = λ place. second.spans place ∙ first.spans place;
  tables = second.tables ∙ first.tables;
}

-- a commit that was stopped: what it was stopped by, given the engine before it, and the one that was left, which has the same rows
pub stopped : (old kept new : Engine) (answer : Reply) (line place : ℕ) (running : Running) (stop : CommitStop)
    → HoldsOwn running.active → IsUnchanged old kept → HasCause stop (length old.versions) (lates_at running.active.tables old.versions) (spans_left running.active.tables old.versions)
    → Stops kept new answer line place running.active.t stop → Commits old new answer line place running
stopped old kept new answer line place running (variant.Conflict version table id) own same cause stops =
    loses (record { place = table; late = record { id = id; version = version } }) kept own cause same stops.0
    (stops.1 ∙ (λ i. reply.Refused (E11 running.active.t (committer_of version (log_view (same.entries i))) (name_at table (tables_in (log_view (same.entries i)))) id)))
stopped old kept new answer line place running variant.Full own same cause stops = overflows own cause.0 cause.1 (unchanged-twice old kept new same stops.0) stops.1
stopped old kept new answer line place running variant.NoMemory own same cause stops = absurd stops

-- ---- the engine that has tried to commit, before its transaction ends

-- all is as it was but the row versions
pub record Tries (old kept : Engine) (versions : List Versions) : Type 0 where
  pub entries : kept.log.entries ≡ old.log.entries
  pub versions_are : kept.versions ≡ versions
  pub sessions : kept.sessions ≡ old.sessions
  pub count : length versions ≡ length old.versions

-- the transaction that was looked at stands at its place still
pub tries-in : (engine inside : Engine) (place : ℕ) (running : Running) (written versions : List Versions) → inside ≡ engine → get_or engine.sessions place None ≡ Some running
    → written ≡ versions → length versions ≡ length inside.versions
    → Tries engine (record { log = inside.log; versions = written; sessions = slice_set inside.sessions place (Some running) }) versions
tries-in engine inside place running written versions view at is count = record {
  entries = ap (λ (e : Engine). e.log.entries) view;
  versions_are = is;
  sessions =
      ap (λ (e : Engine). slice_set e.sessions place (Some running)) view
      ∙ ap (λ (session : Option Running). slice_set engine.sessions place session) (sym at)
      ∙ set-get_or engine.sessions place None;
  count = count ∙ ap (λ (e : Engine). length e.versions) view;
}

pub tried-unchanged : (old kept : Engine) (versions : List Versions) → Tries old kept versions → HaveSameSpans old.versions versions → IsUnchanged old kept
tried-unchanged old kept versions tries same = record {
  entries = tries.entries;
  sessions = tries.sessions;
  spans = λ place. ap (λ vs. spans_of vs place) tries.versions_are ∙ same place;
  tables = ap length tries.versions_are ∙ tries.count;
}

module _ (old kept new : Engine) (answer : Reply) (line place t : ℕ) (running : Running) (versions : List Versions) (own : HoldsOwn running.active)
    (tries : Tries old kept versions) (number : t ≡ running.active.t) where
  pub published : (version : ℕ) → version ≡ suc (newest_of old) → txn.Commits version running.active old.versions versions → Clears kept new place (Committed line (suc place) t)
      → answer ≡ reply.Committed t version → Commits old new answer line place running
  published version next commits clears says =
      publishes own (ap length (clears.versions_are ∙ tries.versions_are) ∙ tries.count)
      (subst (λ (x : ℕ × List Versions). txn.Commits x.0 running.active old.versions x.1) (λ i. (next i, sym (clears.versions_are ∙ tries.versions_are) i)) commits)
      (record {
        log_is = clears.log_is ∙ (λ i. Committed line (suc place) (number i) ∷ log_view (tries.entries i));
        versions_are = refl;
        sessions_are = clears.sessions_are ∙ ap (λ sessions. slice_set sessions place None) tries.sessions;
      })
      (says ∙ (λ i. reply.Committed (number i) (next i)))

  pub stopped-at : (stop : CommitStop) → HaveSameSpans old.versions versions → HasCause stop (length old.versions) (lates_at running.active.tables old.versions) (spans_left running.active.tables old.versions)
      → Stops kept new answer line place t stop → Commits old new answer line place running
  stopped-at stop same cause stops =
      stopped old kept new answer line place running stop own (tried-unchanged old kept versions tries same) cause (subst (λ n. Stops kept new answer line place n stop) number stops)
