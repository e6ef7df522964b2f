-- A line that is not recorded changes nothing.
use Rattle.std.proofs.Common.{◌≡◌, ℕ, suc, ◌<◌, Bool, true, false, Option, Some, None, Result, Ok, Err, length, get_or, refl, sym, ap, ◌∙◌, subst}
use Rattle.std.specs.Prelude.{nat_le, slice_set, IfOk, OnErr}
use Rattle.std.specs.Option.{is_some}
use Rattle.std.proofs.lemmas.Bool.{false≢true}
use Rattle.std.proofs.lemmas.List.{set-get_or}
use Rattle.gp_base.specs.declared.refusal.Refusal.{Refusal}
use Rattle.gp_base.specs.declared.refusal.Refusal.TheVariants.{E09, E11}
use Rattle.gp_base.specs.declared.table.Table.{Table}
use Rattle.gp_base.specs.Annotated.{Database, unannotated}
use Rattle.gp_algebra.specs.Statements.{Statement, insert, insert_select, update, delete, read}
use Rattle.gp_check.specs.Checking.{checked}
use Rattle.gp_grammar.specs.Syntax.{Command, is_statement}
use Rattle.gp_txn.specs.Transactions.{snapshot_of, view_at}
use Rattle.gp_machine.specs.declared.reply.Reply.{Reply}
use Rattle.gp_machine.specs.declared.reply.Reply.TheVariants as reply
use Rattle.gp_machine.specs.ActionForms.{Action, Begin, Commit, Create, Rollback, Run, action_of}
use Rattle.gp_machine.specs.Entries.{committer_of}
use Rattle.gp_machine.specs.Event.{creation_refusal, count_refusal, name_at, reply_of}
use Rattle.gp_machine.specs.Recorded.{is_recorded}
use Rattle.gp_engine.specs.declared.running.Running.{Running}
use Rattle.gp_engine.specs.Engine.{Engine, Follows, IsEngine, IsUnchanged, entries_of, newest_of, spans_of, statements_of, tables_of, transactions_of}
use Rattle.gp_log.specs.declared.limit.TheConstants.{MAX_TRANSACTIONS}
use Rattle.gp_log.specs.Parameters.{parameters}
use Rattle.gp_engine.specs.Methods.{Begins, Commits, Creates, DoesAt, Refuses, RunsAs, RunsChecked, loses, meaning_of, overflows, publishes, refusal_at}
use Rattle.gp_engine.proofs.CommandLemmas.{statement-runs}
use Rattle.gp_engine.proofs.FollowLemmas.{follows_at}
use Rattle.gp_base.specs.declared.error.NoMemory.{NoMemory}
use Rattle.gp_check.specs.Valid.{is_valid}
use Rattle.gp_engine.proofs.InvariantLemmas.{does_engine, unchanged_engine, within-sessions}

pub follows_line : (old new : Engine) (answer : Reply) (line place : ℕ) (command : Command) → IsEngine old → place < 64
    → DoesAt old new answer line place (get_or old.sessions place None) (action_of command) → Follows old new line (suc place) command answer
follows_line old new answer line place command sound within does = record {
  reply = λ state engine. (follows_at old new answer state engine sound line place (within-sessions old place sound within) command does).1;
  state = λ state engine. (follows_at old new answer state engine sound line place (within-sessions old place sound within) command does).0;
}

-- ---- what a line does, by what was found of its session

pub unchanged_same : (engine : Engine) → IsUnchanged engine engine
unchanged_same engine = record { entries = refl; sessions = refl; spans = λ place. refl; tables = refl }

-- a place that was lent, and has what it had
pub lent-same : (engine inside : Engine) (place : ℕ) (found : Option Running) → inside ≡ engine
    → IsUnchanged engine (record { log = inside.log; versions = inside.versions; sessions = slice_set inside.sessions place (get_or inside.sessions place found) })
lent-same engine inside place found view = record {
  entries = ap (λ (e : Engine). e.log.entries) view;
  sessions = set-get_or inside.sessions place found ∙ ap (λ (e : Engine). e.sessions) view;
  spans = λ table. ap (λ (e : Engine). spans_of e.versions table) view;
  tables = ap (λ (e : Engine). length e.versions) view;
}

none-there : (found : Option Running) → is_some found ≡ false → found ≡ None
none-there None is = refl
none-there (Some running) is = absurd (false≢true (sym is))

module _ (old new : Engine) (answer : Reply) (line place : ℕ) (found : Option Running) (at : get_or old.sessions place None ≡ found) where
  pub does-found : (action : Action) → DoesAt old new answer line place found action → DoesAt old new answer line place (get_or old.sessions place None) action
  does-found action does = subst (λ (session : Option Running). DoesAt old new answer line place session action) (sym at) does

  -- a session with a transaction creates no table, and begins no other
  pub created-inside : (table : Table) → is_some found ≡ true → Refuses old new answer E09 → DoesAt old new answer line place (get_or old.sessions place None) (Create table)
  created-inside table some refuses = does-found (Create table) (by found some)
    where
      by : (session : Option Running) → is_some session ≡ true → DoesAt old new answer line place session (Create table)
      by None is = absurd (false≢true is)
      by (Some running) is = refuses

  pub begun-inside : (kind : Bool) → is_some found ≡ true → Refuses old new answer E09 → DoesAt old new answer line place (get_or old.sessions place None) (Begin kind)
  begun-inside kind some refuses = does-found (Begin kind) (by found some)
    where
      by : (session : Option Running) → is_some session ≡ true → DoesAt old new answer line place session (Begin kind)
      by None is = absurd (false≢true is)
      by (Some running) is = refuses

  pub created-outside : (table : Table) (refusal : Option Refusal) → is_some found ≡ false → refusal ≡ creation_refusal parameters (tables_of old) table
      → Creates old new answer line (suc place) table refusal → DoesAt old new answer line place (get_or old.sessions place None) (Create table)
  created-outside table refusal none is creates =
      does-found (Create table) (subst (λ (session : Option Running). DoesAt old new answer line place session (Create table)) (sym (none-there found none)) (subst (Creates old new answer line (suc place) table) is creates))

  pub begun-outside : (kind full : Bool) → is_some found ≡ false → nat_le MAX_TRANSACTIONS (transactions_of old) ≡ full
      → Begins old new answer line place kind full → DoesAt old new answer line place (get_or old.sessions place None) (Begin kind)
  begun-outside kind full none is begins =
      does-found (Begin kind) (subst (λ (session : Option Running). DoesAt old new answer line place session (Begin kind)) (sym (none-there found none)) (subst (Begins old new answer line place kind) (sym is) begins))

-- a statement
pub statement-does : (old new : Engine) (answer : Reply) (line place : ℕ) (found : Option Running) (command : Command) → is_statement command ≡ true → DoesAt old new answer line place found (Run command)
    → DoesAt old new answer line place found (action_of command)
statement-does old new answer line place found command statement does = subst (DoesAt old new answer line place found) (sym (statement-runs command statement)) does

-- ---- lines that are not recorded

-- a reply that is no refusal is recorded
recorded : {A : Type 0} (answer expected : Reply) (test : Reply → Bool) → answer ≡ expected → test expected ≡ true → test answer ≡ false → A
recorded answer expected test is given denied = absurd (false≢true (sym denied ∙ ap test is ∙ given))

recorded-reply : (command : Command) (t k : ℕ) (statement : Statement) (view : Database (Unit {0})) → is_recorded (Run command) (reply_of unannotated t k statement view) ≡ true
recorded-reply command t k (insert table rows) view = refl
recorded-reply command t k (insert_select table select) view = refl
recorded-reply command t k (update table sets c) view = refl
recorded-reply command t k (delete table c) view = refl
recorded-reply command t k (read select) view = refl

module _ (old new : Engine) (answer : Reply) (line place : ℕ) where
  creates-unchanged : (table : Table) (refusal : Option Refusal) → Creates old new answer line (suc place) table refusal → is_recorded (Create table) answer ≡ false → IsUnchanged old new
  creates-unchanged table (Some refusal) r denied = r.0
  creates-unchanged table None r denied = recorded answer (reply.Created (length (tables_of old))) (is_recorded (Create table)) r.says refl denied

  begins-unchanged : (kind full : Bool) → Begins old new answer line place kind full → is_recorded (Begin kind) answer ≡ false → IsUnchanged old new
  begins-unchanged kind true r denied = r.0
  begins-unchanged kind false r denied = recorded answer (reply.Began (suc (transactions_of old)) (newest_of old)) (is_recorded (Begin kind)) r.says refl denied

  outside-unchanged : (action : Action) → DoesAt old new answer line place None action → is_recorded action answer ≡ false → IsUnchanged old new
  outside-unchanged (Create table) does denied = creates-unchanged table (creation_refusal parameters (tables_of old) table) does denied
  outside-unchanged (Begin kind) does denied = begins-unchanged kind (nat_le MAX_TRANSACTIONS (transactions_of old)) does denied
  outside-unchanged Commit does denied = does.0
  outside-unchanged Rollback does denied = does.0
  outside-unchanged (Run command) does denied = does.0

  commits-unchanged : (running : Running) → Commits old new answer line place running → is_recorded Commit answer ≡ false → IsUnchanged old new
  commits-unchanged running (loses conflict kept own first same clears says) denied =
      recorded answer (reply.Refused (E11 running.active.t (committer_of conflict.late.version (entries_of old)) (name_at conflict.place (tables_of old)) conflict.late.id)) (is_recorded Commit) says refl denied
  commits-unchanged running (overflows own first many same says) denied = same
  commits-unchanged running (publishes own same commits keeps says) denied = recorded answer (reply.Committed running.active.t (suc (newest_of old))) (is_recorded Commit) says refl denied

  checked-unchanged : (running : Running) (command : Command) (statement : Statement) (refusal : Option Refusal) → RunsChecked old new answer line place running command statement refusal
      → is_recorded (Run command) answer ≡ false → IsUnchanged old new
  checked-unchanged running command statement (Some refusal) r denied = r.0
  checked-unchanged running command statement None r denied =
      recorded answer (reply_of unannotated running.active.t (suc running.statements) statement (view_at running.active.tables old.versions (snapshot_of running.active (newest_of old)))) (is_recorded (Run command)) r.accepts.says
      (recorded-reply command running.active.t (suc running.statements) statement (view_at running.active.tables old.versions (snapshot_of running.active (newest_of old)))) denied

  runs-unchanged : (running : Running) (command : Command) (meaning : Result Statement Refusal) → RunsAs old new answer line place running command meaning → is_recorded (Run command) answer ≡ false
      → IsUnchanged old new
  runs-unchanged running command (Err refusal) r denied = r.0
  runs-unchanged running command (Ok statement) r denied = checked-unchanged running command statement (refusal_at old running statement) r denied

  does-unchanged : (found : Option Running) (action : Action) → DoesAt old new answer line place found action → is_recorded action answer ≡ false → IsUnchanged old new
  does-unchanged None action does denied = outside-unchanged action does denied
  does-unchanged (Some running) (Create table) does denied = does.0
  does-unchanged (Some running) (Begin kind) does denied = does.0
  does-unchanged (Some running) Commit does denied = commits-unchanged running does denied
  does-unchanged (Some running) Rollback does denied = recorded answer (reply.RolledBack running.active.t) (is_recorded Rollback) does.1 refl denied
  does-unchanged (Some running) (Run command) does denied =
      runs-unchanged running command (meaning_of (count_refusal parameters running.statements (statements_of old)) (checked (tables_of old) command)) does denied

pub unrecorded_line : (old new : Engine) (answer : Reply) (line place : ℕ) (command : Command)
    → DoesAt old new answer line place (get_or old.sessions place None) (action_of command) → is_recorded (action_of command) answer ≡ false → IsUnchanged old new
unrecorded_line old new answer line place command does denied = does-unchanged old new answer line place (get_or old.sessions place None) (action_of command) does denied

-- ---- the invariant

pub kept_line : (old new : Engine) (line place : ℕ) (command : Command) (result : Result Reply NoMemory) → IsEngine old → place < 64 → is_valid command ≡ true
    → IfOk result (λ answer. DoesAt old new answer line place (get_or old.sessions place None) (action_of command)) → OnErr result (IsUnchanged old new) → IsEngine new
kept_line old new line place command (Ok answer) sound within valid does same = does_engine old new answer line place command sound within valid does
kept_line old new line place command (Err error) sound within valid does same = unchanged_engine old new sound same
