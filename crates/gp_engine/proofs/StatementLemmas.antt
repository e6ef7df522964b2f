-- The statement of a line, from its check to its entry.
use Rattle.std.proofs.Common.{◌≡◌, ℕ, suc, ◌<◌, Bool, true, false, List, ◌∷◌, length, Option, Some, None, Result, Ok, Err, get_or, refl, sym, ap, ◌∙◌, subst}
use Rattle.std.specs.Prelude.{if◌then◌else◌, nat_le, slice_set}
use Rattle.std.proofs.lemmas.Bool.{leb-false}
use Rattle.std.proofs.lemmas.List.{set-get_or}
use Rattle.gp_base.specs.declared.refusal.Refusal.{Refusal}
use Rattle.gp_base.specs.declared.stop.Stop.{Stop}
use Rattle.gp_base.specs.declared.stop.Stop.TheVariants as run
use Rattle.gp_base.specs.declared.table.Table.{Table}
use Rattle.gp_algebra.specs.Statements.{Statement}
use Rattle.gp_algebra.specs.Views.{statement_view}
use Rattle.gp_algebra.specs.declared.statement.Stmt.{Stmt}
use Rattle.gp_check.specs.Checking.{checked}
use Rattle.gp_check.specs.Views.{Checks}
use Rattle.gp_grammar.specs.Syntax.{Command}
use Rattle.gp_versions.specs.Spans.{Versions}
use Rattle.gp_machine.specs.declared.reply.Reply.{Reply}
use Rattle.gp_machine.specs.declared.reply.Reply.TheVariants as reply
use Rattle.gp_machine.specs.Entries.{Entry, Ran, statement_count, statements_in, versions_in}
use Rattle.gp_machine.specs.Event.{count_refusal}
use Rattle.gp_log.specs.declared.limit.TheConstants.{MAX_STATEMENTS, MAX_STEPS}
use Rattle.gp_log.specs.LogFacts.{tables_in}
use Rattle.gp_log.specs.Logs.{Logged, log_view}
use Rattle.gp_log.specs.Parameters.{parameters}
use Rattle.gp_engine.specs.Engine.{Engine, IsEngine, IsUnchanged, entries_of, newest_of, spans_of, tables_of}
use Rattle.gp_engine.specs.Methods.{Accepts, Answers, Keeps, Runs, RunsAs, RunsChecked, RunsTo, StopsBy, meaning_in, meaning_of, refusal_at, refusal_in, refused_as, refused_by}
use Rattle.gp_engine.specs.declared.running.Running.{Running}
use Rattle.gp_engine.specs.declared.running.Unlogged.{Unlogged}

steps-below : (steps full : Bool) (first second : Refusal) (meaning : Result Statement Refusal) (statement : Statement)
    → meaning_of (if steps then Some first else if full then Some second else None) meaning ≡ Ok statement → steps ≡ false
steps-below true full first second meaning statement is = absurd cc
steps-below false full first second meaning statement is = refl

-- a statement that is not refused by a count is below it
pub few-steps : (own all : ℕ) (meaning : Result Statement Refusal) (statement : Statement) → meaning_of (count_refusal parameters own all) meaning ≡ Ok statement → own < MAX_STEPS
few-steps own all meaning statement is = leb-false MAX_STEPS own (steps-below (nat_le MAX_STEPS own) (nat_le MAX_STATEMENTS all) _ _ meaning statement is)

-- ---- a statement of a transaction

module _ (entries : List Entry) (versions : List Versions) (old : Running) (command : Command) where
  -- what its check says, of the count and the tables that were read
  pub checked-here : (all : ℕ) (tables : List Table) (stmt : Result Stmt Stop) → all ≡ statements_in entries → tables ≡ tables_in entries
      → Checks statement_view stmt (meaning_of (count_refusal parameters old.statements all) (checked tables command)) → Checks statement_view stmt (meaning_in entries versions old command)
  checked-here all tables stmt counted listed =
      subst (λ (x : ℕ × List Table). Checks statement_view stmt (meaning_of (count_refusal parameters old.statements x.0) (checked x.1 command))) (λ i. (counted i, listed i))

  -- one that does not pass its check is refused so
  pub check-stops : (stop : Stop) → Checks {X = Stmt} statement_view (Err stop) (meaning_in entries versions old command) → StopsBy stop (refused_by entries versions old command)
  check-stops (run.Refused refusal) is = ap (refused_as (tables_in entries) versions (versions_in entries) old) is
  check-stops run.NoMemory is = tt

  -- one that passes it is refused by what refuses its run
  pub run-stops : (statement : Statement) (stop : Stop) → meaning_in entries versions old command ≡ Ok statement
      → StopsBy stop (refusal_in (tables_in entries) versions (versions_in entries) old statement) → StopsBy stop (refused_by entries versions old command)
  run-stops statement stop means =
      subst (λ (meaning : Result Statement Refusal). StopsBy stop (refused_as (tables_in entries) versions (versions_in entries) old meaning)) (sym means)

-- ---- a statement of a line

-- these parts have the same entries and row versions, and this transaction at a place
pub record Puts (old : Engine) (place : ℕ) (after : Running) (log : Logged) (versions : List Versions) (sessions : List (Option Running)) : Type 0 where
  pub entries : log.entries ≡ old.log.entries
  pub versions_are : versions ≡ old.versions
  pub sessions_are : sessions ≡ slice_set old.sessions place (Some after)

module _ (engine inside : Engine) (view : inside ≡ engine) where
  pub puts-in : (place : ℕ) (after : Running) (log : Logged) (versions : List Versions) → log.entries ≡ inside.log.entries → versions ≡ inside.versions
      → Puts engine place after log versions (slice_set inside.sessions place (Some after))
  puts-in place after log versions entries held = record {
    entries = entries ∙ ap (λ (e : Engine). e.log.entries) view;
    versions_are = held ∙ ap (λ (e : Engine). e.versions) view;
    sessions_are = ap (λ (e : Engine). slice_set e.sessions place (Some after)) view;
  }

  pub runs-in : (running after : Running) (command read : Command) (ran : Unlogged) (versions : List Versions) → versions ≡ inside.versions → read ≡ command
      → RunsTo (entries_of inside) versions running read after ran → RunsTo (entries_of engine) engine.versions running command after ran
  runs-in running after command read ran versions held same =
      subst (λ (x : List Entry × (List Versions × Command)). RunsTo x.0 x.1.0 running x.1.1 after ran) (λ i. (entries_of (view i), ((held ∙ ap (λ (e : Engine). e.versions) view) i, same i)))

  pub stops-in : (running : Running) (command read : Command) (stop : Stop) (versions : List Versions) → versions ≡ inside.versions → read ≡ command
      → StopsBy stop (refused_by (entries_of inside) versions running read) → StopsBy stop (refused_by (entries_of engine) engine.versions running command)
  stops-in running command read stop versions held same =
      subst (λ (x : List Entry × (List Versions × Command)). StopsBy stop (refused_by x.0 x.1.0 running x.1.1)) (λ i. (entries_of (view i), ((held ∙ ap (λ (e : Engine). e.versions) view) i, same i)))

module _ (old : Engine) (place : ℕ) (running after : Running) (at : get_or old.sessions place None ≡ Some running) (log : Logged) (versions : List Versions) (sessions : List (Option Running))
    (puts : Puts old place after log versions sessions) where
  -- nothing has changed, where the transaction is the one that was there
  pub put-unchanged : after ≡ running → IsUnchanged old (record { log = log; versions = versions; sessions = sessions })
  put-unchanged same = record {
    entries = puts.entries;
    sessions = puts.sessions_are ∙ ap (λ (session : Option Running). slice_set old.sessions place session) (ap Some same ∙ sym at) ∙ set-get_or old.sessions place None;
    spans = λ table. ap (λ held. spans_of held table) puts.versions_are;
    tables = ap length puts.versions_are;
  }

  -- the number of a statement that has run is the next one that the log has of its transaction
  pub next-number : (command : Command) (ran : Unlogged) → IsEngine old → RunsTo (entries_of old) old.versions running command after ran → ran.k ≡ suc (statement_count ran.t (log_view log.entries))
  next-number command ran sound runs =
      runs.k ∙ ap suc (sound.each (suc place) running at).count ∙ (λ i. suc (statement_count (sym runs.t i) (log_view (sym puts.entries i))))

module _ (old new : Engine) (answer : Reply) (line place : ℕ) (running : Running) (command : Command) where
  -- a statement that does not run leaves the engine as it was
  pub checked-refused : (statement : Statement) (refusal : Option Refusal) (stop : Stop) → StopsBy stop refusal → IsUnchanged old new → Answers stop answer
      → RunsChecked old new answer line place running command statement refusal
  checked-refused statement refusal (run.Refused by) is same says = subst (RunsChecked old new answer line place running command statement) (sym is) (same, says)
  checked-refused statement refusal run.NoMemory is same says = absurd says

  -- nor does one that means something else than a statement
  pub runs-stopped : (meaning : Result Statement Refusal) (stop : Stop) → StopsBy stop (refused_as (tables_of old) old.versions (newest_of old) running meaning) → IsUnchanged old new → Answers stop answer
      → RunsAs old new answer line place running command meaning
  runs-stopped (Ok statement) stop is same says = checked-refused statement (refusal_at old running statement) stop is same says
  runs-stopped (Err refusal) (run.Refused by) is same says = let e : refusal ≡ by = cc in (same, says ∙ ap reply.Refused (sym e))
  runs-stopped (Err refusal) run.NoMemory is same says = absurd says

  -- one that has run, once it is in the log
  pub runs-recorded : (meaning : Result Statement Refusal) (statement : Statement) (after : Running) → meaning ≡ Ok statement → Accepts (tables_of old) old.versions (newest_of old) running after answer statement
      → Keeps new (Ran line (suc place) command running.active.t statement ∷ entries_of old) old.versions (slice_set old.sessions place (Some after)) → RunsAs old new answer line place running command meaning
  runs-recorded meaning statement after is accepts keeps =
      subst (RunsAs old new answer line place running command) (sym is)
      (subst (RunsChecked old new answer line place running command statement) (sym accepts.unrefused) (record { after = after; accepts = accepts; keeps = keeps }))

  -- one that has run, from the parts before its entry
  pub runs-kept : (after : Running) (ran : Unlogged) (log : Logged) (versions : List Versions) (sessions : List (Option Running)) → Puts old place after log versions sessions
      → RunsTo (entries_of old) old.versions running command after ran → Keeps new (Ran line (suc place) command ran.t (statement_view ran.stmt.value) ∷ log_view log.entries) versions sessions
      → answer ≡ ran.reply → Runs old new answer line place running command
  runs-kept after ran log versions sessions puts runs keeps says =
      runs-recorded (meaning_in (entries_of old) old.versions running command) (statement_view ran.stmt.value) after runs.means
      (subst (λ (reply : Reply). Accepts (tables_of old) old.versions (newest_of old) running after reply (statement_view ran.stmt.value)) (sym says) runs.accepts) (record {
        log_is = keeps.log_is ∙ (λ i. Ran line (suc place) command (runs.t i) (statement_view ran.stmt.value) ∷ log_view (puts.entries i));
        versions_are = keeps.versions_are ∙ puts.versions_are;
        sessions_are = keeps.sessions_are ∙ puts.sessions_are;
      })
