-- The entries of a history are a log: each follows those before it.
use Rattle.gp_dump.proofs.Prelude.{◌≡◌, ◌≤◌, ℕ, zero, suc, Bool, true, false, ◌==◌, nat_le, List, [], ◌∷◌, ◌++◌, length, Option, Some, None, Result, Ok, Err, if◌then◌else◌, refl, sym, ap, subst, ◌∙◌, arith, ok_or, option_map, Annotations, Refusal, E14, Table, command_text, command_of, Command, Statement, all_reached, Runs, allowed, Run, answered, Conflict, Began, Committed, Created, Ended, Entry, Lost, Ran, RolledBack, statement_count, statements_in, transactions_in, versions_in, line_of, session_of, Line, after, beginning, committing, conflict_of, count_refusal, creating, creation_refusal, ended, is_full, line_event, published, ran, refusal_of, running, start_now, Parameters, IsReached, Active, State, start, with_value, Does, Disorder, IsLog, IsNext, Loses, command_entry, last_line, next_entry, said_by, transaction_in, tables_in, said_of, said_text, AreScriptLines, IsLineAfter, reads-parsed, said-is, eqb-true}
use Rattle.gp_base.specs.declared.limit.Limit.TheVariants as limit
use Rattle.gp_grammar.specs.declared.limits.TheConstants.{MAX_SESSION}
use Rattle.gp_grammar.specs.Syntax as y
use Rattle.gp_machine.specs.Event as step
use Rattle.gp_machine.specs.Event.{accepted, began, created}
use Rattle.gp_log.specs.declared.limit.TheConstants.{MAX_LINE}
use Rattle.gp_log.specs.Discipline as d
use Rattle.gp_dump.specs.WholeDumps.{AreReadable}
use Rattle.gp_dumpline.proofs.SaidLaws.{command-said, lost-said}
use Rattle.gp_dump.proofs.AlongLines.{along}
use Rattle.gp_base.proofs.SmallLemmas.{some_none}

abbrev transaction : {M : Type 0} → Active M → ℕ
transaction active = active.transaction

pub record Logged {M : Type 0} (parameters : Parameters) (last : ℕ) (state : State M) : Type 0 where
  pub log : IsLog parameters state.entries
  pub newest : last_line state.entries ≤ last
  pub readable : AreReadable state.entries
  pub running : (session : ℕ) → transaction_in session state.entries ≡ option_map transaction (state.active session)
  pub tables : tables_in state.entries ≡ state.catalogue

module _ {M : Type 0} (domain : Annotations M) (parameters : Parameters) (state : State M) (last : ℕ) (line : Line) (is : IsLineAfter last line) (reached : IsReached domain parameters state) (logged : Logged parameters last state) where
  abbrev number : ℕ
  number = line.number

  abbrev session : ℕ
  session = line.session

  same : Logged parameters line.number state
  same = let a = logged.newest in let b = is.rises in record { log = logged.log; newest = omega (arith, a, b); readable = logged.readable; running = logged.running; tables = logged.tables }

  -- an entry of the line
  next : (entry : Entry) → line_of entry ≡ number → session_of entry ≡ session → next_entry parameters state.entries number session (said_by entry) ≡ Ok entry → IsNext parameters state.entries entry
  next entry l s e =
      let a = logged.newest in let b = is.rises in
      record {
        follows = (λ i. next_entry parameters state.entries (l i) (s i) (said_by entry)) ∙ e;
        rises = omega (arith, a, b, l);
        line = subst (λ n. n ≤ MAX_LINE) (sym l) is.number;
        first = subst (λ n. 1 ≤ n) (sym s) is.first;
        session = subst (λ n. n ≤ MAX_SESSION) (sym s) is.session;
      }

  -- a line adds an entry, by what the session has then
  enter : (new : State M) (entry : Entry) (active : Option (Active M)) → new.entries ≡ entry ∷ state.entries → line_of entry ≡ number → session_of entry ≡ session
      → next_entry parameters state.entries number session (said_by entry) ≡ Ok entry → said_of (said_text (said_by entry)) ≡ Some (said_by entry)
      → ((n : ℕ) → transaction_in n (entry ∷ state.entries) ≡ (if n == session then option_map transaction active else transaction_in n state.entries))
      → ((n : ℕ) → new.active n ≡ with_value session active state.active n) → tables_in (entry ∷ state.entries) ≡ new.catalogue → Logged parameters line.number new
  enter new entry active grows l s e read after_entry actives tables = record {
    log = subst (IsLog parameters) (sym grows) (next entry l s e, logged.log);
    newest = subst (λ entries. last_line entries ≤ line.number) (sym grows) (omega (arith, l));
    readable = subst AreReadable (sym grows) (said-is (said_by entry) read, logged.readable);
    running = λ n.
        ap (transaction_in n) grows ∙ after_entry n
        ∙ elim (n == session) as (λ b. (if b then option_map transaction active else transaction_in n state.entries) ≡ option_map transaction (if b then active else state.active n)) [ true ↦ refl | false ↦ logged.running n ]
        ∙ ap (option_map transaction) (sym (actives n));
    tables = ap tables_in grows ∙ tables;
  }

  runs : (active : Option (Active M)) → state.active session ≡ active → transaction_in session state.entries ≡ option_map transaction active
  runs active e = logged.running session ∙ ap (option_map transaction) e

  -- what the session has is unchanged
  unchanged : (active : Option (Active M)) → state.active session ≡ active → (n : ℕ) → state.active n ≡ with_value session active state.active n
  unchanged active e n =
      elim (n == session) as (λ b. (n == session) ≡ b → state.active n ≡ (if b then active else state.active n)) [
        | true ↦ λ here. ap state.active (eqb-true n session here) ∙ e
        | false ↦ λ there. refl
      ] refl

  still : (t : Option ℕ) → transaction_in session state.entries ≡ t → (n : ℕ) → transaction_in n state.entries ≡ (if n == session then t else transaction_in n state.entries)
  still t e n =
      elim (n == session) as (λ b. (n == session) ≡ b → transaction_in n state.entries ≡ (if b then t else transaction_in n state.entries)) [
        | true ↦ λ here. ap (λ s. transaction_in s state.entries) (eqb-true n session here) ∙ e
        | false ↦ λ there. refl
      ] refl

  create_it : (table : Table) → command_of (command_text (y.create table)) ≡ Ok (y.create table) → state.active session ≡ None → (refusal : Option Refusal) → creation_refusal parameters state.catalogue table ≡ refusal
      → Logged parameters line.number (creating state number session table refusal).0
  create_it table read e (Some refusal) f = same
  create_it table read e None f =
      enter (created state number session table) (Created number session table) None refl refl refl
      (ap (λ t. command_entry parameters state.entries number session (allowed t (y.create table))) (runs None e)
      ∙ ap (λ tables. if nat_le parameters.tables (length tables) then Err Disorder else d.creation_entry parameters state.entries number session table (parameters.created tables table)) logged.tables
      ∙ go (nat_le parameters.tables (length state.catalogue)) (parameters.created state.catalogue table) f)
      (command-said (y.create table) read) (still None (runs None e)) (unchanged None e) (ap (λ tables. tables ++ table ∷ []) logged.tables)
    where
      go : (b : Bool) (o : Option Refusal) → (if b then Some (E14 limit.Tables) else o) ≡ None → (if b then Err Disorder else d.creation_entry parameters state.entries number session table o) ≡ Ok (Created number session table)
      go true o f = absurd (some_none (E14 limit.Tables) f)
      go false None f = refl
      go false (Some refusal) f = absurd (some_none refusal f)

  begin_it : (read_committed : Bool) → command_of (command_text (y.begin read_committed)) ≡ Ok (y.begin read_committed) → state.active session ≡ None → (full : Bool) → nat_le parameters.transactions (transactions_in state.entries) ≡ full → Logged parameters line.number (beginning state number session read_committed full).0
  begin_it read_committed read e true f = same
  begin_it read_committed read e false f =
      enter (began state number session read_committed) (Began number session (suc (transactions_in state.entries)) read_committed)
      (Some (record {
        transaction = suc (transactions_in state.entries);
        read_committed = read_committed;
        version = versions_in state.entries;
        statements = zero;
        seen = record { view = state.committed (versions_in state.entries); written = [] };
      }))
      refl refl refl
      (ap (λ t. command_entry parameters state.entries number session (allowed t (y.begin read_committed))) (runs None e)
      ∙ ap (λ b. if b then Err Disorder else Ok (Began number session (suc (transactions_in state.entries)) read_committed)) f)
      (command-said (y.begin read_committed) read) (λ n. refl) (λ n. refl) logged.tables

  module _ (active : Active M) (e : state.active session ≡ Some active) where
    run_it : (command : Command) → allowed (Some active.transaction) command ≡ Ok (Runs active.transaction command) → command_of (command_text command) ≡ Ok command → (refusal : Option Refusal) → count_refusal parameters active.statements (statements_in state.entries) ≡ refusal
        → (checked : Result Statement Refusal) → parameters.checked state.catalogue command ≡ checked → Logged parameters line.number (running domain state number session active command parameters refusal checked).0
    run_it command a read (Some refusal) f checked g = same
    run_it command a read None f (Err refusal) g = same
    run_it command a read None f (Ok statement) g = go (refusal_of domain parameters state.catalogue active.transaction (suc active.statements) statement (start_now state active))
      where
        count : statement_count active.transaction state.entries ≡ active.statements
        count = (reached.running session active e).count

        follows : next_entry parameters state.entries number session (Does command) ≡ Ok (Ran number session command active.transaction statement)
        follows =
            (λ i. command_entry parameters state.entries number session (allowed (runs (Some active) e i) command))
            ∙ ap (command_entry parameters state.entries number session) a
            ∙ (λ i. d.statement_entry parameters state.entries number session active.transaction command (count_refusal parameters (count i) (statements_in state.entries)) (parameters.checked (logged.tables i) command))
            ∙ (λ i. d.statement_entry parameters state.entries number session active.transaction command (f i) (g i))

        go : (o : Option Refusal) → Logged parameters line.number (ran domain state number session active command statement o).0
        go (Some refusal) = same
        go None =
            enter (accepted domain state number session active command statement) (Ran number session command active.transaction statement) _ refl refl refl follows (command-said command read)
            (still (Some active.transaction) (runs (Some active) e)) (λ n. refl) logged.tables

    commit_it : command_of (command_text y.Command.commit) ≡ Ok y.Command.commit → (lost : Option Conflict) (full : Bool) → Logged parameters line.number (committing state number session active lost full).0
    commit_it read (Some conflict) full =
        enter (ended state number session active Lost) (Ended number session Lost active.transaction) None refl refl refl (ap (λ t. ok_or (option_map (Ended number session Lost) t) Disorder) (runs (Some active) e)) lost-said (λ n. refl) (λ n. refl) logged.tables
    commit_it read None true = same
    commit_it read None false =
        enter (published state number session active) (Committed number session active.transaction) None refl refl refl
        (ap (λ t. command_entry parameters state.entries number session (allowed t y.Command.commit)) (runs (Some active) e)) (command-said y.Command.commit read) (λ n. refl) (λ n. refl) logged.tables

    rollback_it : command_of (command_text y.rollback) ≡ Ok y.rollback → Logged parameters line.number (ended state number session active RolledBack)
    rollback_it read =
        enter (ended state number session active RolledBack) (Ended number session RolledBack active.transaction) None refl refl refl
        (ap (λ t. command_entry parameters state.entries number session (allowed t y.rollback)) (runs (Some active) e)) (command-said y.rollback read) (λ n. refl) (λ n. refl) logged.tables

    checks : (command : Command) → allowed (Some active.transaction) command ≡ Ok (Runs active.transaction command) → command_of (command_text command) ≡ Ok command → Logged parameters line.number (answered domain parameters state number session (Some active) (Run command)).0
    checks command a read = run_it command a read (count_refusal parameters active.statements (statements_in state.entries)) refl (parameters.checked state.catalogue command) refl

  outside : state.active session ≡ None → (command : Command) → command_of (command_text command) ≡ Ok command → Logged parameters line.number (step.doing domain parameters state number session (allowed None command)).0
  outside e (y.create table) read = create_it table read e (creation_refusal parameters state.catalogue table) refl
  outside e (y.begin read_committed) read = begin_it read_committed read e (nat_le parameters.transactions (transactions_in state.entries)) refl
  outside e y.Command.commit read = same
  outside e y.rollback read = same
  outside e (y.insert table rows) read = same
  outside e (y.insert_select table query) read = same
  outside e (y.update table sets cond) read = same
  outside e (y.delete table cond) read = same
  outside e (y.select query) read = same

  inside : (active : Active M) → state.active session ≡ Some active → (command : Command) → command_of (command_text command) ≡ Ok command → Logged parameters line.number (step.doing domain parameters state number session (allowed (Some active) command)).0
  inside active e (y.create table) read = same
  inside active e (y.begin read_committed) read = same
  inside active e y.Command.commit read = commit_it active e read (conflict_of state active) (is_full parameters state active)
  inside active e y.rollback read = rollback_it active e read
  inside active e (y.insert table rows) read = checks active e (y.insert table rows) refl read
  inside active e (y.insert_select table query) read = checks active e (y.insert_select table query) refl read
  inside active e (y.update table sets cond) read = checks active e (y.update table sets cond) refl read
  inside active e (y.delete table cond) read = checks active e (y.delete table cond) refl read
  inside active e (y.select query) read = checks active e (y.select query) refl read

  line_logged : Logged parameters line.number (line_event domain parameters state line).0
  line_logged = go (state.active session) refl
    where
      go : (active : Option (Active M)) → state.active session ≡ active → Logged parameters line.number (step.doing domain parameters state number session (allowed active line.command)).0
      go None e = outside e line.command (reads-parsed (command_text line.command) line.command is.command)
      go (Some active) e = inside active e line.command (reads-parsed (command_text line.command) line.command is.command)

pub all_logged : {M : Type 0} (domain : Annotations M) (parameters : Parameters) (lines : List Line) → AreScriptLines lines → (newest : ℕ) × Logged parameters newest (after domain parameters start lines)
all_logged domain parameters lines are =
    along domain parameters (Logged parameters) (λ done last line is logged. line_logged domain parameters (after domain parameters start done) last line is (all_reached domain parameters done) logged) lines are
    (record { log = tt; newest = omega arith; readable = tt; running = λ session. refl; tables = refl })
