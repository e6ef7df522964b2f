-- Part of the statement: what the command of a line does to the state, and the reply to it. Under snapshot isolation (Berenson and others, SIGMOD
-- 1995) a transaction reads the version that was newest when it began, and its own writes; its commit makes the next version. A read committed
-- transaction reads at each statement the version that is the newest then, and its own writes. A refused line leaves the state unchanged, but a COMMIT
-- that is lost ends its transaction.
use Rattle.std.specs.Prelude.{ℕ, zero, suc, ◌+◌, nat_le, nat_lt, Bool, true, false, List, [], ◌∷◌, ◌++◌, length, filter, Option, Some, None, Result, Ok, Err, slice_get, unwrap_or, if◌then◌else◌}
use Rattle.std.specs.Option.{option_map_or}
use Rattle.gp_base.specs.declared.limit.Limit.TheVariants as limit
use Rattle.gp_base.specs.declared.refusal.Refusal.{Refusal}
use Rattle.gp_base.specs.declared.refusal.Refusal.TheVariants.{E11, E12, E13, E14, E27}
use Rattle.gp_base.specs.declared.table.Table.{Table}
use Rattle.gp_base.specs.Annotated.{Annotations, Database}
use Rattle.gp_grammar.specs.Syntax.{Command}
use Rattle.gp_algebra.specs.Statements.{Statement, read, target}
use Rattle.gp_algebra.specs.Answers.{answer, cells_of}
use Rattle.gp_algebra.specs.Effects.{wrote, is_over_rows, is_over_nodes}
use Rattle.gp_machine.specs.declared.reply.Reply.{Reply}
use Rattle.gp_machine.specs.declared.reply.Reply.TheVariants as reply
use Rattle.gp_machine.specs.Actions.{Allowed, Creates, Begins, Commits, RollsBack, Runs, allowed}
use Rattle.gp_machine.specs.Bases.{pairs}
use Rattle.gp_machine.specs.Committed.{is_written, next_version}
use Rattle.gp_machine.specs.Conflicts.{Conflict, least_conflict}
use Rattle.gp_machine.specs.Entries.{End, RolledBack, Lost, Created, Began, Ran, Committed, Ended, versions_in, transactions_in, statements_in, committer_of}
use Rattle.gp_machine.specs.Parameters.{Parameters}
use Rattle.gp_machine.specs.Reading.{Seen, next_seen, started}
use Rattle.gp_machine.specs.State.{Active, State, with_value}

-- a line that was read: its number, from 1, its session and its command
pub record Line : Type 0 where
  pub number : ℕ
  pub session : ℕ
  pub command : Command

-- the name of the table at a place, or nothing if there is none
abbrev pub name_at : ℕ → List Table → List ℕ
name_at place tables = option_map_or (λ (table : Table). table.name) (slice_get tables place) []

-- the table that a statement writes; a query writes none, and is given the first
abbrev pub target_of : Statement → ℕ
target_of statement = unwrap_or (target statement) 0

-- ---- refusals

-- CREATE TABLE: the number of tables is tested before the names
abbrev pub creation_refusal : Parameters → List Table → Table → Option Refusal
creation_refusal parameters tables table = if nat_le parameters.tables (length tables) then Some (E14 limit.Tables) else parameters.created tables table

-- A statement is counted before it is checked, in its transaction and then among all.
abbrev pub count_refusal : Parameters → ℕ → ℕ → Option Refusal
count_refusal parameters own all =
    if nat_le parameters.steps own then Some (E14 limit.Steps)
    else if nat_le parameters.statements all then Some (E14 limit.Statements)
    else None

module _ {M : Type 0} (domain : Annotations M) where
  -- a SELECT that gives more rows than these
  abbrev pub is_over_answer : ℕ → Statement → Database M → Bool
  is_over_answer most (read select) db = nat_lt most (length (answer domain select db))
  is_over_answer most _ db = false

  -- a statement that was checked: its rows, its identities, its answer
  abbrev pub refusal_of : Parameters → List Table → ℕ → ℕ → Statement → Database M → Option Refusal
  refusal_of parameters tables t k statement view =
      if is_over_rows domain parameters.rows t k statement view then Some (E12 (name_at (target_of statement) tables))
      else if is_over_nodes domain parameters.nodes t k statement view then Some E13
      else if is_over_answer parameters.answer statement view then Some E27
      else None

  -- the reply to a statement: the rows of a query, or the number of rows that it wrote
  abbrev pub reply_of : ℕ → ℕ → Statement → Database M → Reply
  reply_of t k (read select) view = reply.Rows (cells_of (answer domain select view))
  reply_of t k statement view = reply.Wrote (length (wrote domain t k statement view))

-- a refusal leaves the state unchanged
abbrev pub refused : {M : Type 0} → State M → Refusal → State M × Reply
refused state refusal = (state, reply.Refused refusal)

-- ---- outside a transaction

module _ {M : Type 0} (state : State M) (line session : ℕ) where
  -- CREATE TABLE: one more table, empty in every version
  abbrev pub created : Table → State M
  created table = record state { catalogue = state.catalogue ++ table ∷ []; entries = Created line session table ∷ state.entries }

  abbrev pub creating : Table → Option Refusal → State M × Reply
  creating table (Some refusal) = refused state refusal
  creating table None = (created table, reply.Created (length state.catalogue))

  -- BEGIN: the next transaction, of this kind, reads the newest version
  abbrev pub began : Bool → State M
  began read_committed =
      let t = suc (transactions_in state.entries) in
      let version = versions_in state.entries in
      let view = state.committed version in
      record state {
        entries = Began line session t read_committed ∷ state.entries;
        views = with_value t (λ k. view) state.views;
        active = with_value session (Some (record {
          transaction = t;
          read_committed = read_committed;
          version = version;
          statements = zero;
          seen = record { view = view; written = [] };
        })) state.active;
      }

  abbrev pub beginning : Bool → Bool → State M × Reply
  beginning read_committed true = refused state (E14 limit.Transactions)
  beginning read_committed false = (began read_committed, reply.Began (suc (transactions_in state.entries)) (versions_in state.entries))

-- ---- statements

-- The version that the next statement of a transaction reads, and what the transaction reads there. A transaction that is not read committed has read
-- no other version than the one that it began at.
abbrev pub version_now : {M : Type 0} → State M → Active M → ℕ
version_now state active = if active.read_committed then versions_in state.entries else active.version

abbrev pub start_now : {M : Type 0} → State M → Active M → Database M
start_now state active = started active.version (version_now state active) (state.committed (version_now state active)) active.seen

module _ {M : Type 0} (domain : Annotations M) (state : State M) (line session : ℕ) (active : Active M) (command : Command) where
  -- what the transaction has read and written after the statement
  abbrev pub seen_after : Statement → Seen M
  seen_after statement =
      let now = version_now state active in
      next_seen domain active.transaction (suc active.statements) active.version now (state.committed now) (Some statement) active.seen

  -- the transaction reads what the statement leaves from now on
  abbrev pub accepted : Statement → State M
  accepted statement =
      let t = active.transaction in
      let k = suc active.statements in
      let seen = seen_after statement in
      record state {
        entries = Ran line session command t statement ∷ state.entries;
        views = with_value t (with_value k seen.view (state.views t)) state.views;
        active = with_value session (Some (record active { version = version_now state active; statements = k; seen = seen })) state.active;
      }

  abbrev pub ran : Statement → Option Refusal → State M × Reply
  ran statement (Some refusal) = refused state refusal
  ran statement None = (accepted statement, reply_of domain active.transaction (suc active.statements) statement (start_now state active))

  -- by the refusal of the counts, and by the check
  abbrev pub running : Parameters → Option Refusal → Result Statement Refusal → State M × Reply
  running parameters (Some refusal) checked = refused state refusal
  running parameters None (Err refusal) = refused state refusal
  running parameters None (Ok statement) =
      ran statement (refusal_of domain parameters state.catalogue active.transaction (suc active.statements) statement (start_now state active))

-- ---- the end of a transaction

-- the conflict that a commit is lost by, if there is one
abbrev pub conflict_of : {M : Type 0} → State M → Active M → Option Conflict
conflict_of state active = least_conflict state.written (versions_in state.entries) active.seen.written

-- how many rows a commit publishes in the first tables, this many, of what its transaction reads and wrote
abbrev pub published_rows : {M : Type 0} → Seen M → ℕ → ℕ
published_rows seen zero = zero
published_rows seen (suc table) = published_rows seen table + length (filter (λ row. is_written table row.identity (pairs seen.written)) (seen.view table))

-- whether a commit would publish too many rows
abbrev pub is_full : {M : Type 0} → Parameters → State M → Active M → Bool
is_full parameters state active = nat_lt parameters.published (state.rows + published_rows active.seen (length state.catalogue))

module _ {M : Type 0} (state : State M) (line session : ℕ) (active : Active M) where
  -- ROLLBACK, or a COMMIT that is lost: the session has no transaction
  abbrev pub ended : End → State M
  ended end = record state { entries = Ended line session end active.transaction ∷ state.entries; active = with_value session None state.active }

  -- COMMIT: the next version
  abbrev pub published : State M
  published =
      let version = suc (versions_in state.entries) in
      record state {
        entries = Committed line session active.transaction ∷ state.entries;
        committed = with_value version (next_version (state.committed (versions_in state.entries)) active.seen.view (pairs active.seen.written)) state.committed;
        written = with_value version (pairs active.seen.written) state.written;
        rows = state.rows + published_rows active.seen (length state.catalogue);
        active = with_value session None state.active;
      }

  -- A commit is lost to the transaction that committed the conflict. The number of published rows is tested after that, and leaves the
  -- transaction active.
  abbrev pub committing : Option Conflict → Bool → State M × Reply
  committing (Some conflict) full = (
    ended Lost,
    reply.Refused (E11 active.transaction (committer_of conflict.version state.entries) (name_at conflict.pair.table state.catalogue) conflict.pair.identity),
  )
  committing None true = refused state (E14 limit.Versions)
  committing None false = (published, reply.Committed active.transaction (suc (versions_in state.entries)))

-- ---- the event

module _ {M : Type 0} (domain : Annotations M) (parameters : Parameters) where
  -- what a session may do, or why it may not
  abbrev pub doing : State M → ℕ → ℕ → Result (Allowed (Active M)) Refusal → State M × Reply
  doing state line session (Err refusal) = refused state refusal
  doing state line session (Ok (Creates table)) = creating state line session table (creation_refusal parameters state.catalogue table)
  doing state line session (Ok (Begins read_committed)) = beginning state line session read_committed (nat_le parameters.transactions (transactions_in state.entries))
  doing state line session (Ok (Commits active)) = committing state line session active (conflict_of state active) (is_full parameters state active)
  doing state line session (Ok (RollsBack active)) = (ended state line session active RolledBack, reply.RolledBack active.transaction)
  doing state line session (Ok (Runs active command)) =
      running domain state line session active command parameters (count_refusal parameters active.statements (statements_in state.entries)) (parameters.checked state.catalogue command)

  -- what the command of a line does in a session, and the reply to it
  abbrev pub event : State M → ℕ → ℕ → Command → State M × Reply
  event state line session command = doing state line session (allowed (state.active session) command)

  abbrev pub line_event : State M → Line → State M × Reply
  line_event state line = event state line.number line.session line.command

  -- the state that some lines leave
  abbrev pub after : State M → List Line → State M
  after state [] = state
  after state (line ∷ lines) = after (line_event state line).0 lines
