-- Part of the statement: which lines a log can have. What a line may do depends on the log before it alone: on whether its session has a transaction,
-- on the counts, and on the tables. An engine accepts exactly such lines, but for its limits on rows, identities and answers, and for conflicts.
use Rattle.std.specs.Prelude.{◌≡◌, ℕ, zero, suc, ◌<◌, ◌≤◌, ◌&&◌, ◌||◌, nat_le, List, [], ◌∷◌, length, Option, Some, None, Result, Ok, Err, if◌then◌else◌, ◌==◌}
use Rattle.std.specs.Option.{ok_or, option_map, option_map_or}
use Rattle.gp_base.specs.declared.refusal.Refusal.{Refusal}
use Rattle.gp_base.specs.declared.table.Table.{Table}
use Rattle.gp_grammar.specs.declared.limits.TheConstants.{MAX_SESSION}
use Rattle.gp_grammar.specs.Syntax as y
use Rattle.gp_grammar.specs.Syntax.{Command}
use Rattle.gp_algebra.specs.Statements.{Statement}
use Rattle.gp_machine.specs.Actions.{Allowed, Creates, Begins, Commits, RollsBack, Runs, allowed}
use Rattle.gp_machine.specs.Entries.{Entry, RolledBack, Lost, Created, Began, Ran, Committed, Ended, at_newest, is_begin, is_end, line_of, session_of, transaction_of, transactions_in, statements_in, statement_count}
use Rattle.gp_machine.specs.Event.{count_refusal}
use Rattle.gp_machine.specs.Parameters.{Parameters}
use Rattle.gp_log.specs.declared.limit.TheConstants.{MAX_LINE}
use Rattle.gp_log.specs.LogFacts.{tables_in}

-- ---- what a line says

-- what a line of a log says: the command of an accepted line, or that a COMMIT was lost
pub data Said : Type 0 where
  Does : Command → Said
  Loses : Said

abbrev pub said_by : Entry → Said
said_by (Created line session table) = Does (y.create table)
said_by (Began line session t level) = Does (y.begin level)
said_by (Ran line session command t statement) = Does command
said_by (Committed line session t) = Does y.Command.commit
said_by (Ended line session RolledBack t) = Does y.rollback
said_by (Ended line session Lost t) = Loses

-- ---- the next entry

-- the active transaction of a session, if it has one: that of its newest BEGIN, unless its end came later
abbrev pub transaction_in : ℕ → List Entry → Option ℕ
transaction_in session =
    at_newest (λ entry older. (is_begin entry || is_end entry) && (session == session_of entry))
    (λ entry older. if is_begin entry then transaction_of entry else None) None

-- why a line cannot be next: by its session or by a count; or by the check of names and types
pub data Flaw : Type 0 where
  Disorder : Flaw
  Unchecked : Flaw

module _ (parameters : Parameters) (older : List Entry) (line session : ℕ) where
  -- CREATE TABLE, by the refusal of its names
  abbrev pub creation_entry : Table → Option Refusal → Result Entry Flaw
  creation_entry table refusal = option_map_or (λ _. Err Unchecked) refusal (Ok (Created line session table))

  -- a statement, by the refusal of the counts, and by the check
  abbrev pub statement_entry : ℕ → Command → Option Refusal → Result Statement Refusal → Result Entry Flaw
  statement_entry t command (Some refusal) checked = Err Disorder
  statement_entry t command None (Err refusal) = Err Unchecked
  statement_entry t command None (Ok statement) = Ok (Ran line session command t statement)

  -- what a session may do, by the number of its transaction
  abbrev pub command_entry : Result (Allowed ℕ) Refusal → Result Entry Flaw
  command_entry (Err refusal) = Err Disorder
  command_entry (Ok (Creates table)) =
      if nat_le parameters.tables (length (tables_in older)) then Err Disorder else creation_entry table (parameters.created (tables_in older) table)
  command_entry (Ok (Begins level)) =
      if nat_le parameters.transactions (transactions_in older) then Err Disorder else Ok (Began line session (suc (transactions_in older)) level)
  command_entry (Ok (Commits t)) = Ok (Committed line session t)
  command_entry (Ok (RollsBack t)) = Ok (Ended line session RolledBack t)
  command_entry (Ok (Runs t command)) =
      statement_entry t command (count_refusal parameters (statement_count t older) (statements_in older)) (parameters.checked (tables_in older) command)

  -- the entry of a line, or why it cannot be next
  abbrev pub next_entry : Said → Result Entry Flaw
  next_entry (Does command) = command_entry (allowed (transaction_in session older) command)
  next_entry Loses = ok_or (option_map (Ended line session Lost) (transaction_in session older)) Disorder

-- ---- whole logs

-- the number of the newest line
abbrev pub last_line : List Entry → ℕ
last_line [] = zero
last_line (entry ∷ older) = line_of entry

-- an entry that can be next: lines rise, and are numbered as those of a script can be
pub record IsNext (parameters : Parameters) (older : List Entry) (entry : Entry) : Type 0 where
  pub follows : next_entry parameters older (line_of entry) (session_of entry) (said_by entry) ≡ Ok entry
  pub rises : last_line older < line_of entry
  pub line : line_of entry ≤ MAX_LINE
  pub first : 1 ≤ session_of entry
  pub session : session_of entry ≤ MAX_SESSION
