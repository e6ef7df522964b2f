-- Part of the statement: a log with changes, made one after another: of transactions that committed, statements are dropped, replaced and added.
use Rattle.std.specs.Prelude.{ℕ, suc, ◌*◌, ◌==◌, ◌&&◌, ◌||◌, nat_le, Bool, true, false, List, [], ◌∷◌, filter, length, map, Option, Some, None, Result, Ok, Err, if◌then◌else◌}
use Rattle.std.specs.Option.{option_map_or, option_or}
use Rattle.std.specs.Result.{result_map_both}
use Rattle.gp_base.specs.declared.cell.Cell.TheVariants as cell
use Rattle.gp_base.specs.declared.limit.Limit.TheVariants as limit
use Rattle.gp_base.specs.declared.refusal.Refusal.{Refusal}
use Rattle.gp_base.specs.declared.refusal.Refusal.TheVariants.{E14}
use Rattle.gp_base.specs.declared.table.Table.{Table}
use Rattle.gp_expr.specs.Expressions.{constant}
use Rattle.gp_grammar.specs.Syntax as y
use Rattle.gp_grammar.specs.Syntax.{Command, LogChange}
use Rattle.gp_algebra.specs.Statements.{Statement, read, target}
use Rattle.gp_machine.specs.Entries.{Entry, Created, Began, Ran, Committed, Ended, at_newest, is_begin, is_of, is_statement, is_statement_at, line_of, session_of, statement_count}
use Rattle.gp_machine.specs.Parameters.{Parameters}
use Rattle.gp_machine.specs.Questions.{statement_refusal, transaction_refusal}
use Rattle.gp_log.specs.LogFacts.{tables_in}

-- ---- a statement that is dropped

-- SELECT NULL FROM a table, by its name and by its place
abbrev pub nothing_from : y.Bytes → Command
nothing_from table = y.select (record { items = y.list (y.null ∷ []); from = record { table = table; name = table } ∷ []; cond = None } ∷ [])

abbrev pub nothing_at : ℕ → Statement
nothing_at table = read (record { from = table ∷ []; cond = None; items = constant cell.Null ∷ [] } ∷ [])

-- a statement that writes leaves this in its place; a query stays
abbrev pub dropped_command : Command → Command
dropped_command (y.insert table rows) = nothing_from table
dropped_command (y.insert_select table query) = nothing_from table
dropped_command (y.update table sets cond) = nothing_from table
dropped_command (y.Command.delete table cond) = nothing_from table
dropped_command command = command

abbrev pub dropped_statement : Statement → Statement
dropped_statement statement = option_map_or nothing_at (target statement) statement

-- ---- the places of a log

-- statement k of transaction t
abbrev pub is_at : ℕ → ℕ → ℕ → List Entry → Bool
is_at t k u older = (u == t) && (suc (statement_count t older) == k)

-- the BEGIN or a statement of a transaction: the newest of these is its last entry before its COMMIT
abbrev pub is_step_of : ℕ → Entry → Bool
is_step_of t entry = (is_begin entry || is_statement entry) && is_of t entry

-- the tables created before statement k
abbrev pub tables_before : ℕ → ℕ → List Entry → List Table
tables_before t k = at_newest (is_statement_at t k) (λ entry older. tables_in older) []

-- the tables created before the line after the last entry before the COMMIT
abbrev pub tables_at_end : ℕ → List Entry → List Table
tables_at_end t = at_newest (λ entry older. is_step_of t entry) (λ entry older. tables_in older) []

-- ---- one change

-- statement k by another
abbrev pub with_other : ℕ → ℕ → (Command → Command) → (Statement → Statement) → List Entry → List Entry
with_other t k command statement [] = []
with_other t k command statement (Ran line session sent u now ∷ older) =
    if is_at t k u older then Ran line session (command sent) u (statement now) ∷ older else Ran line session sent u now ∷ with_other t k command statement older
with_other t k command statement (entry ∷ older) = entry ∷ with_other t k command statement older

-- an entry that is a statement of a transaction is dropped
abbrev pub dropped_of : ℕ → Entry → Entry
dropped_of t (Ran line session sent u now) = if u == t then Ran line session (dropped_command sent) u (dropped_statement now) else Ran line session sent u now
dropped_of t entry = entry

-- one statement more, on the line behind the entry before it and in its session
abbrev pub with_added : ℕ → Command → Statement → List Entry → List Entry
with_added t command statement [] = []
with_added t command statement (entry ∷ older) =
    if is_step_of t entry then Ran (suc (line_of entry)) (session_of entry) command t statement ∷ entry ∷ older
    else entry ∷ with_added t command statement older

module _ (parameters : Parameters) where
  module _ (entries : List Entry) where
    -- by the refusal of the log, and by the check, which gives the statement that is put into the log
    abbrev pub rewritten : {A : Type 0} → Option Refusal → Result A Refusal → (A → List Entry) → Result (List Entry) Refusal
    rewritten refusal checked put = option_map_or Err refusal (result_map_both put (λ error. error) checked)

    abbrev pub steps_refusal : ℕ → Option Refusal
    steps_refusal t = if nat_le parameters.steps (statement_count t entries) then Some (E14 limit.Steps) else None

    -- the log with one change, or the first refusal; a statement that is dropped needs no check
    abbrev pub changed : LogChange → Result (List Entry) Refusal
    changed (y.drop t k) =
        rewritten (option_or (transaction_refusal t entries) (statement_refusal t k entries)) (Ok (tt {0}))
        (λ nothing. with_other t k dropped_command dropped_statement entries)
    changed (y.drop_all t) = rewritten (transaction_refusal t entries) (Ok (tt {0})) (λ nothing. map (dropped_of t) entries)
    changed (y.replace t k command) =
        rewritten (option_or (transaction_refusal t entries) (statement_refusal t k entries)) (parameters.checked (tables_before t k entries) command)
        (λ statement. with_other t k (λ replaced. command) (λ replaced. statement) entries)
    changed (y.add t command) =
        rewritten (option_or (transaction_refusal t entries) (steps_refusal t)) (parameters.checked (tables_at_end t entries) command)
        (λ statement. with_added t command statement entries)

  -- with all changes from the left, each on the log that the one before left; the first refusal is that of all
  abbrev pub all_changed : Result (List Entry) Refusal → List LogChange → Result (List Entry) Refusal
  all_changed (Err refusal) changes = Err refusal
  all_changed (Ok entries) [] = Ok entries
  all_changed (Ok entries) (change ∷ changes) = all_changed (changed entries change) changes

-- ---- the changed log

-- with line numbers so many times as great, there are lines behind each
abbrev pub spread : ℕ → Entry → Entry
spread times (Created line session table) = Created (line * times) session table
spread times (Began line session t level) = Began (line * times) session t level
spread times (Ran line session command t statement) = Ran (line * times) session command t statement
spread times (Committed line session t) = Committed (line * times) session t
spread times (Ended line session end t) = Ended (line * times) session end t

abbrev pub adds : LogChange → Bool
adds (y.add t command) = true
adds change = false

-- a line for each statement that is added, and the one before it
abbrev pub lines_for : List LogChange → ℕ
lines_for changes = suc (length (filter adds changes))

abbrev pub changed_log : Parameters → List Entry → List LogChange → Result (List Entry) Refusal
changed_log parameters entries changes = all_changed parameters (Ok (map (spread (lines_for changes)) entries)) changes
