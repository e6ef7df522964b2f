-- A statement of a log is what the check made of its command, over the tables before its line.
use Rattle.std.proofs.Common.{◌≡◌, ℕ, suc, Bool, true, false, List, length, Option, Some, None, if◌then◌else◌, Result, Ok, Err, refl, ap, subst}
use Rattle.std.specs.Prelude.{nat_le}
use Rattle.gp_base.specs.declared.refusal.Refusal.{Refusal}
use Rattle.gp_base.specs.declared.table.Table.{Table}
use Rattle.gp_grammar.specs.Syntax as y
use Rattle.gp_grammar.specs.Syntax.{Command, is_statement}
use Rattle.gp_algebra.specs.Statements.{Statement}
use Rattle.gp_check.specs.Checking.{checked}
use Rattle.gp_machine.specs.ActionForms.{Action, Begin, Commit, Create, Rollback, Run, action_of, allowed_to}
use Rattle.gp_machine.proofs.ActionLemmas.{allowed-is}
use Rattle.gp_machine.specs.Entries.{Began, Entry, Ran, statement_count, statements_in, transactions_in}
use Rattle.gp_machine.specs.Event.{count_refusal}
use Rattle.gp_log.specs.Discipline.{Disorder, Does, Flaw, creation_entry, command_entry, next_entry, statement_entry, transaction_in}
use Rattle.gp_log.specs.LogFacts.{tables_in}
use Rattle.gp_log.specs.Parameters.{parameters}

module _ (older : List Entry) (line session : ℕ) (command : Command) (t : ℕ) (statement : Statement) where
  abbrev Gives : Result Entry Flaw → Type 0
  Gives given = given ≡ Ok (Ran line session command t statement)

  abbrev WasRun : Action → Type 0
  WasRun done = (done ≡ Run command) × (checked (tables_in older) command ≡ Ok statement)

  run : (own : ℕ) (other : Command) (refusal : Option Refusal) (found : Result Statement Refusal)
      → Gives (statement_entry parameters older line session own other refusal found) → (other ≡ command) × (found ≡ Ok statement)
  run own other (Some refusal) found e = absurd cc
  run own other None (Err refusal) e = absurd cc
  run own other None (Ok given) e = (cc, cc)

  no_table : (full : Bool) (table : Table) (refusal : Option Refusal)
      → Gives (if full then Err Disorder else creation_entry parameters older line session table refusal) → ⊥
  no_table true table refusal e = cc
  no_table false table (Some refusal) e = cc
  no_table false table None e = cc

  no_begin : (full : Bool) (level : Bool) → Gives (if full then Err Disorder else Ok (Began line session (suc (transactions_in older)) level)) → ⊥
  no_begin true level e = cc
  no_begin false level e = cc

  was_run : (active : Option ℕ) (done : Action) → Gives (command_entry parameters older line session (allowed_to active done)) → WasRun done
  was_run None (Create table) e =
      absurd (no_table (nat_le parameters.tables (length (tables_in older))) table (parameters.created (tables_in older) table) e)
  was_run None (Begin level) e = absurd (no_begin (nat_le parameters.transactions (transactions_in older)) level e)
  was_run None Commit e = absurd cc
  was_run None Rollback e = absurd cc
  was_run None (Run other) e = absurd cc
  was_run (Some own) (Create table) e = absurd cc
  was_run (Some own) (Begin level) e = absurd cc
  was_run (Some own) Commit e = absurd cc
  was_run (Some own) Rollback e = absurd cc
  was_run (Some own) (Run other) e =
      let is = run own other (count_refusal parameters (statement_count own older) (statements_in older)) (checked (tables_in older) other) e in
      (ap Run is.0, subst (λ x. checked (tables_in older) x ≡ Ok statement) is.0 is.1)

  kind : (ran : Command) → action_of ran ≡ Run command → is_statement ran ≡ true
  kind (y.create table) e = absurd cc
  kind (y.begin level) e = absurd cc
  kind y.Command.commit e = absurd cc
  kind y.rollback e = absurd cc
  kind (y.insert table rows) e = refl
  kind (y.insert_select table query) e = refl
  kind (y.update table sets c) e = refl
  kind (y.Command.delete table c) e = refl
  kind (y.select query) e = refl

  pub was_checked : next_entry parameters older line session (Does command) ≡ Ok (Ran line session command t statement)
      → (is_statement command ≡ true) × (checked (tables_in older) command ≡ Ok statement)
  was_checked follows =
      let was = was_run (transaction_in session older) (action_of command) (subst (λ may. Gives (command_entry parameters older line session may)) (allowed-is (transaction_in session older) command) follows) in
      (kind command was.0, was.1)
