-- A log that keeps the rules of its entries keeps its sessions.
use Rattle.std.proofs.Common.{◌≡◌, ℕ, suc, Bool, true, false, cond, List, [], ◌∷◌, Option, Some, None, refl, ap, subst}
use Rattle.std.specs.Option.{ok_or, option_map}
use Rattle.std.specs.Prelude.{nat_le, length, Result, Ok, Err}
use Rattle.gp_base.specs.declared.refusal.Refusal.{Refusal}
use Rattle.gp_base.specs.declared.table.Table.{Table}
use Rattle.gp_grammar.specs.Syntax as y
use Rattle.gp_grammar.specs.Syntax.{Command}
use Rattle.gp_algebra.specs.Statements.{Statement}
use Rattle.gp_machine.proofs.ActionLemmas.{allowed-is}
use Rattle.gp_machine.specs.Actions.{allowed}
use Rattle.gp_machine.specs.ActionForms.{Action, Begin, Commit, Create, Rollback, Run, action_of, allowed_to}
use Rattle.gp_machine.specs.Entries.{Entry, RolledBack, Lost, Created, Began, Ran, Committed, Ended, statement_count, statements_in, transactions_in}
use Rattle.gp_machine.specs.Event.{count_refusal}
use Rattle.gp_machine.specs.Parameters.{Parameters}
use Rattle.gp_log.specs.Discipline.{Flaw, Disorder, Unchecked, IsNext, creation_entry, command_entry, statement_entry, transaction_in}
use Rattle.gp_log.specs.WholeLogs.{IsLog}
use Rattle.gp_log.specs.LogFacts.{tables_in}
use Rattle.gp_log.specs.Sessions.{KeepsSessions}

abbrev refused : Flaw → Result Entry Flaw
refused flaw = Err flaw

abbrev accepted : Entry → Result Entry Flaw
accepted entry = Ok entry

refused_accepted : (flaw : Flaw) (entry : Entry) → refused flaw ≡ accepted entry → ⊥
refused_accepted flaw entry e = cc

module _ (parameters : Parameters) where
  -- BEGIN has the next number
  begun_is : (older : List Entry) (line session t : ℕ) (level : Bool) → IsNext parameters older (Began line session t level) → t ≡ suc (transactions_in older)
  begun_is older line session t level next = go (transaction_in session older) _ next.follows
    where
      same : (u : ℕ) (kind : Bool) → accepted (Began line session u kind) ≡ accepted (Began line session t level) → t ≡ u
      same u kind e = cc

      two : (b kind : Bool) → cond b (refused Disorder) (accepted (Began line session (suc (transactions_in older)) kind)) ≡ accepted (Began line session t level) → t ≡ suc (transactions_in older)
      two true kind e = absurd (refused_accepted Disorder (Began line session t level) e)
      two false kind e = same (suc (transactions_in older)) kind e

      go : (o : Option ℕ) (kind : Bool) → command_entry parameters older line session (allowed o (y.begin kind)) ≡ Ok (Began line session t level) → t ≡ suc (transactions_in older)
      go None kind e = two (nat_le parameters.transactions (transactions_in older)) kind e
      go (Some u) kind e = absurd (refused_accepted Disorder (Began line session t level) e)

  -- a statement is of the transaction of its session
  ran_is : (older : List Entry) (line session : ℕ) (command : Command) (t : ℕ) (statement : Statement) → IsNext parameters older (Ran line session command t statement) → transaction_in session older ≡ Some t
  ran_is older line session command t statement next =
      go (transaction_in session older) (action_of command)
      (subst (λ may. command_entry parameters older line session may ≡ Ok (Ran line session command t statement)) (allowed-is (transaction_in session older) command) next.follows)
    where
      created : (table : Table) (o : Option Refusal) → creation_entry parameters older line session table o ≡ accepted (Ran line session command t statement) → ⊥
      created table (Some refusal) e = cc
      created table None e = cc

      creates : (b : Bool) (table : Table) (o : Option Refusal) → cond b (refused Disorder) (creation_entry parameters older line session table o) ≡ accepted (Ran line session command t statement) → ⊥
      creates true table o e = cc
      creates false table o e = created table o e

      begins : (b : Bool) (u : ℕ) (level : Bool) → cond b (refused Disorder) (accepted (Began line session u level)) ≡ accepted (Ran line session command t statement) → ⊥
      begins true u level e = cc
      begins false u level e = cc

      runs : (u : ℕ) (other : Command) (o : Option Refusal) (r : Result Statement Refusal) → statement_entry parameters older line session u other o r ≡ accepted (Ran line session command t statement) → u ≡ t
      runs u other (Some refusal) r e = absurd (refused_accepted Disorder (Ran line session command t statement) e)
      runs u other None (Err refusal) e = absurd (refused_accepted Unchecked (Ran line session command t statement) e)
      runs u other None (Ok found) e = cc

      go : (o : Option ℕ) (a : Action) → command_entry parameters older line session (allowed_to o a) ≡ Ok (Ran line session command t statement) → o ≡ Some t
      go None (Create table) e = absurd (creates (nat_le parameters.tables (length (tables_in older))) table (parameters.created (tables_in older) table) e)
      go None (Begin level) e = absurd (begins (nat_le parameters.transactions (transactions_in older)) (suc (transactions_in older)) level e)
      go None Commit e = absurd (refused_accepted Disorder (Ran line session command t statement) e)
      go None Rollback e = absurd (refused_accepted Disorder (Ran line session command t statement) e)
      go None (Run other) e = absurd (refused_accepted Disorder (Ran line session command t statement) e)
      go (Some u) (Create table) e = absurd (refused_accepted Disorder (Ran line session command t statement) e)
      go (Some u) (Begin level) e = absurd (refused_accepted Disorder (Ran line session command t statement) e)
      go (Some u) Commit e = absurd (cc)
      go (Some u) Rollback e = absurd (cc)
      go (Some u) (Run other) e =
          ap Some (runs u other (count_refusal parameters (statement_count u older) (statements_in older)) (parameters.checked (tables_in older) other) e)

  -- a COMMIT is of the transaction of its session
  committed_is : (older : List Entry) (line session t : ℕ) → IsNext parameters older (Committed line session t) → transaction_in session older ≡ Some t
  committed_is older line session t next = go (transaction_in session older) next.follows
    where
      same : (u : ℕ) → accepted (Committed line session u) ≡ accepted (Committed line session t) → u ≡ t
      same u e = cc

      go : (o : Option ℕ) → command_entry parameters older line session (allowed o y.Command.commit) ≡ Ok (Committed line session t) → o ≡ Some t
      go None e = absurd (refused_accepted Disorder (Committed line session t) e)
      go (Some u) e = ap Some (same u e)

module _ (parameters : Parameters) (older : List Entry) (line session : ℕ) where
  -- CREATE TABLE
  created_free : (table : Table) (entry : Entry) (o : Option ℕ) → command_entry parameters older line session (allowed o (y.create table)) ≡ Ok entry → o ≡ None
  created_free table entry None e = refl
  created_free table entry (Some t) e = absurd cc

  -- BEGIN
  began_free : (level : Bool) (entry : Entry) (o : Option ℕ) → command_entry parameters older line session (allowed o (y.begin level)) ≡ Ok entry → o ≡ None
  began_free level entry None e = refl
  began_free level entry (Some u) e = absurd cc

  -- the end of a transaction
  rolled_in : (t : ℕ) (o : Option ℕ) → command_entry parameters older line session (allowed o y.rollback) ≡ Ok (Ended line session RolledBack t) → o ≡ Some t
  rolled_in t None e = absurd cc
  rolled_in t (Some u) e = ap Some (is e)
    where
      is : accepted (Ended line session RolledBack u) ≡ accepted (Ended line session RolledBack t) → u ≡ t
      is e = cc

  lost_in : (t : ℕ) (o : Option ℕ) → ok_or (option_map (Ended line session Lost) o) Disorder ≡ Ok (Ended line session Lost t) → o ≡ Some t
  lost_in t None e = absurd cc
  lost_in t (Some u) e = ap Some (is e)
    where
      is : accepted (Ended line session Lost u) ≡ accepted (Ended line session Lost t) → u ≡ t
      is e = cc

pub sessions_kept : (parameters : Parameters) (entries : List Entry) → IsLog parameters entries → KeepsSessions entries
sessions_kept parameters [] log = tt
sessions_kept parameters (Created line session table ∷ older) log = (created_free parameters older line session table _ (transaction_in session older) log.0.follows, sessions_kept parameters older log.1)
sessions_kept parameters (Began line session t level ∷ older) log =
    (begun_is parameters older line session t level log.0, (began_free parameters older line session level (Began line session t level) (transaction_in session older) log.0.follows, sessions_kept parameters older log.1))
sessions_kept parameters (Ran line session command t statement ∷ older) log = (ran_is parameters older line session command t statement log.0, sessions_kept parameters older log.1)
sessions_kept parameters (Committed line session t ∷ older) log = (committed_is parameters older line session t log.0, sessions_kept parameters older log.1)
sessions_kept parameters (Ended line session RolledBack t ∷ older) log = (rolled_in parameters older line session t (transaction_in session older) log.0.follows, sessions_kept parameters older log.1)
sessions_kept parameters (Ended line session Lost t ∷ older) log = (lost_in parameters older line session t (transaction_in session older) log.0.follows, sessions_kept parameters older log.1)
