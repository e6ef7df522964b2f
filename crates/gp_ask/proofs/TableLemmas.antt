-- The tables of a reached state are those that its log created.
use Rattle.std.proofs.Common.{◌≡◌, ℕ, Bool, true, false, List, [], ◌∷◌, ◌++◌, Option, Some, None, Result, Ok, Err, ap, subst, sym}
use Rattle.gp_base.specs.declared.refusal.Refusal.{Refusal}
use Rattle.gp_base.specs.declared.table.Table.{Table}
use Rattle.gp_base.specs.Annotated.{Annotations}
use Rattle.gp_grammar.specs.Syntax.{Command}
use Rattle.gp_algebra.specs.Statements.{Statement}
use Rattle.gp_log.specs.LogFacts.{tables_in}
use Rattle.gp_machine.proofs.ActionLemmas.{event-answered}
use Rattle.gp_machine.specs.ActionForms as a
use Rattle.gp_machine.specs.ActionForms.{Action, Begin, Commit, Create, Rollback, Run, action_of}
use Rattle.gp_machine.specs.Conflicts.{Conflict}
use Rattle.gp_machine.specs.Event as e
use Rattle.gp_machine.specs.Event.{Line, after, conflict_of, count_refusal, creation_refusal, is_full, line_event, refusal_of, start_now}
use Rattle.gp_machine.specs.Entries.{statements_in, transactions_in}
use Rattle.gp_machine.specs.Parameters.{Parameters}
use Rattle.gp_machine.specs.State.{Active, State}
use Rattle.std.proofs.Common.{nat_le, suc}

abbrev HasTables : {M : Type 0} → State M → Type 0
HasTables state = tables_in state.entries ≡ state.catalogue

module _ {M : Type 0} (domain : Annotations M) (parameters : Parameters) (state : State M) (line session : ℕ) (same : HasTables state) where
  creating : (table : Table) (refusal : Option Refusal) → HasTables (e.creating state line session table refusal).0
  creating table None = ap (λ tables. tables ++ table ∷ []) same
  creating table (Some refusal) = same

  beginning : (read_committed full : Bool) → HasTables (e.beginning state line session read_committed full).0
  beginning read_committed true = same
  beginning read_committed false = same

  committing : (active : Active M) (conflict : Option Conflict) (full : Bool) → HasTables (e.committing state line session active conflict full).0
  committing active None true = same
  committing active None false = same
  committing active (Some conflict) full = same

  ran : (active : Active M) (command : Command) (statement : Statement) (refusal : Option Refusal) → HasTables (e.ran domain state line session active command statement refusal).0
  ran active command statement None = same
  ran active command statement (Some refusal) = same

  running : (active : Active M) (command : Command) (refusal : Option Refusal) (checked : Result Statement Refusal)
      → HasTables (e.running domain state line session active command parameters refusal checked).0
  running active command None (Ok statement) =
      ran active command statement (refusal_of domain parameters state.catalogue active.transaction (suc active.statements) statement (start_now state active))
  running active command None (Err refusal) = same
  running active command (Some refusal) checked = same

  answered : (active : Option (Active M)) (action : Action) → HasTables (a.answered domain parameters state line session active action).0
  answered None (Create table) = creating table (creation_refusal parameters state.catalogue table)
  answered None (Begin read_committed) = beginning read_committed (nat_le parameters.transactions (transactions_in state.entries))
  answered None Commit = same
  answered None Rollback = same
  answered None (Run command) = same
  answered (Some active) (Create table) = same
  answered (Some active) (Begin read_committed) = same
  answered (Some active) Commit = committing active (conflict_of state active) (is_full parameters state active)
  answered (Some active) Rollback = same
  answered (Some active) (Run command) =
      running active command (count_refusal parameters active.statements (statements_in state.entries)) (parameters.checked state.catalogue command)

pub tables-kept : {M : Type 0} (domain : Annotations M) (parameters : Parameters) (state : State M) (lines : List Line) → HasTables state → HasTables (after domain parameters state lines)
tables-kept domain parameters state [] same = same
tables-kept domain parameters state (line ∷ lines) same =
    tables-kept domain parameters (line_event domain parameters state line).0 lines
    (subst (λ outcome. HasTables outcome.0) (sym (event-answered domain parameters state line.number line.session line.command))
    (answered domain parameters state line.number line.session same (state.active line.session) (action_of line.command)))
