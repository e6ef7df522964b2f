-- In every version of a history, and in all that its transactions read, rows fit the columns of their tables, and identities can be read from their
-- texts.
use Rattle.gp_dump.proofs.Prelude.{◌≡◌, ℕ, zero, suc, Bool, true, false, List, [], ◌∷◌, ◌++◌, Option, Some, None, Result, Ok, Err, slice_get, refl, subst, arith, ⊎_elim, filter, Annotations, Database, Refusal, Table, command_text, command_of, Command, Written, Statement, first_refusal, meant_statement, accepted, each_filter, each_weaker, counts_are_within, all_reached, allowed, Run, answered, is_written, Conflict, Lost, RolledBack, statements_in, transactions_in, versions_in, Line, after, beginning, committing, conflict_of, count_refusal, creating, creation_refusal, ended, is_full, published, ran, refusal_of, running, start_now, IsReached, Active, State, start, with_value, parameters, AreScriptLines, reads-parsed, each_append, each_map}
use Rattle.std.specs.Prelude.{nat_le, not, ◌==◌, if◌then◌else◌}
use Rattle.gp_grammar.specs.Syntax as y
use Rattle.gp_check.specs.Checking.{refused_by}
use Rattle.gp_machine.proofs.ReachedLemmas.{value_cases, within_limits}
use Rattle.gp_machine.specs.Bases.{pairs}
use Rattle.gp_machine.specs.Committed.{merged, next_version, unmarked}
use Rattle.gp_machine.specs.Entries.{End}
use Rattle.gp_machine.specs.Event.{doing, event, version_now}
use Rattle.gp_machine.specs.Reached.{CountsAreWithin}
use Rattle.gp_machine.specs.Reading.{Seen, started}
use Rattle.gp_dump.proofs.AlongLines.{along}
use Rattle.gp_dump.proofs.ReadCommands.{read_valid, read_within}
use Rattle.gp_dump.proofs.StepKinds.{AllFit, FitsRow, step_fits}

pub record Fitting {M : Type 0} (state : State M) : Type 0 where
  pub committed : (version : ℕ) → AllFit state.catalogue (state.committed version)
  pub views : (session : ℕ) (active : Active M) → state.active session ≡ Some active → AllFit state.catalogue active.seen.view

-- ---- one more table

slice_get_more : {X : Type 0} (xs : List X) (x y : X) (i : ℕ) → slice_get xs i ≡ Some y → slice_get (xs ++ x ∷ []) i ≡ Some y
slice_get_more [] x y i e = cc
slice_get_more (z ∷ xs) x y zero e = e
slice_get_more (z ∷ xs) x y (suc i) e = slice_get_more xs x y i e

all_more : {M : Type 0} (tables : List Table) (table : Table) (db : Database M) → AllFit tables db → AllFit (tables ++ table ∷ []) db
all_more tables table db fit place =
    each_weaker (FitsRow (tables ++ table ∷ []) place) (FitsRow tables place)
    (λ row f. record { table = f.table; there = slice_get_more tables table f.table place f.there; fits = f.fits; readable = f.readable }) (db place) (fit place)

-- ---- newer rows, and a commit

merged_fits : {M : Type 0} (tables : List Table) (db view : Database M) (written : List Written) → AllFit tables db → AllFit tables view → AllFit tables (merged db view written)
merged_fits tables db view written f g place =
    each_append _ (filter (λ row. not (is_written place row.identity written)) (db place)) (filter (λ row. is_written place row.identity written) (view place))
    (each_filter _ (FitsRow tables place) _ (λ row e r. r) (db place) (f place)) (each_filter _ (FitsRow tables place) _ (λ row e r. r) (view place) (g place))

committed_fits : {M : Type 0} (tables : List Table) (db view : Database M) (written : List Written) → AllFit tables db → AllFit tables view → AllFit tables (next_version db view written)
committed_fits tables db view written f g place = each_map _ (FitsRow tables place) unmarked (λ row r. r) (merged db view written place) (merged_fits tables db view written f g place)

-- what a statement reads
started_fits : {M : Type 0} (tables : List Table) (old new : ℕ) (now : Database M) (seen : Seen M) → AllFit tables now → AllFit tables seen.view → AllFit tables (started old new now seen)
started_fits tables old new now seen f g = by (new == old)
  where
    by : (b : Bool) → AllFit tables (if b then seen.view else merged now seen.view (pairs seen.written))
    by true = g
    by false = merged_fits tables now seen.view (pairs seen.written) f g

-- ---- lines

some_active : {M : Type 0} (a b : Active M) → Some a ≡ Some b → a ≡ b
some_active a b e = cc

none_active : {M : Type 0} (a : Active M) → None ≡ Some a → ⊥
none_active a e = cc

module _ {M : Type 0} (domain : Annotations M) (state : State M) (line session : ℕ) (reached : IsReached domain parameters state) (within : CountsAreWithin parameters state) (fitting : Fitting state) where
  -- the session has another view, or none
  views_with : (tables : List Table) (next : Option (Active M)) → ((active : Active M) → next ≡ Some active → AllFit tables active.seen.view) → ((s : ℕ) (active : Active M) → state.active s ≡ Some active → AllFit tables active.seen.view)
      → (s : ℕ) (active : Active M) → with_value session next state.active s ≡ Some active → AllFit tables active.seen.view
  views_with tables next f g s active e = ⊎_elim (λ here. f active here.1) (λ there. g s active there.1) (value_cases session next state.active s (Some active) e)

  create_it : (table : Table) (refusal : Option Refusal) → Fitting (creating state line session table refusal).0
  create_it table (Some refusal) = fitting
  create_it table None = record {
    committed = λ version. all_more state.catalogue table (state.committed version) (fitting.committed version);
    views = λ s active e. all_more state.catalogue table active.seen.view (fitting.views s active e);
  }

  begin_it : (read_committed full : Bool) → Fitting (beginning state line session read_committed full).0
  begin_it read_committed true = fitting
  begin_it read_committed false = record {
    committed = fitting.committed;
    views = views_with state.catalogue _ (λ active e. subst (λ (a : Active M). AllFit state.catalogue a.seen.view) (some_active _ active e) (fitting.committed (versions_in state.entries))) fitting.views;
  }

  end_it : (active : Active M) (end : End) → Fitting (ended state line session active end)
  end_it active end = record { committed = fitting.committed; views = views_with state.catalogue None (λ active e. absurd (none_active active e)) fitting.views }

  module _ (active : Active M) (e : state.active session ≡ Some active) where
    starts : AllFit state.catalogue (start_now state active)
    starts = started_fits state.catalogue active.version (version_now state active) (state.committed (version_now state active)) active.seen (fitting.committed (version_now state active)) (fitting.views session active e)

    run_it : (command : Command) → command_of (command_text command) ≡ Ok command → first_refusal state.catalogue command ≡ None → (refusal : Option Refusal)
        → refusal_of domain parameters state.catalogue active.transaction (suc active.statements) (meant_statement state.catalogue command) (start_now state active) ≡ refusal
        → Fitting (ran domain state line session active command (meant_statement state.catalogue command) refusal).0
    run_it command read none (Some refusal) f = fitting
    run_it command read none None f =
        let r = reached.running session active e in
        let positive = r.positive in
        let known = r.known in
        let few = within.transactions in
        let count = r.count in
        let steps = within.steps active.transaction in
        let nodes = (within_limits domain parameters state.catalogue active.transaction (suc active.statements) (meant_statement state.catalogue command) (start_now state active) f).nodes in
        record {
          committed = fitting.committed;
          views = views_with state.catalogue _
              (λ other is. subst (λ (a : Active M). AllFit state.catalogue a.seen.view) (some_active _ other is)
              (step_fits domain state.catalogue active.transaction (suc active.statements) command (start_now state active) (omega (arith, positive), omega (arith, known, few)) (omega arith, omega (arith, count, steps)) none
              (read_valid command read) (read_within command read) nodes starts))
              fitting.views;
        }

    check_it : (command : Command) → command_of (command_text command) ≡ Ok command → (refusal : Option Refusal) (checked : Result Statement Refusal) → refused_by (first_refusal state.catalogue command) (meant_statement state.catalogue command) ≡ checked
        → Fitting (running domain state line session active command parameters refusal checked).0
    check_it command read (Some refusal) checked is = fitting
    check_it command read None (Err refusal) is = fitting
    check_it command read None (Ok statement) is =
        let c = accepted (first_refusal state.catalogue command) (meant_statement state.catalogue command) statement is in
        subst (λ s. Fitting (ran domain state line session active command s (refusal_of domain parameters state.catalogue active.transaction (suc active.statements) s (start_now state active))).0) c.1
        (run_it command read c.0 (refusal_of domain parameters state.catalogue active.transaction (suc active.statements) (meant_statement state.catalogue command) (start_now state active)) refl)

    commit_it : (lost : Option Conflict) (full : Bool) → Fitting (committing state line session active lost full).0
    commit_it (Some conflict) full = end_it active Lost
    commit_it None true = fitting
    commit_it None false = record {
      committed = λ version. versions version;
      views = views_with state.catalogue None (λ active e. absurd (none_active active e)) fitting.views;
    }
      where
        new : AllFit state.catalogue (next_version (state.committed (versions_in state.entries)) active.seen.view (pairs active.seen.written))
        new = committed_fits state.catalogue (state.committed (versions_in state.entries)) active.seen.view (pairs active.seen.written) (fitting.committed (versions_in state.entries)) (fitting.views session active e)

        versions : (version : ℕ) → AllFit state.catalogue ((published state line session active).committed version)
        versions version =
            ⊎_elim (λ here. subst (AllFit state.catalogue) here.1 new) (λ there. subst (AllFit state.catalogue) there.1 (fitting.committed version))
            (value_cases (suc (versions_in state.entries)) (next_version (state.committed (versions_in state.entries)) active.seen.view (pairs active.seen.written)) state.committed version _ refl)

    checks : (command : Command) → command_of (command_text command) ≡ Ok command → Fitting (answered domain parameters state line session (Some active) (Run command)).0
    checks command read = check_it command read (count_refusal parameters active.statements (statements_in state.entries)) (parameters.checked state.catalogue command) refl

  outside : (command : Command) → Fitting (doing domain parameters state line session (allowed None command)).0
  outside (y.create table) = create_it table (creation_refusal parameters state.catalogue table)
  outside (y.begin read_committed) = begin_it read_committed (nat_le parameters.transactions (transactions_in state.entries))
  outside y.Command.commit = fitting
  outside y.rollback = fitting
  outside (y.insert table rows) = fitting
  outside (y.insert_select table query) = fitting
  outside (y.update table sets cond) = fitting
  outside (y.delete table cond) = fitting
  outside (y.select query) = fitting

  inside : (active : Active M) → state.active session ≡ Some active → (command : Command) → command_of (command_text command) ≡ Ok command → Fitting (doing domain parameters state line session (allowed (Some active) command)).0
  inside active e (y.create table) read = fitting
  inside active e (y.begin read_committed) read = fitting
  inside active e y.Command.commit read = commit_it active e (conflict_of state active) (is_full parameters state active)
  inside active e y.rollback read = end_it active RolledBack
  inside active e (y.insert table rows) read = checks active e (y.insert table rows) read
  inside active e (y.insert_select table query) read = checks active e (y.insert_select table query) read
  inside active e (y.update table sets cond) read = checks active e (y.update table sets cond) read
  inside active e (y.delete table cond) read = checks active e (y.delete table cond) read
  inside active e (y.select query) read = checks active e (y.select query) read

  event_fits : (command : Command) → command_of (command_text command) ≡ Ok command → Fitting (event domain parameters state line session command).0
  event_fits command read = go (state.active session) refl
    where
      go : (active : Option (Active M)) → state.active session ≡ active → Fitting (doing domain parameters state line session (allowed active command)).0
      go None e = outside command
      go (Some active) e = inside active e command read

pub all_fitting : {M : Type 0} (domain : Annotations M) (lines : List Line) → AreScriptLines lines → Fitting (after domain parameters start lines)
all_fitting domain lines are =
    (along domain parameters (λ last state. Fitting state)
    (λ done last line is fitting. event_fits domain (after domain parameters start done) line.number line.session (all_reached domain parameters done) (counts_are_within domain parameters done) fitting line.command (reads-parsed (command_text line.command) line.command is.command)) lines are
    (record { committed = λ version place. tt; views = λ session active e. absurd (none_active active e) })).1
