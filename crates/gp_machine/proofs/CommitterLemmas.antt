-- A transaction makes one version at most, and the rows of a version were made by transactions that committed by then.
use Rattle.gp_machine.proofs.Prelude.{◌≡◌, ◌≢◌, ℕ, suc, ◌<◌, ◌≤◌, Bool, true, false, cond, List, [], ◌∷◌, refl, sym, ap, ◌∙◌, subst, arith, Option, Some, None, ⊎_elim, AllByRecursion, cases_lt, Statement, Annotated, Annotations, identity_transaction, Refusal, Table, Command, Action, Begin, Commit, Create, Rollback, Run, action_of, answered, Conflict, Committed, Entry, committer_of, log_of, statements_in, transactions_in, version_of, versions_in, Line, after, beginning, committing, conflict_of, count_refusal, creating, creation_refusal, event, is_full, ran, refusal_of, running, start_now, Parameters, IsReached, Active, State, start, eq_itself, eq_not}
use Rattle.std.specs.Prelude.{nat_le, Result, Ok, Err}
use Rattle.gp_machine.proofs.CommitLemmas.{IsMadeBy, all_sound}
use Rattle.gp_machine.proofs.Distinct.{each_weaker}
use Rattle.gp_machine.proofs.ReachedLemmas.{all_reached, event_reached, start_reached}
use Rattle.gp_machine.specs.Committers.{CommittedBy}
use Rattle.gp_machine.proofs.ActionLemmas.{event-answered}

-- each version is the one that its transaction made
abbrev pub CommitOnce : List Entry → Type 0
CommitOnce entries = (u : ℕ) → u < versions_in entries → version_of (committer_of (suc u) entries) entries ≡ Some (suc u)

-- the version of a transaction that has made none
commit_once : (line session t : ℕ) (entries : List Entry) → ((u : ℕ) → u < versions_in entries → committer_of (suc u) entries ≢ t) → CommitOnce entries → CommitOnce (Committed line session t ∷ entries)
commit_once line session t entries unfinished once u l =
    ⊎_elim
    (λ below.
    ap (λ c. version_of c (Committed line session t ∷ entries)) (maker_same below)
    ∙ ap (λ b. cond b (Some (suc (versions_in entries))) (version_of (committer_of (suc u) entries) entries)) (eq_not t (committer_of (suc u) entries) (λ is. unfinished u below (sym is)))
    ∙ once u below)
    (λ above.
    let is : u ≡ versions_in entries = omega arith in
    ap (λ c. version_of c (Committed line session t ∷ entries)) (maker_new is)
    ∙ ap (λ b. cond b (Some (suc (versions_in entries))) (version_of t entries)) (eq_itself t)
    ∙ ap (λ w. Some (suc w)) (sym is))
    (cases_lt u (versions_in entries))
  where
    maker_same : u < versions_in entries → committer_of (suc u) (Committed line session t ∷ entries) ≡ committer_of (suc u) entries
    maker_same below = ap (λ b. cond b t (committer_of (suc u) entries)) (eq_not (suc (versions_in entries)) (suc u) (λ is. omega arith))

    maker_new : u ≡ versions_in entries → committer_of (suc u) (Committed line session t ∷ entries) ≡ t
    maker_new is = ap (λ w. committer_of (suc w) (Committed line session t ∷ entries)) is ∙ ap (λ b. cond b t (committer_of (suc (versions_in entries)) entries)) (eq_itself (suc (versions_in entries)))

module _ {M : Type 0} (domain : Annotations M) (parameters : Parameters) where
  event_once : (state : State M) (line session : ℕ) (command : Command) → IsReached domain parameters state → CommitOnce state.entries → CommitOnce (event domain parameters state line session command).0.entries
  event_once state line session command reached once =
      subst (λ outcome. CommitOnce outcome.0.entries) (sym (event-answered domain parameters state line session command)) (go (state.active session) refl (action_of command))
    where
      create_it : (table : Table) (refusal : Option Refusal) → CommitOnce (creating state line session table refusal).0.entries
      create_it table (Some refusal) = once
      create_it table None = once

      begin_it : (level full : Bool) → CommitOnce (beginning state line session level full).0.entries
      begin_it level true = once
      begin_it level false = once

      run_it : (active : Active M) (command : Command) (statement : Statement) (refusal : Option Refusal) → CommitOnce (ran domain state line session active command statement refusal).0.entries
      run_it active command statement (Some refusal) = once
      run_it active command statement None = once

      check_it : (active : Active M) (command : Command) (refusal : Option Refusal) (checked : Result Statement Refusal) → CommitOnce (running domain state line session active command parameters refusal checked).0.entries
      check_it active command (Some refusal) checked = once
      check_it active command None (Err refusal) = once
      check_it active command None (Ok statement) = run_it active command statement (refusal_of domain parameters state.catalogue active.transaction (suc active.statements) statement (start_now state active))

      end_it : (active : Active M) → state.active session ≡ Some active → (lost : Option Conflict) (full : Bool) → CommitOnce (committing state line session active lost full).0.entries
      end_it active e (Some conflict) full = once
      end_it active e None true = once
      end_it active e None false = commit_once line session active.transaction state.entries (reached.running session active e).unfinished once

      go : (active : Option (Active M)) → state.active session ≡ active → (action : Action) → CommitOnce (answered domain parameters state line session active action).0.entries
      go None e (Create table) = create_it table (creation_refusal parameters state.catalogue table)
      go None e (Begin level) = begin_it level (nat_le parameters.transactions (transactions_in state.entries))
      go None e (Run command) = once
      go None e Commit = once
      go None e Rollback = once
      go (Some active) e (Create table) = once
      go (Some active) e (Begin level) = once
      go (Some active) e (Run command) = check_it active command (count_refusal parameters active.statements (statements_in state.entries)) (parameters.checked state.catalogue command)
      go (Some active) e Commit = end_it active e (conflict_of state active) (is_full parameters state active)
      go (Some active) e Rollback = once

  once_from : (state : State M) (lines : List Line) → IsReached domain parameters state → CommitOnce state.entries → CommitOnce (after domain parameters state lines).entries
  once_from state [] reached once = once
  once_from state (line ∷ lines) reached once =
      once_from (event domain parameters state line.number line.session line.command).0 lines (event_reached domain parameters state line.number line.session line.command reached) (event_once state line.number line.session line.command reached once)

  -- whatever the lines
  pub all_once : (lines : List Line) → CommitOnce (after domain parameters start lines).entries
  all_once lines = once_from start lines (start_reached domain parameters) (λ u l. absurd (omega arith))

  pub rows_committed : (lines : List Line) (version table : ℕ) → version ≤ versions_in (after domain parameters start lines).entries
      → AllByRecursion (λ row. CommittedBy (after domain parameters start lines).entries version (identity_transaction row.identity)) ((after domain parameters start lines).committed version table)
  rows_committed lines version table l =
      let state = after domain parameters start lines in
      let reached = all_reached domain parameters lines in
      each_weaker _ _ (λ row m. by row m) (state.committed version table)
      (all_sound domain (log_of state.entries) state.committed state.written reached.history version l version (omega arith) table).makers
    where
      by : (row : Annotated M) → IsMadeBy (log_of (after domain parameters start lines).entries) version row.identity → CommittedBy (after domain parameters start lines).entries version (identity_transaction row.identity)
      by row (u, m, is) =
          let entries = (after domain parameters start lines).entries in
          let maker = (all_reached domain parameters lines).makers u (omega arith) in
          subst (CommittedBy entries version) (sym is) (record { number = maker.0; made = suc u; is = all_once lines u (omega arith); first = omega arith; last = omega arith })
