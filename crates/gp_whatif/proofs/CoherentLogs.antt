-- A changed log is coherent if the log is, and so is the log of every history.
use Rattle.gp_whatif.proofs.Prelude.{◌≡◌, ◌≤◌, ℕ, suc, Bool, true, false, cond, List, [], ◌∷◌, ◌++◌, length, map, Option, Some, None, refl, sym, ap, ◌∙◌, subst, arith, ◌==◌, Result, Ok, Err, option_or, and_parts, eqb-true, Refusal, Table, statement_fits, Statement, insert, insert_select, update, delete, read, Command, LogChange, Conflict, End, Entry, Created, Began, Ran, Committed, Ended, transactions_in, line_of, session_of, Line, after, Parameters, ChecksTargets, HasTarget, statement_refusal, transaction_refusal, Active, State, start, transaction_in, tables_in, statements_fit, KeepsSessions}
use Rattle.std.proofs.Common.{nat_le, length-append}
use Rattle.std.specs.Option.{option_map}
use Rattle.gp_base.specs.Annotated.{Annotations}
use Rattle.gp_grammar.specs.Syntax as y
use Rattle.gp_machine.specs.ActionForms.{Action, Begin, Commit, Create, Rollback, Run, action_of}
use Rattle.gp_machine.specs.ActionForms as a
use Rattle.gp_machine.proofs.ActionLemmas.{event-answered}
use Rattle.gp_machine.specs.Entries.{Lost, RolledBack, statements_in}
use Rattle.gp_machine.specs.Event as e
use Rattle.gp_machine.specs.Event.{conflict_of, count_refusal, creation_refusal, is_full, line_event, refusal_of, start_now}
use Rattle.gp_whatif.specs.Changed.{changed, changed_log, dropped_command, dropped_of, dropped_statement, is_at, is_step_of, lines_for, spread, steps_refusal, tables_at_end, tables_before, with_added, with_other}
use Rattle.gp_whatif.specs.Replays.{IsCoherent, IsReplayable, WritesTables}
use Rattle.gp_whatif.proofs.ChangedLemmas.{SameSessions, added_same, all_dropped_same, other_same, spread_same}
use Rattle.gp_whatif.proofs.FittingLogs.{fits_target}
use Rattle.gp_whatif.proofs.FittingMore.{Extends, before_first, end_first}
use Rattle.gp_whatif.proofs.ReplayableLemmas.{all_keep, put}

-- ---- tables that are there

fits_tables : (tables : List Table) (entries : List Entry) → statements_fit tables entries ≡ true → WritesTables (length tables) entries
fits_tables tables [] fits = tt
fits_tables tables (Created line session table ∷ older) fits = fits_tables tables older fits
fits_tables tables (Began line session t level ∷ older) fits = fits_tables tables older fits
fits_tables tables (Ran line session command t statement ∷ older) fits =
    let parts = and_parts (statement_fits tables statement) (statements_fit tables older) fits in
    (fits_target tables statement parts.0, fits_tables tables older parts.1)
fits_tables tables (Committed line session t ∷ older) fits = fits_tables tables older fits
fits_tables tables (Ended line session end t ∷ older) fits = fits_tables tables older fits

pub replayable_coherent : (entries : List Entry) → IsReplayable entries → IsCoherent entries
replayable_coherent entries is = record { sessions = is.sessions; tables = fits_tables (tables_in entries) entries is.fits }

-- among more tables
module _ (few many : ℕ) (less : few ≤ many) where
  more_target : (statement : Statement) → HasTarget few statement → HasTarget many statement
  more_target (insert table rows) there = omega (arith, less, there)
  more_target (insert_select table select) there = omega (arith, less, there)
  more_target (update table sets c) there = omega (arith, less, there)
  more_target (delete table c) there = omega (arith, less, there)
  more_target (read select) there = tt

  more_tables : (entries : List Entry) → WritesTables few entries → WritesTables many entries
  more_tables [] writes = tt
  more_tables (Created line session table ∷ older) writes = more_tables older writes
  more_tables (Began line session t level ∷ older) writes = more_tables older writes
  more_tables (Ran line session command t statement ∷ older) writes = (more_target statement writes.0, more_tables older writes.1)
  more_tables (Committed line session t ∷ older) writes = more_tables older writes
  more_tables (Ended line session end t ∷ older) writes = more_tables older writes

-- ---- changed logs

module _ (tables : ℕ) where
  dropped_target : (statement : Statement) → HasTarget tables statement → HasTarget tables (dropped_statement statement)
  dropped_target (insert table rows) there = tt
  dropped_target (insert_select table select) there = tt
  dropped_target (update table sets c) there = tt
  dropped_target (delete table c) there = tt
  dropped_target (read select) there = tt

  spread_tables : (times : ℕ) (entries : List Entry) → WritesTables tables entries → WritesTables tables (map (spread times) entries)
  spread_tables times [] writes = tt
  spread_tables times (Created line session table ∷ older) writes = spread_tables times older writes
  spread_tables times (Began line session t level ∷ older) writes = spread_tables times older writes
  spread_tables times (Ran line session command t statement ∷ older) writes = (writes.0, spread_tables times older writes.1)
  spread_tables times (Committed line session t ∷ older) writes = spread_tables times older writes
  spread_tables times (Ended line session end t ∷ older) writes = spread_tables times older writes

  all_dropped_tables : (t : ℕ) (entries : List Entry) → WritesTables tables entries → WritesTables tables (map (dropped_of t) entries)
  all_dropped_tables t [] writes = tt
  all_dropped_tables t (Created line session table ∷ older) writes = all_dropped_tables t older writes
  all_dropped_tables t (Began line session u level ∷ older) writes = all_dropped_tables t older writes
  all_dropped_tables t (Ran line session own u now ∷ older) writes = by (u == t) (all_dropped_tables t older writes.1)
    where
      by : (b : Bool) → WritesTables tables (map (dropped_of t) older)
          → WritesTables tables (cond b (Ran line session (dropped_command own) u (dropped_statement now)) (Ran line session own u now) ∷ map (dropped_of t) older)
      by true rest = (dropped_target now writes.0, rest)
      by false rest = (writes.0, rest)
  all_dropped_tables t (Committed line session u ∷ older) writes = all_dropped_tables t older writes
  all_dropped_tables t (Ended line session end u ∷ older) writes = all_dropped_tables t older writes

  module _ (t k : ℕ) (command : Command → Command) (statement : Statement → Statement) (kept : (s : Statement) → HasTarget tables s → HasTarget tables (statement s)) where
    other_tables : (entries : List Entry) → WritesTables tables entries → WritesTables tables (with_other t k command statement entries)
    other_tables [] writes = tt
    other_tables (Created line session table ∷ older) writes = other_tables older writes
    other_tables (Began line session u level ∷ older) writes = other_tables older writes
    other_tables (Ran line session own u now ∷ older) writes = by (is_at t k u older) (other_tables older writes.1)
      where
        by : (b : Bool) → WritesTables tables (with_other t k command statement older)
            → WritesTables tables (cond b (Ran line session (command own) u (statement now) ∷ older) (Ran line session own u now ∷ with_other t k command statement older))
        by true rest = (kept now writes.0, writes.1)
        by false rest = (writes.0, rest)
    other_tables (Committed line session u ∷ older) writes = other_tables older writes
    other_tables (Ended line session end u ∷ older) writes = other_tables older writes

  module _ (t : ℕ) (command : Command) (statement : Statement) (there : HasTarget tables statement) where
    front_tables : (entry : Entry) (old new : List Entry) → (WritesTables tables old → WritesTables tables new) → WritesTables tables (entry ∷ old) → WritesTables tables (entry ∷ new)
    front_tables (Created line session table) old new rest writes = rest writes
    front_tables (Began line session u level) old new rest writes = rest writes
    front_tables (Ran line session other u now) old new rest writes = (writes.0, rest writes.1)
    front_tables (Committed line session u) old new rest writes = rest writes
    front_tables (Ended line session end u) old new rest writes = rest writes

    added_tables : (entries : List Entry) → WritesTables tables entries → WritesTables tables (with_added t command statement entries)
    added_tables [] writes = tt
    added_tables (entry ∷ older) writes = by (is_step_of t entry) (added_tables older)
      where
        by : (b : Bool) → (WritesTables tables older → WritesTables tables (with_added t command statement older))
            → WritesTables tables (cond b (Ran (suc (line_of entry)) (session_of entry) command t statement ∷ entry ∷ older) (entry ∷ with_added t command statement older))
        by true rest = (there, writes)
        by false rest = front_tables entry older (with_added t command statement older) rest writes

longer : (front whole : List Table) → Extends front whole → length front ≤ length whole
longer front whole extends = let more = length-append front extends.0 in let same = ap (λ (tables : List Table). length tables) extends.1 in omega (arith, more, same)

-- a log with the same sessions, whose statements write the same tables
coherent : (old new : List Entry) → SameSessions old new → WritesTables (length (tables_in old)) new → IsCoherent old → IsCoherent new
coherent old new same writes is = record {
  sessions = same.keeps is.sessions;
  tables = subst (λ (tables : List Table). WritesTables (length tables) new) (sym same.tables) writes;
}

module _ (parameters : Parameters) (checks : ChecksTargets parameters) where
  module _ (entries new : List Entry) (is : IsCoherent entries) where
    abbrev tables : ℕ
    tables = length (tables_in entries)

    spread_coherent : (times : ℕ) → IsCoherent (map (spread times) entries)
    spread_coherent times = coherent entries (map (spread times) entries) (spread_same times entries) (spread_tables tables times entries is.tables) is

    other_coherent : (t k : ℕ) (command : Command → Command) (statement : Statement → Statement) → ((s : Statement) → HasTarget tables s → HasTarget tables (statement s))
        → IsCoherent (with_other t k command statement entries)
    other_coherent t k command statement kept =
        coherent entries (with_other t k command statement entries) (other_same t k command statement entries) (other_tables tables t k command statement kept entries is.tables) is

    all_dropped_coherent : (t : ℕ) → IsCoherent (map (dropped_of t) entries)
    all_dropped_coherent t = coherent entries (map (dropped_of t) entries) (all_dropped_same t entries) (all_dropped_tables tables t entries is.tables) is

    added_coherent : (t : ℕ) (command : Command) (statement : Statement) → HasTarget tables statement → IsCoherent (with_added t command statement entries)
    added_coherent t command statement there =
        coherent entries (with_added t command statement entries) (added_same t command statement entries) (added_tables tables t command statement there entries is.tables) is

    -- what the check passes on the first tables
    checked_target : (front : List Table) (command : Command) (statement : Statement) → Extends front (tables_in entries) → parameters.checked front command ≡ Ok statement → HasTarget tables statement
    checked_target front command statement extends checked =
        more_target (length front) tables (longer front (tables_in entries) extends) statement (checks front command statement checked)

    change_coherent : (change : LogChange) → changed parameters entries change ≡ Ok new → IsCoherent new
    change_coherent (y.drop t k) e =
        put parameters entries new IsCoherent (option_or (transaction_refusal t entries) (statement_refusal t k entries)) (Ok (tt {0}))
        (λ nothing. with_other t k dropped_command dropped_statement entries) e
        (λ nothing checked. other_coherent t k dropped_command dropped_statement (dropped_target tables))
    change_coherent (y.drop_all t) e =
        put parameters entries new IsCoherent (transaction_refusal t entries) (Ok (tt {0})) (λ nothing. map (dropped_of t) entries) e (λ nothing checked. all_dropped_coherent t)
    change_coherent (y.replace t k command) e =
        put parameters entries new IsCoherent (option_or (transaction_refusal t entries) (statement_refusal t k entries)) (parameters.checked (tables_before t k entries) command)
        (λ statement. with_other t k (λ own. command) (λ own. statement) entries) e
        (λ statement checked. other_coherent t k (λ own. command) (λ own. statement) (λ own there. checked_target (tables_before t k entries) command statement (before_first t k entries) checked))
    change_coherent (y.add t command) e =
        put parameters entries new IsCoherent (option_or (transaction_refusal t entries) (steps_refusal parameters entries t)) (parameters.checked (tables_at_end t entries) command)
        (λ statement. with_added t command statement entries) e
        (λ statement checked. added_coherent t command statement (checked_target (tables_at_end t entries) command statement (end_first t entries) checked))

  pub changes_coherent : (entries new : List Entry) (changes : List LogChange) → IsCoherent entries → changed_log parameters entries changes ≡ Ok new → IsCoherent new
  changes_coherent entries new changes is e =
      all_keep parameters IsCoherent (λ old made change holds made_is. change_coherent old made holds change made_is) changes (map (spread (lines_for changes)) entries) new
      (spread_coherent entries new is (lines_for changes)) e

-- ---- histories

abbrev transaction_of : {M : Type 0} → Option (Active M) → Option ℕ
transaction_of {M = M} active = option_map (λ (active : Active M). active.transaction) active

-- the log of a state has its tables, and the transactions of its sessions
record HasLog {M : Type 0} (state : State M) : Type 0 where
  pub catalogue : tables_in state.entries ≡ state.catalogue
  pub sessions : KeepsSessions state.entries
  pub active : (session : ℕ) → transaction_in session state.entries ≡ transaction_of (state.active session)
  pub tables : WritesTables (length state.catalogue) state.entries

module _ {M : Type 0} (domain : Annotations M) (parameters : Parameters) (checks : ChecksTargets parameters) where
  module _ (state : State M) (line session : ℕ) (has : HasLog state) where
    -- a session whose transaction is another one now
    left : (now : Option ℕ) (active : Option (Active M)) → now ≡ transaction_of active → (s : ℕ)
        → cond (s == session) now (transaction_in s state.entries) ≡ transaction_of (cond (s == session) active (state.active s))
    left now active same s =
        elim (s == session) as (λ b. cond b now (transaction_in s state.entries) ≡ transaction_of (cond b active (state.active s))) [ true ↦ same | false ↦ has.active s ]

    creating : (table : Table) (refusal : Option Refusal) → state.active session ≡ None → HasLog (e.creating state line session table refusal).0
    creating table (Some refusal) free = has
    creating table None free = record {
      catalogue = ap (λ tables. tables ++ table ∷ []) has.catalogue;
      sessions = (has.active session ∙ ap transaction_of free, has.sessions);
      active = has.active;
      tables = let more = length-append state.catalogue (table ∷ []) in
          more_tables (length state.catalogue) (length (state.catalogue ++ table ∷ [])) (omega (arith, more)) state.entries has.tables;
    }

    beginning : (read_committed full : Bool) → state.active session ≡ None → HasLog (e.beginning state line session read_committed full).0
    beginning read_committed true free = has
    beginning read_committed false free = record {
      catalogue = has.catalogue;
      sessions = (refl, (has.active session ∙ ap transaction_of free, has.sessions));
      active = left (Some (suc (transactions_in state.entries))) _ refl;
      tables = has.tables;
    }

    module _ (active : Active M) (runs : state.active session ≡ Some active) where
      own : transaction_in session state.entries ≡ Some active.transaction
      own = has.active session ∙ ap transaction_of runs

      ended : (end : End) → HasLog (e.ended state line session active end)
      ended end = record { catalogue = has.catalogue; sessions = (own, has.sessions); active = left None None refl; tables = has.tables }

      committing : (conflict : Option Conflict) (full : Bool) → HasLog (e.committing state line session active conflict full).0
      committing (Some conflict) full = ended Lost
      committing None true = has
      committing None false = record { catalogue = has.catalogue; sessions = (own, has.sessions); active = left None None refl; tables = has.tables }

      -- a statement changes the transaction of no session
      stayed : (next : Active M) → next.transaction ≡ active.transaction → (s : ℕ) → transaction_in s state.entries ≡ transaction_of (cond (s == session) (Some next) (state.active s))
      stayed next same s =
          (elim (s == session) as (λ b. (s == session) ≡ b → transaction_in s state.entries ≡ transaction_of (cond b (Some next) (state.active s))) [
            | true ↦ λ is. ap (λ n. transaction_in n state.entries) (eqb-true s session is) ∙ own ∙ ap Some (sym same)
            | false ↦ λ is. has.active s
          ]) refl

      ran : (command : Command) (statement : Statement) → HasTarget (length state.catalogue) statement → (refusal : Option Refusal) → HasLog (e.ran domain state line session active command statement refusal).0
      ran command statement there (Some refusal) = has
      ran command statement there None = record {
        catalogue = has.catalogue;
        sessions = (own, has.sessions);
        active = stayed _ refl;
        tables = (there, has.tables);
      }

      running : (command : Command) (refusal : Option Refusal) (checked : Result Statement Refusal) → parameters.checked state.catalogue command ≡ checked
          → HasLog (e.running domain state line session active command parameters refusal checked).0
      running command (Some refusal) checked is = has
      running command None (Err refusal) is = has
      running command None (Ok statement) is =
          ran command statement (checks state.catalogue command statement is)
          (refusal_of domain parameters state.catalogue active.transaction (suc active.statements) statement (start_now state active))

    answered : (active : Option (Active M)) → state.active session ≡ active → (action : Action) → HasLog (a.answered domain parameters state line session active action).0
    answered None free (Create table) = creating table (creation_refusal parameters state.catalogue table) free
    answered None free (Begin read_committed) = beginning read_committed (nat_le parameters.transactions (transactions_in state.entries)) free
    answered None free Commit = has
    answered None free Rollback = has
    answered None free (Run command) = has
    answered (Some active) runs (Create table) = has
    answered (Some active) runs (Begin read_committed) = has
    answered (Some active) runs Commit = committing active runs (conflict_of state active) (is_full parameters state active)
    answered (Some active) runs Rollback = ended active runs RolledBack
    answered (Some active) runs (Run command) =
        running active runs command (count_refusal parameters active.statements (statements_in state.entries)) (parameters.checked state.catalogue command) refl

  logged : (state : State M) (lines : List Line) → HasLog state → HasLog (after domain parameters state lines)
  logged state [] has = has
  logged state (line ∷ lines) has =
      logged (line_event domain parameters state line).0 lines
      (subst (λ outcome. HasLog outcome.0) (sym (event-answered domain parameters state line.number line.session line.command))
      (answered state line.number line.session has (state.active line.session) refl (action_of line.command)))

  pub history_coherent : (lines : List Line) → IsCoherent (after domain parameters start lines).entries
  history_coherent lines =
      let has : HasLog (after domain parameters start lines) = logged start lines (record { catalogue = refl; sessions = tt; active = λ session. refl; tables = tt }) in
      record {
        sessions = has.sessions;
        tables = subst (λ (tables : List Table). WritesTables (length tables) (after domain parameters start lines).entries) (sym has.catalogue) has.tables;
      }
