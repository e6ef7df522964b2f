-- A changed log keeps its sessions, and its statements fit.
use Rattle.gp_whatif.proofs.Prelude.{◌≡◌, ℕ, suc, ◌*◌, Bool, true, false, cond, List, [], ◌∷◌, ◌++◌, map, Some, None, refl, sym, ap, arith, ◌∙◌, ◌==◌, ◌&&◌, and_parts, eq-eqb, eqb-true, list_all, Table, Command, branches_fit, cond_fits, is_countable, is_there, row_fits, set_fits, statement_fits, width_of, Statement, insert, insert_select, update, delete, read, End, Entry, Created, Began, Ran, Committed, Ended, transactions_in, line_of, session_of, transaction_in, statements_fit, tables_in, KeepsSessions}
use Rattle.std.proofs.lemmas.Bool.{and_from}
use Rattle.gp_whatif.specs.Changed.{dropped_command, dropped_of, dropped_statement, is_at, is_step_of, nothing_at, spread, with_added, with_other}

-- ---- two logs with the same sessions and transactions

pub record SameSessions (old new : List Entry) : Type 0 where
  pub sessions : (session : ℕ) → transaction_in session new ≡ transaction_in session old
  pub transactions : transactions_in new ≡ transactions_in old
  pub tables : tables_in new ≡ tables_in old
  pub keeps : KeepsSessions old → KeepsSessions new

same_itself : (entries : List Entry) → SameSessions entries entries
same_itself entries = record { sessions = λ s. refl; transactions = refl; tables = refl; keeps = λ k. k }

-- with the same entry in front
created_same : (line number session : ℕ) (table : Table) (old new : List Entry) → SameSessions old new → SameSessions (Created line session table ∷ old) (Created number session table ∷ new)
created_same line number session table old new same = record {
  sessions = same.sessions;
  transactions = same.transactions;
  tables = ap (λ ts. ts ++ table ∷ []) same.tables;
  keeps = λ k. (same.sessions session ∙ k.0, same.keeps k.1);
}

began_same : (line number session t : ℕ) (level : Bool) (old new : List Entry) → SameSessions old new → SameSessions (Began line session t level ∷ old) (Began number session t level ∷ new)
began_same line number session t level old new same = record {
  sessions = λ s. ap (λ o. cond (s == session) (Some t) o) (same.sessions s);
  transactions = ap suc same.transactions;
  tables = same.tables;
  keeps = λ k. (k.0 ∙ ap suc (sym same.transactions), (same.sessions session ∙ k.1.0, same.keeps k.1.1));
}

ran_same : (line number session t : ℕ) (command other : Command) (statement now : Statement) (old new : List Entry) → SameSessions old new → SameSessions (Ran line session command t statement ∷ old) (Ran number session other t now ∷ new)
ran_same line number session t command other statement now old new same = record {
  sessions = same.sessions;
  transactions = same.transactions;
  tables = same.tables;
  keeps = λ k. (same.sessions session ∙ k.0, same.keeps k.1);
}

committed_same : (line number session t : ℕ) (old new : List Entry) → SameSessions old new → SameSessions (Committed line session t ∷ old) (Committed number session t ∷ new)
committed_same line number session t old new same = record {
  sessions = λ s. ap (λ o. cond (s == session) None o) (same.sessions s);
  transactions = same.transactions;
  tables = same.tables;
  keeps = λ k. (same.sessions session ∙ k.0, same.keeps k.1);
}

ended_same : (line number session t : ℕ) (end : End) (old new : List Entry) → SameSessions old new → SameSessions (Ended line session end t ∷ old) (Ended number session end t ∷ new)
ended_same line number session t end old new same = record {
  sessions = λ s. ap (λ o. cond (s == session) None o) (same.sessions s);
  transactions = same.transactions;
  tables = same.tables;
  keeps = λ k. (same.sessions session ∙ k.0, same.keeps k.1);
}

-- ---- other lines, and other statements

pub spread_same : (times : ℕ) (entries : List Entry) → SameSessions entries (map (spread times) entries)
spread_same times [] = same_itself []
spread_same times (Created line session table ∷ older) = created_same line (line * times) session table older (map (spread times) older) (spread_same times older)
spread_same times (Began line session t level ∷ older) = began_same line (line * times) session t level older (map (spread times) older) (spread_same times older)
spread_same times (Ran line session command t statement ∷ older) =
    ran_same line (line * times) session t command command statement statement older (map (spread times) older) (spread_same times older)
spread_same times (Committed line session t ∷ older) = committed_same line (line * times) session t older (map (spread times) older) (spread_same times older)
spread_same times (Ended line session end t ∷ older) = ended_same line (line * times) session t end older (map (spread times) older) (spread_same times older)

-- lines once as great are the lines
pub spread_once : (entries : List Entry) → map (spread 1) entries ≡ entries
spread_once [] = refl
spread_once (entry ∷ older) = (λ i. once entry i ∷ spread_once older i)
  where
    times_one : (n : ℕ) → n * 1 ≡ n
    times_one n = omega arith

    once : (entry : Entry) → spread 1 entry ≡ entry
    once (Created line session table) = ap (λ n. Created n session table) (times_one line)
    once (Began line session t level) = ap (λ n. Began n session t level) (times_one line)
    once (Ran line session command t statement) = ap (λ n. Ran n session command t statement) (times_one line)
    once (Committed line session t) = ap (λ n. Committed n session t) (times_one line)
    once (Ended line session end t) = ap (λ n. Ended n session end t) (times_one line)

pub all_dropped_same : (t : ℕ) (entries : List Entry) → SameSessions entries (map (dropped_of t) entries)
all_dropped_same t [] = same_itself []
all_dropped_same t (Created line session table ∷ older) = created_same line line session table older (map (dropped_of t) older) (all_dropped_same t older)
all_dropped_same t (Began line session u level ∷ older) = began_same line line session u level older (map (dropped_of t) older) (all_dropped_same t older)
all_dropped_same t (Ran line session own u now ∷ older) = by (u == t) (all_dropped_same t older)
  where
    by : (b : Bool) → SameSessions older (map (dropped_of t) older)
        → SameSessions (Ran line session own u now ∷ older) (cond b (Ran line session (dropped_command own) u (dropped_statement now)) (Ran line session own u now) ∷ map (dropped_of t) older)
    by true rest = ran_same line line session u own (dropped_command own) now (dropped_statement now) older (map (dropped_of t) older) rest
    by false rest = ran_same line line session u own own now now older (map (dropped_of t) older) rest
all_dropped_same t (Committed line session u ∷ older) = committed_same line line session u older (map (dropped_of t) older) (all_dropped_same t older)
all_dropped_same t (Ended line session end u ∷ older) = ended_same line line session u end older (map (dropped_of t) older) (all_dropped_same t older)

module _ (t k : ℕ) (command : Command → Command) (statement : Statement → Statement) where
  pub other_same : (entries : List Entry) → SameSessions entries (with_other t k command statement entries)
  other_same [] = same_itself []
  other_same (Created line session table ∷ older) = created_same line line session table older (with_other t k command statement older) (other_same older)
  other_same (Began line session u level ∷ older) = began_same line line session u level older (with_other t k command statement older) (other_same older)
  other_same (Ran line session own u now ∷ older) = by (is_at t k u older) (other_same older)
    where
      by : (b : Bool) → SameSessions older (with_other t k command statement older)
          → SameSessions (Ran line session own u now ∷ older) (cond b (Ran line session (command own) u (statement now) ∷ older) (Ran line session own u now ∷ with_other t k command statement older))
      by true rest = ran_same line line session u own (command own) now (statement now) older older (same_itself older)
      by false rest = ran_same line line session u own own now now older (with_other t k command statement older) rest
  other_same (Committed line session u ∷ older) = committed_same line line session u older (with_other t k command statement older) (other_same older)
  other_same (Ended line session end u ∷ older) = ended_same line line session u end older (with_other t k command statement older) (other_same older)

-- ---- one statement more

module _ (t : ℕ) (command : Command) (statement : Statement) where
  -- behind an entry of the transaction, its session has the transaction
  runs_on : (entry : Entry) (older : List Entry) → is_step_of t entry ≡ true → KeepsSessions (entry ∷ older) → transaction_in (session_of entry) (entry ∷ older) ≡ Some t
  runs_on (Began line session u level) older is keeps = ap (λ b. cond b (Some u) (transaction_in session older)) (eq-eqb session session refl) ∙ ap Some (eqb-true u t is)
  runs_on (Ran line session other u now) older is keeps = keeps.0 ∙ ap Some (eqb-true u t is)
  runs_on (Created line session table) older is keeps = absurd cc
  runs_on (Committed line session u) older is keeps = absurd cc
  runs_on (Ended line session end u) older is keeps = absurd cc

  entry_same : (entry : Entry) (old new : List Entry) → SameSessions old new → SameSessions (entry ∷ old) (entry ∷ new)
  entry_same (Created line session table) old new same = created_same line line session table old new same
  entry_same (Began line session u level) old new same = began_same line line session u level old new same
  entry_same (Ran line session other u now) old new same = ran_same line line session u other other now now old new same
  entry_same (Committed line session u) old new same = committed_same line line session u old new same
  entry_same (Ended line session end u) old new same = ended_same line line session u end old new same

  pub added_same : (entries : List Entry) → SameSessions entries (with_added t command statement entries)
  added_same [] = same_itself []
  added_same (entry ∷ older) = by (is_step_of t entry) refl (added_same older)
    where
      by : (b : Bool) → is_step_of t entry ≡ b → SameSessions older (with_added t command statement older)
          → SameSessions (entry ∷ older) (cond b (Ran (suc (line_of entry)) (session_of entry) command t statement ∷ entry ∷ older) (entry ∷ with_added t command statement older))
      by true is rest = record { sessions = λ s. refl; transactions = refl; tables = refl; keeps = λ k. (runs_on entry older is k, k) }
      by false is rest = entry_same entry older (with_added t command statement older) rest

-- ---- statements that fit

module _ (tables : List Table) where
  nothing_fits : (table : ℕ) → is_there tables table ≡ true → statement_fits tables (nothing_at table) ≡ true
  nothing_fits table there = rw there refl

  pub dropped_fits : (statement : Statement) → statement_fits tables statement ≡ true → statement_fits tables (dropped_statement statement) ≡ true
  dropped_fits (insert table rows) fits = nothing_fits table (and_parts (is_there tables table) (is_countable rows && list_all (row_fits (width_of tables table)) rows) fits).0
  dropped_fits (insert_select table select) fits = nothing_fits table (and_parts (is_there tables table) (branches_fit tables (width_of tables table) select) fits).0
  dropped_fits (update table sets c) fits = nothing_fits table (and_parts (is_there tables table) (list_all (set_fits (width_of tables table)) sets && cond_fits (width_of tables table) c) fits).0
  dropped_fits (delete table c) fits = nothing_fits table (and_parts (is_there tables table) (cond_fits (width_of tables table) c) fits).0
  dropped_fits (read select) fits = fits

  pub spread_fits : (times : ℕ) (entries : List Entry) → statements_fit tables entries ≡ true → statements_fit tables (map (spread times) entries) ≡ true
  spread_fits times [] fits = refl
  spread_fits times (Created line session table ∷ older) fits = spread_fits times older fits
  spread_fits times (Began line session t level ∷ older) fits = spread_fits times older fits
  spread_fits times (Ran line session command t statement ∷ older) fits =
      let parts = and_parts (statement_fits tables statement) (statements_fit tables older) fits in
      and_from (statement_fits tables statement) (statements_fit tables (map (spread times) older)) parts.0 (spread_fits times older parts.1)
  spread_fits times (Committed line session t ∷ older) fits = spread_fits times older fits
  spread_fits times (Ended line session end t ∷ older) fits = spread_fits times older fits

  pub all_dropped_fits : (t : ℕ) (entries : List Entry) → statements_fit tables entries ≡ true → statements_fit tables (map (dropped_of t) entries) ≡ true
  all_dropped_fits t [] fits = refl
  all_dropped_fits t (Created line session table ∷ older) fits = all_dropped_fits t older fits
  all_dropped_fits t (Began line session u level ∷ older) fits = all_dropped_fits t older fits
  all_dropped_fits t (Ran line session own u now ∷ older) fits = by (u == t) (all_dropped_fits t older parts.1)
    where
      parts : (statement_fits tables now ≡ true) × (statements_fit tables older ≡ true)
      parts = and_parts (statement_fits tables now) (statements_fit tables older) fits

      by : (b : Bool) → statements_fit tables (map (dropped_of t) older) ≡ true
          → statements_fit tables (cond b (Ran line session (dropped_command own) u (dropped_statement now)) (Ran line session own u now) ∷ map (dropped_of t) older) ≡ true
      by true rest = and_from (statement_fits tables (dropped_statement now)) (statements_fit tables (map (dropped_of t) older)) (dropped_fits now parts.0) rest
      by false rest = and_from (statement_fits tables now) (statements_fit tables (map (dropped_of t) older)) parts.0 rest
  all_dropped_fits t (Committed line session u ∷ older) fits = all_dropped_fits t older fits
  all_dropped_fits t (Ended line session end u ∷ older) fits = all_dropped_fits t older fits

  module _ (t k : ℕ) (command : Command → Command) (statement : Statement → Statement) (kept : (s : Statement) → statement_fits tables s ≡ true → statement_fits tables (statement s) ≡ true) where
    pub other_fits : (entries : List Entry) → statements_fit tables entries ≡ true → statements_fit tables (with_other t k command statement entries) ≡ true
    other_fits [] fits = refl
    other_fits (Created line session table ∷ older) fits = other_fits older fits
    other_fits (Began line session u level ∷ older) fits = other_fits older fits
    other_fits (Ran line session own u now ∷ older) fits = by (is_at t k u older) (other_fits older parts.1)
      where
        parts : (statement_fits tables now ≡ true) × (statements_fit tables older ≡ true)
        parts = and_parts (statement_fits tables now) (statements_fit tables older) fits

        by : (b : Bool) → statements_fit tables (with_other t k command statement older) ≡ true
            → statements_fit tables (cond b (Ran line session (command own) u (statement now) ∷ older) (Ran line session own u now ∷ with_other t k command statement older)) ≡ true
        by true rest = and_from (statement_fits tables (statement now)) (statements_fit tables older) (kept now parts.0) parts.1
        by false rest = and_from (statement_fits tables now) (statements_fit tables (with_other t k command statement older)) parts.0 rest
    other_fits (Committed line session u ∷ older) fits = other_fits older fits
    other_fits (Ended line session end u ∷ older) fits = other_fits older fits

  module _ (t : ℕ) (command : Command) (statement : Statement) (fit : statement_fits tables statement ≡ true) where
    front_fits : (entry : Entry) (old new : List Entry) → (statements_fit tables old ≡ true → statements_fit tables new ≡ true) → statements_fit tables (entry ∷ old) ≡ true → statements_fit tables (entry ∷ new) ≡ true
    front_fits (Created line session table) old new rest fits = rest fits
    front_fits (Began line session u level) old new rest fits = rest fits
    front_fits (Ran line session other u now) old new rest fits =
        let parts = and_parts (statement_fits tables now) (statements_fit tables old) fits in
        and_from (statement_fits tables now) (statements_fit tables new) parts.0 (rest parts.1)
    front_fits (Committed line session u) old new rest fits = rest fits
    front_fits (Ended line session end u) old new rest fits = rest fits

    pub added_fits : (entries : List Entry) → statements_fit tables entries ≡ true → statements_fit tables (with_added t command statement entries) ≡ true
    added_fits [] fits = refl
    added_fits (entry ∷ older) fits = by (is_step_of t entry) (added_fits older)
      where
        by : (b : Bool) → (statements_fit tables older ≡ true → statements_fit tables (with_added t command statement older) ≡ true)
            → statements_fit tables (cond b (Ran (suc (line_of entry)) (session_of entry) command t statement ∷ entry ∷ older) (entry ∷ with_added t command statement older)) ≡ true
        by true rest = and_from (statement_fits tables statement) (statements_fit tables (entry ∷ older)) fit fits
        by false rest = front_fits entry older (with_added t command statement older) rest fits
