-- A changed log, made from the oldest entry on.
use Rattle.gp_whatif.proofs.Prelude.{◌≡◌, ◌≢◌, ℕ, suc, ◌+◌, ◌<◌, ◌≤◌, Bool, true, false, cond, List, [], ◌∷◌, ◌++◌, filter, length, map, take, drop, Some, None, refl, sym, ap, ◌∙◌, subst, arith, ◌&&◌, ◌==◌, slice_get, nat_lt, and_parts, false≢true, ne_eqb, eqb-true, nat_tests, append-nil, length-append, take_all, HaveDifferentNames, MAX_TABLES, Table, Statement, statement_view, Command, LogChange, statement_count, line_of, log-pushed, log-more, IsAddable, IsNumbered, tables_in, entry_view, log_view, what_view, What}
use Rattle.std.proofs.Common.{get_or}
use Rattle.std.specs.Str.{bytes_eq}
use Rattle.std.proofs.lemmas.List.{get_or_append_left, get_or_at}
use Rattle.std.proofs.lemmas.List.Elements.{filter-append}
use Rattle.std.proofs.lemmas.List.Sums.{position_or_len_is}
use Rattle.std.proofs.lemmas.Slice.Eq.{bytes_eq-Decides}
use Rattle.gp_base.specs.Catalogs.{place_of, table_names}
use Rattle.gp_syntax.specs.Views.{command_view}
use Rattle.gp_machine.specs.Entries as m
use Rattle.gp_log.proofs.FindingLemmas.{log-cut, count-least}
use Rattle.gp_log.specs.Finding.{is_numbered, is_own}
use Rattle.gp_log.specs.Kinds.{CreatesNew, HasNextNumber, created_by}
use Rattle.gp_log.specs.declared.limit.TheConstants.{MAX_LINE}
use Rattle.gp_log.specs.declared.entry.Entry.{Entry}
use Rattle.gp_log.specs.declared.entry.What.TheVariants as w
use Rattle.gp_whatif.specs.Changed.{adds, dropped_command, dropped_of, dropped_statement, is_at, spread, tables_before, with_other}
use Rattle.gp_whatif.specs.ChangedForms.{AreLines}
use Rattle.gp_whatif.specs.Changing.{Goes, Makes, Numbers, SameStep, Step, edited, step_of}
use Rattle.gp_whatif.proofs.ChangedLemmas.{SameSessions, other_same}
use Rattle.gp_base.proofs.SmallLemmas.{eq_itself}

-- ---- a log up to a place

-- the line of an entry is one of a script
pub line-is : (line session t : ℕ) (what : What) → line_of (what_view line session t what) ≡ line
line-is line session t (w.Create table) = refl
line-is line session t (w.Begin level) = refl
line-is line session t (w.Statement k command stmt) = refl
line-is line session t w.Commit = refl
line-is line session t w.Lost = refl
line-is line session t w.Rollback = refl

lines-behind : (newer older : List m.Entry) → AreLines (newer ++ older) → AreLines older
lines-behind [] older all = all
lines-behind (entry ∷ newer) older all = lines-behind newer older all.1

pub line-at : (entries : List Entry) (place : ℕ) (entry : Entry) → AreLines (log_view entries) → slice_get entries place ≡ Some entry → entry.line ≤ MAX_LINE
line-at entries place entry all is =
    subst (λ n. n ≤ MAX_LINE) (line-is entry.line entry.session entry.t entry.what)
    (lines-behind (log_view (drop (place + 1) entries)) (entry_view entry ∷ log_view (take place entries)) (subst AreLines (log-cut entries place entry is) all)).0

pub log-all : (entries : List Entry) (place : ℕ) → length entries ≤ place → log_view (take place entries) ≡ log_view entries
log-all entries place l = ap log_view (take_all place entries l)

-- ---- counts

module _ (t k : ℕ) (command : Command → Command) (statement : Statement → Statement) where
  abbrev others : List m.Entry → List m.Entry
  others entries = with_other t k command statement entries

  pub count_other : (v : ℕ) (entries : List m.Entry) → statement_count v (others entries) ≡ statement_count v entries
  count_other v [] = refl
  count_other v (m.Created line session table ∷ older) = count_other v older
  count_other v (m.Began line session u level ∷ older) = count_other v older
  count_other v (m.Ran line session own u now ∷ older) =
      (elim (is_at t k u older) as (λ b. statement_count v (others older) ≡ statement_count v older
      → statement_count v (cond b (m.Ran line session (command own) u (statement now) ∷ older) (m.Ran line session own u now ∷ others older)) ≡ cond (u == v) (suc (statement_count v older)) (statement_count v older)) [
        | true ↦ λ same. refl
        | false ↦ λ same. ap (λ n. cond (u == v) (suc n) n) same
      ]) (count_other v older)
  count_other v (m.Committed line session u ∷ older) = count_other v older
  count_other v (m.Ended line session end u ∷ older) = count_other v older

  -- statement k is not there yet
  other_none : (entries : List m.Entry) → statement_count t entries < k → others entries ≡ entries
  other_none [] l = refl
  other_none (m.Created line session table ∷ older) l = ap (λ es. m.Created line session table ∷ es) (other_none older l)
  other_none (m.Began line session u level ∷ older) l = ap (λ es. m.Began line session u level ∷ es) (other_none older l)
  other_none (m.Ran line session own u now ∷ older) l =
      ap (λ b. cond b (m.Ran line session (command own) u (statement now) ∷ older) (m.Ran line session own u now ∷ others older)) (not_at (u == t) l)
      ∙ ap (λ es. m.Ran line session own u now ∷ es) (other_none older (less (u == t) l))
    where
      not_at : (b : Bool) → cond b (suc (statement_count t older)) (statement_count t older) < k → (b && (suc (statement_count t older) == k)) ≡ false
      not_at true l = ne_eqb (suc (statement_count t older)) k (λ same. omega arith)
      not_at false l = refl

      less : (b : Bool) → cond b (suc (statement_count t older)) (statement_count t older) < k → statement_count t older < k
      less true l = omega arith
      less false l = l
  other_none (m.Committed line session u ∷ older) l = ap (λ es. m.Committed line session u ∷ es) (other_none older l)
  other_none (m.Ended line session end u ∷ older) l = ap (λ es. m.Ended line session end u ∷ es) (other_none older l)

  -- one statement more
  other_ran : (line session v number : ℕ) (own : Command) (now : Statement) (older : List m.Entry) → number ≡ suc (statement_count v older)
      → others (m.Ran line session own v now ∷ older) ≡ edited ((v == t) && (number == k)) command statement (m.Ran line session own v now) ∷ others older
  other_ran line session v number own now older numbered = go (v == t) refl
    where
      go : (b : Bool) → (v == t) ≡ b
          → cond (b && (suc (statement_count t older) == k)) (m.Ran line session (command own) v (statement now) ∷ older) (m.Ran line session own v now ∷ others older)
          ≡ edited (b && (number == k)) command statement (m.Ran line session own v now) ∷ others older
      go false e = refl
      go true e =
          ap (λ n. cond (n == k) (m.Ran line session (command own) v (statement now) ∷ older) (m.Ran line session own v now ∷ others older)) same
          ∙ last (number == k) refl
        where
          same : suc (statement_count t older) ≡ number
          same = ap (λ u. suc (statement_count u older)) (sym (eqb-true v t e)) ∙ sym numbered

          last : (b : Bool) → (number == k) ≡ b
              → cond b (m.Ran line session (command own) v (statement now) ∷ older) (m.Ran line session own v now ∷ others older) ≡ edited b command statement (m.Ran line session own v now) ∷ others older
          last true f = ap (λ es. m.Ran line session (command own) v (statement now) ∷ es) (sym (other_none older (let is = eqb-true number k f in omega (arith, same, is))))
          last false f = refl

  -- one entry more
  other_what : (line session v : ℕ) (what : What) (older : List m.Entry) → IsNumbered older (record { line = line; session = session; t = v; what = what })
      → others (what_view line session v what ∷ older)
      ≡ edited ((v == t) && is_numbered k what) command statement (what_view line session v what) ∷ others older
  other_what line session v (w.Create table) older number = ap (λ e. e ∷ others older) (sym (kept ((v == t) && false) _ refl))
    where
      kept : (b : Bool) (x : m.Entry) → x ≡ m.Created line session table → edited b command statement (m.Created line session table) ≡ m.Created line session table
      kept true x e = refl
      kept false x e = refl
  other_what line session v (w.Begin level) older number = ap (λ e. e ∷ others older) (sym (kept ((v == t) && false)))
    where
      kept : (b : Bool) → edited b command statement (m.Began line session v level) ≡ m.Began line session v level
      kept true = refl
      kept false = refl
  other_what line session v (w.Statement number own stmt) older numbered =
      other_ran line session v number (command_view own.value) (statement_view stmt.value) older numbered
  other_what line session v w.Commit older number = ap (λ e. e ∷ others older) (sym (kept ((v == t) && false)))
    where
      kept : (b : Bool) → edited b command statement (m.Committed line session v) ≡ m.Committed line session v
      kept true = refl
      kept false = refl
  other_what line session v w.Lost older number = ap (λ e. e ∷ others older) (sym (kept ((v == t) && false)))
    where
      kept : (b : Bool) → edited b command statement (m.Ended line session m.Lost v) ≡ m.Ended line session m.Lost v
      kept true = refl
      kept false = refl
  other_what line session v w.Rollback older number = ap (λ e. e ∷ others older) (sym (kept ((v == t) && false)))
    where
      kept : (b : Bool) → edited b command statement (m.Ended line session m.RolledBack v) ≡ m.Ended line session m.RolledBack v
      kept true = refl
      kept false = refl

-- ---- new tables

same-names : (xs : List Table) (table : Table) (ys : List Table) → table_names (xs ++ table ∷ ys) ≡ table_names xs ++ table.name ∷ table_names ys
same-names [] table ys = refl
same-names (x ∷ xs) table ys = ap (λ names. x.name ∷ names) (same-names xs table ys)

-- the tables up to a place, and the ones behind them
tables_front : (newer older : List m.Entry) → (more : List Table) × (tables_in (newer ++ older) ≡ tables_in older ++ more)
tables_front [] older = ([], sym (append-nil (tables_in older)))
tables_front (m.Created line session table ∷ newer) older =
    let rest = tables_front newer older in
    (rest.0 ++ table ∷ [], ap (λ ts. ts ++ table ∷ []) rest.1 ∙ assoc (tables_in older) rest.0 (table ∷ []))
  where
    assoc : (xs ys zs : List Table) → (xs ++ ys) ++ zs ≡ xs ++ (ys ++ zs)
    assoc [] ys zs = refl
    assoc (x ∷ xs) ys zs = ap (λ rest. x ∷ rest) (assoc xs ys zs)
tables_front (m.Began line session u level ∷ newer) older = tables_front newer older
tables_front (m.Ran line session command u statement ∷ newer) older = tables_front newer older
tables_front (m.Committed line session u ∷ newer) older = tables_front newer older
tables_front (m.Ended line session end u ∷ newer) older = tables_front newer older

-- a table has another name than those before it
other_name : (xs : List Table) (table : Table) (ys : List Table) → HaveDifferentNames (xs ++ table ∷ ys) → place_of table.name xs ≡ None
other_name xs table ys different =
    ap (λ n. cond (nat_lt n (length (table_names xs))) (Some n) None) (position_or_len_is (bytes_eq table.name) (table_names xs) (length (table_names xs)) [] (omega arith) unlike (λ l. absurd (omega arith)))
    ∙ ap (λ b. cond b (Some (length (table_names xs))) None) (not_less (length (table_names xs)))
  where
    not_less : (n : ℕ) → nat_lt n n ≡ false
    not_less n = grind (arith, nat_tests)

    unlike-name : (k : ℕ) → k < length (table_names xs) → get_or (table_names xs) k [] ≢ table.name
    unlike-name k l =
        let all = different k (length (table_names xs)) [] l
        (subst (λ (names : List (List ℕ)). length (table_names xs) < length names) (sym (same-names xs table ys)) (let total = length-append (table_names xs) (table.name ∷ table_names ys) in omega arith)) in
        λ same. all (
        ap (λ names. get_or names k []) (same-names xs table ys) ∙ get_or_append_left (table_names xs) (table.name ∷ table_names ys) [] k l ∙ same
        ∙ sym (ap (λ names. get_or names (length (table_names xs)) []) (same-names xs table ys) ∙ get_or_at (table_names xs) table.name (table_names ys) [] (length (table_names xs)) refl))

    unlike : (k : ℕ) → k < length (table_names xs) → bytes_eq table.name (get_or (table_names xs) k []) ≡ false
    unlike k l = go (bytes_eq table.name (get_or (table_names xs) k [])) refl
      where
        go : (b : Bool) → bytes_eq table.name (get_or (table_names xs) k []) ≡ b → b ≡ false
        go true e = absurd (unlike-name k l (sym ((bytes_eq-Decides table.name (get_or (table_names xs) k [])).0 e)))
        go false e = refl

-- the tables of a log are new where they are created
pub creates_new : (entries : List Entry) (place : ℕ) (entry : Entry) → HaveDifferentNames (tables_in (log_view entries)) → length (tables_in (log_view entries)) ≤ MAX_TABLES
    → slice_get entries place ≡ Some entry → CreatesNew (tables_in (log_view (take place entries))) entry.what
creates_new entries place entry different few is = go entry.what refl
  where
    made : (table : Table) → entry.what ≡ w.Create table → (more : List Table) × (tables_in (log_view entries) ≡ (tables_in (log_view (take place entries)) ++ table ∷ []) ++ more)
    made table e =
        let rest = tables_front (log_view (drop (place + 1) entries)) (entry_view entry ∷ log_view (take place entries)) in
        (rest.0, ap tables_in (log-cut entries place entry is) ∙ rest.1 ∙ ap (λ (x : What). tables_in (what_view entry.line entry.session entry.t x ∷ log_view (take place entries)) ++ rest.0) e)

    assoc : (xs : List Table) (table : Table) (ys : List Table) → (xs ++ table ∷ []) ++ ys ≡ xs ++ table ∷ ys
    assoc [] table ys = refl
    assoc (x ∷ xs) table ys = ap (λ rest. x ∷ rest) (assoc xs table ys)

    go : (x : What) → entry.what ≡ x → CreatesNew (tables_in (log_view (take place entries))) x
    go (w.Create table) e =
        let all = made table e in
        let whole = all.1 ∙ assoc (tables_in (log_view (take place entries))) table all.0 in
        let count = ap length whole ∙ length-append (tables_in (log_view (take place entries))) (table ∷ all.0) in
        (omega (arith, few, count), other_name (tables_in (log_view (take place entries))) table all.0 (subst HaveDifferentNames whole different))
    go (w.Begin level) e = tt
    go (w.Statement k command stmt) e = tt
    go w.Commit e = tt
    go w.Lost e = tt
    go w.Rollback e = tt

-- ---- an entry that can be next, in a log with the same tables and counts

abbrev Asks : List m.Entry → ℕ → Step → Type 0
Asks older t (Makes table) = CreatesNew (tables_in older) (w.Create table)
Asks older t (Numbers k) = k ≡ suc (statement_count t older)
Asks older t Goes = Unit {0}

abbrev Allows : List m.Entry → ℕ → What → Type 0
Allows older t what = CreatesNew (tables_in older) what × HasNextNumber older t what

asks : (older : List m.Entry) (t : ℕ) (what : What) → Allows older t what → Asks older t (step_of what)
asks older t (w.Create table) a = a.0
asks older t (w.Begin level) a = tt
asks older t (w.Statement k command stmt) a = a.1
asks older t w.Commit a = tt
asks older t w.Lost a = tt
asks older t w.Rollback a = tt

allows : (older : List m.Entry) (t : ℕ) (what : What) → Asks older t (step_of what) → Allows older t what
allows older t (w.Create table) a = (a, tt)
allows older t (w.Begin level) a = (tt, tt)
allows older t (w.Statement k command stmt) a = (tt, a)
allows older t w.Commit a = (tt, tt)
allows older t w.Lost a = (tt, tt)
allows older t w.Rollback a = (tt, tt)

pub addable : (old new : List m.Entry) (entry copy : Entry) → tables_in new ≡ tables_in old → ((k : ℕ) → step_of entry.what ≡ Numbers k → statement_count entry.t new ≡ statement_count entry.t old) → SameStep copy entry → IsAddable old entry
    → IsAddable new copy
addable old new entry copy tables count same can =
    allows new copy.t copy.what (subst (λ (x : ℕ × Step). Asks new x.0 x.1) (λ i. (sym same.t i, sym same.step i)) (moved (step_of entry.what) count (asks old entry.t entry.what can)))
  where
    moved : (step : Step) → ((k : ℕ) → step ≡ Numbers k → statement_count entry.t new ≡ statement_count entry.t old) → Asks old entry.t step → Asks new entry.t step
    moved (Makes table) count a = subst (λ (ts : List Table). CreatesNew ts (w.Create table)) (sym tables) a
    moved (Numbers k) count a = a ∙ ap suc (sym (count k refl))
    moved Goes count a = tt

-- a statement can be next where it has the next number
pub numbers_next : (older : List m.Entry) (entry : Entry) (k : ℕ) → step_of entry.what ≡ Numbers k → k ≡ suc (statement_count entry.t older) → IsAddable older entry
numbers_next older entry k step next = allows older entry.t entry.what (subst (Asks older entry.t) (sym step) next)

-- ---- the changed log up to a place

-- with statement k of transaction t by another
pub record Others (t k : ℕ) (command : Command → Command) (statement : Statement → Statement) (entries : List Entry) (place : ℕ) (new : List Entry) : Type 0 where
  pub count : length new ≡ place
  pub view : log_view new ≡ with_other t k command statement (log_view (take place entries))

module _ (t k : ℕ) (command : Command → Command) (statement : Statement → Statement) (entries : List Entry) where
  pub others_addable : (place : ℕ) (new : List Entry) (entry copy : Entry) → HaveDifferentNames (tables_in (log_view entries)) → length (tables_in (log_view entries)) ≤ MAX_TABLES → slice_get entries place ≡ Some entry
      → IsNumbered (log_view (take place entries)) entry → SameStep copy entry → Others t k command statement entries place new → IsAddable (log_view new) copy
  others_addable place new entry copy different few is number same holds =
      let before : List m.Entry = log_view (take place entries) in
      subst (λ es. IsAddable es copy) (sym holds.view)
      (addable before (with_other t k command statement before) entry copy
      (other_same t k command statement before).tables
      (λ n step. count_other t k command statement entry.t before) same (creates_new entries place entry different few is, number))

  pub others_next : (place : ℕ) (new : List Entry) (entry copy : Entry) → slice_get entries place ≡ Some entry → IsNumbered (log_view (take place entries)) entry
      → entry_view copy ≡ edited (is_own t k entry) command statement (entry_view entry) → Others t k command statement entries place new → Others t k command statement entries (place + 1) (new ++ copy ∷ [])
  others_next place new entry copy is number view holds = record {
    count = length-append new (copy ∷ []) ∙ (let count = holds.count in omega arith);
    view =
        log-pushed new copy ∙ (λ i. view i ∷ holds.view i)
        ∙ sym (ap (λ es. with_other t k command statement es) (log-more entries place entry is)
        ∙ other_what t k command statement entry.line entry.session entry.t entry.what (log_view (take place entries)) number);
  }

-- ---- a log entry by entry

-- an entry in the place of each, which asks the same
pub record Mapped (each : m.Entry → m.Entry) (entries : List Entry) (place : ℕ) (new : List Entry) : Type 0 where
  pub count : length new ≡ place
  pub view : log_view new ≡ map each (log_view (take place entries))

module _ (each : m.Entry → m.Entry) (same : (older : List m.Entry) → SameSessions older (map each older)) (counts : (t : ℕ) (older : List m.Entry) → statement_count t (map each older) ≡ statement_count t older)
    (entries : List Entry) where
  pub mapped_addable : (place : ℕ) (new : List Entry) (entry copy : Entry) → HaveDifferentNames (tables_in (log_view entries)) → length (tables_in (log_view entries)) ≤ MAX_TABLES → slice_get entries place ≡ Some entry
      → IsNumbered (log_view (take place entries)) entry → SameStep copy entry → Mapped each entries place new → IsAddable (log_view new) copy
  mapped_addable place new entry copy different few is number step holds =
      let before : List m.Entry = log_view (take place entries) in
      subst (λ es. IsAddable es copy) (sym holds.view)
      (addable before (map each before) entry copy (same before).tables (λ n numbered. counts entry.t before) step (creates_new entries place entry different few is, number))

  pub mapped_next : (place : ℕ) (new : List Entry) (entry copy : Entry) → slice_get entries place ≡ Some entry → entry_view copy ≡ each (entry_view entry) → Mapped each entries place new
      → Mapped each entries (place + 1) (new ++ copy ∷ [])
  mapped_next place new entry copy is view holds = record {
    count = length-append new (copy ∷ []) ∙ (let count = holds.count in omega arith);
    view = log-pushed new copy ∙ (λ i. view i ∷ holds.view i) ∙ sym (ap (map each) (log-more entries place entry is));
  }

pub count_spread : (times t : ℕ) (entries : List m.Entry) → statement_count t (map (spread times) entries) ≡ statement_count t entries
count_spread times t [] = refl
count_spread times t (m.Created line session table ∷ older) = count_spread times t older
count_spread times t (m.Began line session u level ∷ older) = count_spread times t older
count_spread times t (m.Ran line session command u statement ∷ older) = ap (λ n. cond (u == t) (suc n) n) (count_spread times t older)
count_spread times t (m.Committed line session u ∷ older) = count_spread times t older
count_spread times t (m.Ended line session end u ∷ older) = count_spread times t older

pub count_dropped : (v t : ℕ) (entries : List m.Entry) → statement_count t (map (dropped_of v) entries) ≡ statement_count t entries
count_dropped v t [] = refl
count_dropped v t (m.Created line session table ∷ older) = count_dropped v t older
count_dropped v t (m.Began line session u level ∷ older) = count_dropped v t older
count_dropped v t (m.Ran line session own u now ∷ older) = by (u == v) ∙ ap (λ n. cond (u == t) (suc n) n) (count_dropped v t older)
  where
    by : (b : Bool) → statement_count t (cond b (m.Ran line session (dropped_command own) u (dropped_statement now)) (m.Ran line session own u now) ∷ map (dropped_of v) older)
        ≡ cond (u == t) (suc (statement_count t (map (dropped_of v) older))) (statement_count t (map (dropped_of v) older))
    by true = refl
    by false = refl
count_dropped v t (m.Committed line session u ∷ older) = count_dropped v t older
count_dropped v t (m.Ended line session end u ∷ older) = count_dropped v t older

-- ---- the place of a statement

-- how many statements of a transaction there are with one entry more
count-next : (t : ℕ) (line session v : ℕ) (what : What) (older : List m.Entry) (k : ℕ) → IsNumbered older (record { line = line; session = session; t = v; what = what }) → ((v == t) && is_numbered k what) ≡ false
    → statement_count t older < k → statement_count t (what_view line session v what ∷ older) < k
count-next t line session v (w.Create table) older k number other l = l
count-next t line session v (w.Begin level) older k number other l = l
count-next t line session v (w.Statement n command stmt) older k number other l = go (v == t) refl other
  where
    go : (b : Bool) → (v == t) ≡ b → (b && (n == k)) ≡ false → cond b (suc (statement_count t older)) (statement_count t older) < k
    go true e other =
        let same : suc (statement_count t older) ≡ n = ap (λ u. suc (statement_count u older)) (sym (eqb-true v t e)) ∙ sym number in
        let differ : n ≢ k = unequal n k other in omega (arith, same, apart n k differ (omega arith))
      where
        unequal : (a b : ℕ) → (a == b) ≡ false → a ≢ b
        unequal a b e f = grind (arith, nat_tests)

        apart : (a b : ℕ) → a ≢ b → a ≤ b → a < b
        apart a b n l = grind arith
    go false e other = l
count-next t line session v w.Commit older k number other l = l
count-next t line session v w.Lost older k number other l = l
count-next t line session v w.Rollback older k number other l = l

pub fewer_next : (t k : ℕ) (entries : List Entry) (place : ℕ) (entry : Entry) → slice_get entries place ≡ Some entry → IsNumbered (log_view (take place entries)) entry → is_own t k entry ≡ false
    → statement_count t (log_view (take place entries)) < k → statement_count t (log_view (take (place + 1) entries)) < k
fewer_next t k entries place entry is number other l =
    subst (λ es. statement_count t es < k) (sym (log-more entries place entry is)) (count-next t entry.line entry.session entry.t entry.what (log_view (take place entries)) k number other l)

-- the tables before a statement, behind newer entries
before-behind : (t k : ℕ) (newer older : List m.Entry) → k ≤ statement_count t older → tables_before t k (newer ++ older) ≡ tables_before t k older
before-behind t k [] older most = refl
before-behind t k (m.Created line session table ∷ newer) older most = before-behind t k newer older most
before-behind t k (m.Began line session u level ∷ newer) older most = before-behind t k newer older most
before-behind t k (m.Ran line session command u statement ∷ newer) older most =
    ap (λ b. cond b (tables_in (newer ++ older)) (tables_before t k (newer ++ older))) (not_at (u == t)) ∙ before-behind t k newer older most
  where
    not_at : (b : Bool) → (b && (suc (statement_count t (newer ++ older)) == k)) ≡ false
    not_at true = ne_eqb (suc (statement_count t (newer ++ older))) k (λ same. let least = count-least t newer older in omega arith)
    not_at false = refl
before-behind t k (m.Committed line session u ∷ newer) older most = before-behind t k newer older most
before-behind t k (m.Ended line session end u ∷ newer) older most = before-behind t k newer older most

before-here : (t k : ℕ) (line session v : ℕ) (what : What) (older : List m.Entry) → IsNumbered older (record { line = line; session = session; t = v; what = what }) → ((v == t) && is_numbered k what) ≡ true
    → (tables_before t k (what_view line session v what ∷ older) ≡ tables_in older) × (k ≤ statement_count t (what_view line session v what ∷ older))
before-here t k line session v (w.Statement n command stmt) older number own =
    let both = and_parts (v == t) (n == k) own in
    let same : suc (statement_count t older) ≡ k = ap (λ u. suc (statement_count u older)) (sym (eqb-true v t both.0)) ∙ sym number ∙ eqb-true n k both.1 in (
      ap (λ b. cond (b && (suc (statement_count t older) == k)) (tables_in older) (tables_before t k older)) both.0 ∙ ap (λ j. cond (j == k) (tables_in older) (tables_before t k older)) same
          ∙ ap (λ b. cond b (tables_in older) (tables_before t k older)) (eq_itself k),
      subst (λ b. k ≤ cond b (suc (statement_count t older)) (statement_count t older)) (sym both.0) (omega (arith, same)),
    )
before-here t k line session v (w.Create table) older number own = absurd (none (v == t) own)
  where
    none : (b : Bool) → (b && false) ≡ true → ⊥
    none true e = false≢true e
    none false e = false≢true e
before-here t k line session v (w.Begin level) older number own = absurd (none (v == t) own)
  where
    none : (b : Bool) → (b && false) ≡ true → ⊥
    none true e = false≢true e
    none false e = false≢true e
before-here t k line session v w.Commit older number own = absurd (none (v == t) own)
  where
    none : (b : Bool) → (b && false) ≡ true → ⊥
    none true e = false≢true e
    none false e = false≢true e
before-here t k line session v w.Lost older number own = absurd (none (v == t) own)
  where
    none : (b : Bool) → (b && false) ≡ true → ⊥
    none true e = false≢true e
    none false e = false≢true e
before-here t k line session v w.Rollback older number own = absurd (none (v == t) own)
  where
    none : (b : Bool) → (b && false) ≡ true → ⊥
    none true e = false≢true e
    none false e = false≢true e

pub tables_here : (t k : ℕ) (entries : List Entry) (place : ℕ) (entry : Entry) → slice_get entries place ≡ Some entry → IsNumbered (log_view (take place entries)) entry → is_own t k entry ≡ true
    → tables_before t k (log_view entries) ≡ tables_in (log_view (take place entries))
tables_here t k entries place entry is number own =
    let here = before-here t k entry.line entry.session entry.t entry.what (log_view (take place entries)) number own in
    ap (tables_before t k) (log-cut entries place entry is) ∙ before-behind t k (log_view (drop (place + 1) entries)) (entry_view entry ∷ log_view (take place entries)) here.1 ∙ here.0

-- ---- the tables up to a place

pub tables_next : (entries : List Entry) (place : ℕ) (entry : Entry) → slice_get entries place ≡ Some entry → tables_in (log_view (take (place + 1) entries)) ≡ tables_in (log_view (take place entries)) ++ created_by entry.what
tables_next entries place entry is = ap tables_in (log-more entries place entry is) ∙ go entry.line entry.session entry.t entry.what (log_view (take place entries))
  where
    go : (line session v : ℕ) (what : What) (older : List m.Entry) → tables_in (what_view line session v what ∷ older) ≡ tables_in older ++ created_by what
    go line session v (w.Create table) older = refl
    go line session v (w.Begin level) older = sym (append-nil (tables_in older))
    go line session v (w.Statement k command stmt) older = sym (append-nil (tables_in older))
    go line session v w.Commit older = sym (append-nil (tables_in older))
    go line session v w.Lost older = sym (append-nil (tables_in older))
    go line session v w.Rollback older = sym (append-nil (tables_in older))

-- ---- the lines that changes need

-- the line of the first change, if it needs one, and those of the others
pub lines-counted : (change : LogChange) (changes : List LogChange) → length (filter adds (change ∷ changes)) ≡ length (filter adds (change ∷ [])) + length (filter adds changes)
lines-counted change changes = ap length (filter-append adds (change ∷ []) changes) ∙ length-append (filter adds (change ∷ [])) (filter adds changes)
