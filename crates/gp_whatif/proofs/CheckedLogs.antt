-- The statements of a log, and of a changed one, are what the check makes of their commands.
use Rattle.gp_whatif.proofs.Prelude.{◌≡◌, ℕ, suc, Bool, true, false, cond, List, [], ◌∷◌, map, Option, Some, None, refl, sym, ap, ◌∙◌, subst, ◌==◌, Result, Ok, Err, option_or, Refusal, Table, Command, LogChange, Statement, checked, first_refusal, accepted, Entry, Created, Began, Ran, Committed, Ended, line_of, session_of, statement_refusal, transaction_refusal, IsLog, parameters, tables_in}
use Rattle.gp_grammar.specs.Syntax as y
use Rattle.gp_grammar.specs.Syntax.{Bytes}
use Rattle.gp_algebra.specs.Statements as s
use Rattle.gp_check.specs.Checking.{refused_by}
use Rattle.gp_check.specs.Faults.{block_columns_fault, block_types, block_where_is_typed, query_tables_fault, table_fault, tables_fault}
use Rattle.gp_check.specs.Meaning.{branch_of, number_of_table, select_of, set_expr_of, where_of}
use Rattle.gp_check.specs.Scopes.{target_scope}
use Rattle.gp_log.proofs.CheckedEntries.{was_checked}
use Rattle.gp_whatif.specs.Changed.{changed, changed_log, dropped_command, dropped_of, dropped_statement, is_at, is_step_of, lines_for, nothing_at, nothing_from, rewritten, spread, steps_refusal, tables_at_end, tables_before, with_added, with_other}
use Rattle.gp_whatif.specs.ChangedForms.{AreChecked}
use Rattle.gp_whatif.proofs.ChangedLemmas.{added_same, all_dropped_same, other_same, spread_same}
use Rattle.gp_whatif.proofs.ReplayableLemmas.{all_keep}

-- ---- a statement that is dropped

abbrev IsSame : Result Statement Refusal → Result Statement Refusal → Type 0
IsSame one other = one ≡ other

nothing_checked : (tables : List Table) (name : Bytes) → table_fault tables name ≡ None → IsSame (checked tables (nothing_from name)) (Ok (nothing_at (number_of_table tables name)))
unfolding block_columns_fault block_types block_where_is_typed branch_of
nothing_checked tables name none =
    ap (λ (fault : Option Refusal). refused_by (option_or (option_or (option_or fault None) None) None) (nothing_at (number_of_table tables name))) none

first_none : (one other : Option Refusal) → option_or one other ≡ None → one ≡ None
first_none None other e = refl
first_none (Some refusal) other e = absurd cc

stays : (tables : List Table) (command : Command) (select : s.Select) (statement : Statement) → s.read select ≡ statement → IsSame (checked tables command) (Ok statement) → IsSame (checked tables command) (Ok (dropped_statement statement))
stays tables command select statement is e = subst (λ made. IsSame (checked tables command) (Ok made)) (sym is ∙ ap dropped_statement is) e

dropped_checked : (tables : List Table) (command : Command) (statement : Statement) → IsSame (checked tables command) (Ok statement) → IsSame (checked tables (dropped_command command)) (Ok (dropped_statement statement))
dropped_checked tables (y.insert table rows) statement e =
    let is = accepted (first_refusal tables (y.insert table rows)) (s.insert (number_of_table tables table) rows) statement e in
    subst (λ made. IsSame (checked tables (nothing_from table)) (Ok (dropped_statement made))) is.1 (nothing_checked tables table (first_none (table_fault tables table) _ is.0))
dropped_checked tables (y.insert_select table query) statement e =
    let is = accepted (first_refusal tables (y.insert_select table query)) (s.insert_select (number_of_table tables table) (select_of tables query)) statement e in
    subst (λ made. IsSame (checked tables (nothing_from table)) (Ok (dropped_statement made))) is.1
    (nothing_checked tables table (first_none (table_fault tables table) (query_tables_fault tables query) (first_none (tables_fault tables (y.insert_select table query)) _ is.0)))
dropped_checked tables (y.update table sets c) statement e =
    let is = accepted (first_refusal tables (y.update table sets c)) (s.update (number_of_table tables table) (map (set_expr_of (target_scope tables table)) sets) (where_of (target_scope tables table) c)) statement e in
    subst (λ made. IsSame (checked tables (nothing_from table)) (Ok (dropped_statement made))) is.1 (nothing_checked tables table (first_none (table_fault tables table) _ is.0))
dropped_checked tables (y.Command.delete table c) statement e =
    let is = accepted (first_refusal tables (y.Command.delete table c)) (s.delete (number_of_table tables table) (where_of (target_scope tables table) c)) statement e in
    subst (λ made. IsSame (checked tables (nothing_from table)) (Ok (dropped_statement made))) is.1 (nothing_checked tables table (first_none (table_fault tables table) _ is.0))
dropped_checked tables (y.select query) statement e =
    stays tables (y.select query) (select_of tables query) statement (accepted (first_refusal tables (y.select query)) (s.read (select_of tables query)) statement e).1 e
dropped_checked tables (y.create table) statement e = stays tables (y.create table) [] statement (accepted None (s.read []) statement e).1 e
dropped_checked tables (y.begin level) statement e = stays tables (y.begin level) [] statement (accepted None (s.read []) statement e).1 e
dropped_checked tables y.Command.commit statement e = stays tables y.Command.commit [] statement (accepted None (s.read []) statement e).1 e
dropped_checked tables y.rollback statement e = stays tables y.rollback [] statement (accepted None (s.read []) statement e).1 e

-- ---- whole logs

-- a statement in front, over the same tables
front : (entry : Entry) (old new : List Entry) → tables_in new ≡ tables_in old → (AreChecked old → AreChecked new) → AreChecked (entry ∷ old) → AreChecked (entry ∷ new)
front (Created line session table) old new same rest are = rest are
front (Began line session t level) old new same rest are = rest are
front (Ran line session command t statement) old new same rest are = (ap (λ tables. checked tables command) same ∙ are.0, rest are.1)
front (Committed line session t) old new same rest are = rest are
front (Ended line session end t) old new same rest are = rest are

spread_checked : (times : ℕ) (entries : List Entry) → AreChecked entries → AreChecked (map (spread times) entries)
spread_checked times [] are = tt
spread_checked times (Created line session table ∷ older) are = spread_checked times older are
spread_checked times (Began line session t level ∷ older) are = spread_checked times older are
spread_checked times (Ran line session command t statement ∷ older) are = (ap (λ tables. checked tables command) (spread_same times older).tables ∙ are.0, spread_checked times older are.1)
spread_checked times (Committed line session t ∷ older) are = spread_checked times older are
spread_checked times (Ended line session end t ∷ older) are = spread_checked times older are

all_dropped_checked : (t : ℕ) (entries : List Entry) → AreChecked entries → AreChecked (map (dropped_of t) entries)
all_dropped_checked t [] are = tt
all_dropped_checked t (Created line session table ∷ older) are = all_dropped_checked t older are
all_dropped_checked t (Began line session u level ∷ older) are = all_dropped_checked t older are
all_dropped_checked t (Ran line session own u now ∷ older) are = by (u == t) (all_dropped_checked t older are.1)
  where
    by : (b : Bool) → AreChecked (map (dropped_of t) older)
        → AreChecked (cond b (Ran line session (dropped_command own) u (dropped_statement now)) (Ran line session own u now) ∷ map (dropped_of t) older)
    by true rest = (ap (λ tables. checked tables (dropped_command own)) (all_dropped_same t older).tables ∙ dropped_checked (tables_in older) own now are.0, rest)
    by false rest = (ap (λ tables. checked tables own) (all_dropped_same t older).tables ∙ are.0, rest)
all_dropped_checked t (Committed line session u ∷ older) are = all_dropped_checked t older are
all_dropped_checked t (Ended line session end u ∷ older) are = all_dropped_checked t older are

module _ (t k : ℕ) where
  -- what is put in the place of statement k is what the check makes of its command there
  module _ (command : Command → Command) (statement : Statement → Statement) where
    other_checked : (entries : List Entry) → ((own : Command) (now : Statement) → IsSame (checked (tables_before t k entries) own) (Ok now) → IsSame (checked (tables_before t k entries) (command own)) (Ok (statement now)))
        → AreChecked entries → AreChecked (with_other t k command statement entries)
    other_checked [] put are = tt
    other_checked (Created line session table ∷ older) put are = other_checked older put are
    other_checked (Began line session u level ∷ older) put are = other_checked older put are
    other_checked (Ran line session own u now ∷ older) put are = by (is_at t k u older) put (other_checked older)
      where
        by : (b : Bool) → ((own : Command) (now : Statement) → IsSame (checked (cond b (tables_in older) (tables_before t k older)) own) (Ok now) → IsSame (checked (cond b (tables_in older) (tables_before t k older)) (command own)) (Ok (statement now)))
            → (((own : Command) (now : Statement) → IsSame (checked (tables_before t k older) own) (Ok now) → IsSame (checked (tables_before t k older) (command own)) (Ok (statement now))) → AreChecked older → AreChecked (with_other t k command statement older))
            → AreChecked (cond b (Ran line session (command own) u (statement now) ∷ older) (Ran line session own u now ∷ with_other t k command statement older))
        by true put rest = (put own now are.0, are.1)
        by false put rest = (ap (λ tables. checked tables own) (other_same t k command statement older).tables ∙ are.0, rest put are.1)
    other_checked (Committed line session u ∷ older) put are = other_checked older put are
    other_checked (Ended line session end u ∷ older) put are = other_checked older put are

module _ (t : ℕ) where
  -- a step creates no table
  step_tables : (entry : Entry) (older : List Entry) → is_step_of t entry ≡ true → tables_in (entry ∷ older) ≡ tables_in older
  step_tables (Began line session u level) older is = refl
  step_tables (Ran line session command u statement) older is = refl
  step_tables (Created line session table) older is = absurd cc
  step_tables (Committed line session u) older is = absurd cc
  step_tables (Ended line session end u) older is = absurd cc

  added_checked : (command : Command) (statement : Statement) (entries : List Entry) → IsSame (checked (tables_at_end t entries) command) (Ok statement) → AreChecked entries → AreChecked (with_added t command statement entries)
  added_checked command statement [] passes are = tt
  added_checked command statement (entry ∷ older) passes are = by (is_step_of t entry) refl (added_checked command statement older) passes
    where
      by : (b : Bool) → is_step_of t entry ≡ b → (IsSame (checked (tables_at_end t older) command) (Ok statement) → AreChecked older → AreChecked (with_added t command statement older)) → IsSame (checked (cond b (tables_in older) (tables_at_end t older)) command) (Ok statement)
          → AreChecked (cond b (Ran (suc (line_of entry)) (session_of entry) command t statement ∷ entry ∷ older) (entry ∷ with_added t command statement older))
      by true is rest passes = (ap (λ tables. checked tables command) (step_tables entry older is) ∙ passes, are)
      by false is rest passes = front entry older (with_added t command statement older) (added_same t command statement older).tables (rest passes) are

-- ---- a log that keeps the rules of its entries

pub logs_checked : (entries : List Entry) → IsLog parameters entries → AreChecked entries
logs_checked [] log = tt
logs_checked (Created line session table ∷ older) log = logs_checked older log.1
logs_checked (Began line session t level ∷ older) log = logs_checked older log.1
logs_checked (Ran line session command t statement ∷ older) log = ((was_checked older line session command t statement log.0.follows).1, logs_checked older log.1)
logs_checked (Committed line session t ∷ older) log = logs_checked older log.1
logs_checked (Ended line session end t ∷ older) log = logs_checked older log.1

-- ---- the changed log

abbrev AreSame : Result (List Entry) Refusal → Result (List Entry) Refusal → Type 0
AreSame one other = one ≡ other

same-ok : (a b : List Entry) → AreSame (Ok a) (Ok b) → a ≡ b
same-ok a b e = cc

module _ (entries new : List Entry) (are : AreChecked entries) where
  put : {A : Type 0} (refusal : Option Refusal) (passes : Result A Refusal) (make : A → List Entry) → AreSame (rewritten parameters entries refusal passes make) (Ok new)
      → ((given : A) → passes ≡ Ok given → AreChecked (make given)) → AreChecked new
  put (Some refusal) passes make e each = absurd cc
  put None (Err refusal) make e each = absurd cc
  put None (Ok given) make e each = subst AreChecked (same-ok (make given) new e) (each given refl)

  change_checked : (change : LogChange) → AreSame (changed parameters entries change) (Ok new) → AreChecked new
  change_checked (y.drop t k) e =
      put (option_or (transaction_refusal t entries) (statement_refusal t k entries)) (Ok (tt {0})) (λ nothing. with_other t k dropped_command dropped_statement entries) e
      (λ nothing passes. other_checked t k dropped_command dropped_statement entries (λ own now is. dropped_checked (tables_before t k entries) own now is) are)
  change_checked (y.drop_all t) e = put (transaction_refusal t entries) (Ok (tt {0})) (λ nothing. map (dropped_of t) entries) e (λ nothing passes. all_dropped_checked t entries are)
  change_checked (y.replace t k command) e =
      put (option_or (transaction_refusal t entries) (statement_refusal t k entries)) (checked (tables_before t k entries) command)
      (λ statement. with_other t k (λ own. command) (λ own. statement) entries) e
      (λ statement passes. other_checked t k (λ own. command) (λ own. statement) entries (λ own now is. passes) are)
  change_checked (y.add t command) e =
      put (option_or (transaction_refusal t entries) (steps_refusal parameters entries t)) (checked (tables_at_end t entries) command) (λ statement. with_added t command statement entries) e
      (λ statement passes. added_checked t command statement entries passes are)

pub changes_checked : (entries new : List Entry) (changes : List LogChange) → AreChecked entries → changed_log parameters entries changes ≡ Ok new → AreChecked new
changes_checked entries new changes are e =
    all_keep parameters AreChecked (λ old made change holds is. change_checked old made holds change is) changes (map (spread (lines_for changes)) entries) new
    (spread_checked (lines_for changes) entries are) e
