-- What the check passes on the tables before a line fits all tables of the log.
use Rattle.gp_whatif.proofs.Prelude.{◌≡◌, ℕ, Bool, true, false, cond, List, [], ◌∷◌, ◌++◌, map, refl, sym, ap, ◌∙◌, subst, and_parts, append-nil, list_all, Result, Ok, Err, Refusal, Table, Command, LogChange, statement_fits, Statement, checked, first_refusal, accepted, Began, Committed, Created, Ended, Entry, Ran, parameters, tables_in, Logged, log_view, Stop}
use Rattle.std.proofs.lemmas.List.Folds.{list_all-append}
use Rattle.std.specs.Prelude.{IfOk}
use Rattle.gp_grammar.specs.Laws.{has_statement, have_statements}
use Rattle.gp_grammar.specs.Syntax as y
use Rattle.gp_grammar.specs.Syntax.{is_statement}
use Rattle.gp_algebra.proofs.FittingMore.{statement_more}
use Rattle.gp_check.specs.Meaning.{meant_statement}
use Rattle.gp_check.specs.Valid.{change_is_valid, changes_are_valid, is_valid, table_is_valid, tables_are_valid}
use Rattle.gp_check.proofs.FittingLemmas.{fits}
use Rattle.gp_whatif.specs.Changed.{changed, changed_log, is_at, is_step_of, lines_for, spread, tables_at_end, tables_before}
use Rattle.gp_whatif.specs.ChangedForms.{AllFit, CheckFits, ChecksFit}
use Rattle.gp_whatif.specs.Changing.{Changes}
use Rattle.gp_whatif.specs.Remaking as r
use Rattle.gp_whatif.specs.Replays.{IsReplayable}
use Rattle.gp_whatif.proofs.ChangedLemmas.{spread_same}
use Rattle.gp_whatif.proofs.ReplayableLemmas.{change_tables, changes_replayable}

module _ (tables others : List Table) where
  first_valid : tables_are_valid (tables ++ others) ≡ true → tables_are_valid tables ≡ true
  first_valid all = (and_parts (list_all table_is_valid tables) (list_all table_is_valid others) (sym (list_all-append table_is_valid tables others) ∙ all)).0

-- ---- the first tables of a log

-- the tables of a log are these and some more
abbrev pub Extends : List Table → List Table → Type 0
Extends front whole = (more : List Table) × (whole ≡ front ++ more)

itself : (tables : List Table) → Extends tables tables
itself tables = ([], sym (append-nil tables))

one_more : (front whole : List Table) (table : Table) → Extends front whole → Extends front (whole ++ table ∷ [])
one_more front whole table rest = (rest.0 ++ table ∷ [], ap (λ ts. ts ++ table ∷ []) rest.1 ∙ assoc front rest.0 (table ∷ []))
  where
    assoc : (xs ys zs : List Table) → (xs ++ ys) ++ zs ≡ xs ++ (ys ++ zs)
    assoc [] ys zs = refl
    assoc (x ∷ xs) ys zs = ap (λ rest. x ∷ rest) (assoc xs ys zs)

pub before_first : (t k : ℕ) (entries : List Entry) → Extends (tables_before t k entries) (tables_in entries)
before_first t k [] = itself []
before_first t k (Created line session table ∷ older) = one_more (tables_before t k older) (tables_in older) table (before_first t k older)
before_first t k (Began line session u level ∷ older) = before_first t k older
before_first t k (Ran line session command u statement ∷ older) = by (is_at t k u older) (before_first t k older)
  where
    by : (b : Bool) → Extends (tables_before t k older) (tables_in older) → Extends (cond b (tables_in older) (tables_before t k older)) (tables_in older)
    by true rest = itself (tables_in older)
    by false rest = rest
before_first t k (Committed line session u ∷ older) = before_first t k older
before_first t k (Ended line session end u ∷ older) = before_first t k older

entry_more : (entry : Entry) (front : List Table) (older : List Entry) → Extends front (tables_in older) → Extends front (tables_in (entry ∷ older))
entry_more (Created line session table) front older rest = one_more front (tables_in older) table rest
entry_more (Began line session u level) front older rest = rest
entry_more (Ran line session command u statement) front older rest = rest
entry_more (Committed line session u) front older rest = rest
entry_more (Ended line session end u) front older rest = rest

pub end_first : (t : ℕ) (entries : List Entry) → Extends (tables_at_end t entries) (tables_in entries)
end_first t [] = itself []
end_first t (entry ∷ older) = by (is_step_of t entry) (end_first t older)
  where
    by : (b : Bool) → Extends (tables_at_end t older) (tables_in older) → Extends (cond b (tables_in older) (tables_at_end t older)) (tables_in (entry ∷ older))
    by true rest = entry_more entry (tables_in older) older (itself (tables_in older))
    by false rest = entry_more entry (tables_at_end t older) older rest

-- ---- what the check passes

pub fits_all : (front whole : List Table) (command : Command) (statement : Statement) → Extends front whole → tables_are_valid whole ≡ true → is_statement command ≡ true → is_valid command ≡ true
    → checked front command ≡ Ok statement → statement_fits whole statement ≡ true
fits_all front whole command statement extends valid kind fine e =
    let is = accepted (first_refusal front command) (meant_statement front command) statement e in
    subst (λ tables. statement_fits tables statement ≡ true) (sym extends.1)
    (statement_more front extends.0 statement
    (subst (λ made. statement_fits front made ≡ true) is.1
    (fits front command (first_valid front extends.0 (subst (λ tables. tables_are_valid tables ≡ true) extends.1 valid)) kind fine is.0)))

pub check_fits : (entries : List Entry) (change : LogChange) → tables_are_valid (tables_in entries) ≡ true → has_statement change ≡ true → change_is_valid change ≡ true → CheckFits parameters entries change
check_fits entries (y.drop t k) valid kind fine = tt
check_fits entries (y.drop_all t) valid kind fine = tt
check_fits entries (y.replace t k command) valid kind fine = λ statement e.
    fits_all (tables_before t k entries) (tables_in entries) command statement (before_first t k entries) valid kind fine e
check_fits entries (y.add t command) valid kind fine = λ statement e.
    fits_all (tables_at_end t entries) (tables_in entries) command statement (end_first t entries) valid kind fine e

all_fit : (changes : List LogChange) (entries : List Entry) → tables_are_valid (tables_in entries) ≡ true → have_statements changes ≡ true → changes_are_valid changes ≡ true → AllFit parameters (Ok entries) changes
all_fit [] entries valid kind fine = tt
all_fit (change ∷ changes) entries valid kind fine =
    let kinds : (has_statement change ≡ true) × (have_statements changes ≡ true) = and_parts (has_statement change) (have_statements changes) kind in
    let fines : (change_is_valid change ≡ true) × (changes_are_valid changes ≡ true) = and_parts (change_is_valid change) (changes_are_valid changes) fine in
    (check_fits entries change valid kinds.0 fines.0, go (changed parameters entries change) refl (λ next fits. all_fit changes next fits kinds.1 fines.1))
  where
    go : (made : Result (List Entry) Refusal) → changed parameters entries change ≡ made → ((next : List Entry) → tables_are_valid (tables_in next) ≡ true → AllFit parameters (Ok next) changes) → AllFit parameters made changes
    go (Err refusal) is others = tt
    go (Ok next) is others = others next (subst (λ tables. tables_are_valid tables ≡ true) (sym (change_tables parameters entries next change is)) valid)

pub checks_fit : (entries : List Entry) (changes : List LogChange) → tables_are_valid (tables_in entries) ≡ true → have_statements changes ≡ true → changes_are_valid changes ≡ true → ChecksFit parameters entries changes
checks_fit entries changes valid kind fine =
    all_fit changes (map (spread (lines_for changes)) entries)
    (subst (λ tables. tables_are_valid tables ≡ true) (sym (spread_same (lines_for changes) entries).tables) valid) kind fine

-- the changed log, if there is one, can be replayed
pub keeps_replayable : (made : Result Logged Stop) (entries : List Entry) (changes : List LogChange) → Changes made (changed_log parameters entries changes) → have_statements changes ≡ true
    → IsReplayable entries → tables_are_valid (tables_in entries) ≡ true → changes_are_valid changes ≡ true → IfOk made r.IsReplayable
keeps_replayable (Ok new) entries changes is kind replayable valid fine = changes_replayable parameters entries (log_view new.entries) changes is replayable (checks_fit entries changes valid kind fine)
keeps_replayable (Err stop) entries changes is kind replayable valid fine = tt
