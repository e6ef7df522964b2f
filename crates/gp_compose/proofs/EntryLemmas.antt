-- The entry at a place of a log, and what the log says of the entries up to it.
use Rattle.gp_compose.proofs.Prelude.{◌≡◌, ℕ, suc, ◌+◌, Bool, true, false, cond, List, [], ◌∷◌, ◌++◌, take, refl, sym, ap, ◌∙◌, arith, ◌&&◌, ◌==◌, slice_get, Table, Statement, statement_fits, statement_at, statement_count, statements_fit, entry_view, log_view, Entry, eq_itself, and_parts}
use Rattle.std.proofs.Common.{drop}
use Rattle.std.specs.Prelude.{Option, Some, None}
use Rattle.gp_machine.specs.Entries as m
use Rattle.gp_log.proofs.FindingLemmas.{found-behind, log-cut}
use Rattle.gp_compose.specs.Composition.{own_fits, own_statement, ran_more}

-- ---- statements

own_by : (b : Bool) (statement : Statement) (n : ℕ) → cond b (suc n) n ≡ ran_more (cond b (Some statement) None) n
own_by true statement n = refl
own_by false statement n = refl

pub count-more : (t : ℕ) (entry : m.Entry) (older : List m.Entry) → statement_count t (entry ∷ older) ≡ ran_more (own_statement t entry) (statement_count t older)
count-more t (m.Created line session table) older = refl
count-more t (m.Began line session u level) older = refl
count-more t (m.Ran line session command u statement) older = own_by (u == t) statement (statement_count t older)
count-more t (m.Committed line session u) older = refl
count-more t (m.Ended line session end u) older = refl

taken : (mine same : Bool) (here statement : Statement) (found : Option Statement) → same ≡ true → cond mine (Some here) None ≡ Some statement → cond (mine && same) (Some here) found ≡ Some statement
taken true true here statement found is e = e
taken true false here statement found is e = absurd (cc)
taken false same here statement found is e = absurd (cc)

found-here : (t : ℕ) (entry : m.Entry) (older : List m.Entry) (statement : Statement) → own_statement t entry ≡ Some statement
    → statement_at t (suc (statement_count t older)) (entry ∷ older) ≡ Some statement
found-here t (m.Created line session table) older statement is = absurd (cc)
found-here t (m.Began line session u level) older statement is = absurd (cc)
found-here t (m.Ran line session command u here) older statement is =
    taken (u == t) (suc (statement_count t older) == suc (statement_count t older)) here statement (statement_at t (suc (statement_count t older)) older)
    (eq_itself (suc (statement_count t older))) is
found-here t (m.Committed line session u) older statement is = absurd (cc)
found-here t (m.Ended line session end u) older statement is = absurd (cc)

-- the statement at a place is the next one of its transaction
pub statement-here : (t : ℕ) (entries : List Entry) (place : ℕ) (entry : Entry) (statement : Statement) → slice_get entries place ≡ Some entry
    → own_statement t (entry_view entry) ≡ Some statement → statement_at t (suc (statement_count t (log_view (take place entries)))) (log_view entries) ≡ Some statement
statement-here t entries place entry statement is mine =
    let older : List m.Entry = log_view (take place entries) in
    let count : statement_count t (entry_view entry ∷ older) ≡ suc (statement_count t older) =
    count-more t (entry_view entry) older ∙ ap (λ (s : Option Statement). ran_more s (statement_count t older)) mine in
    ap (statement_at t (suc (statement_count t older))) (log-cut entries place entry is)
    ∙ (found-behind t (suc (statement_count t older)) (log_view (drop (place + 1) entries)) (entry_view entry ∷ older) (omega (arith, count))
    ∙ found-here t (entry_view entry) older statement mine)

-- ---- what fits

fits-cond : (tables : List Table) (b : Bool) (statement : Statement) → statement_fits tables statement ≡ true → own_fits tables (cond b (Some statement) None) ≡ true
fits-cond tables true statement fits = fits
fits-cond tables false statement fits = refl

fits-first : (tables : List Table) (t : ℕ) (entry : m.Entry) (older : List m.Entry) → statements_fit tables (entry ∷ older) ≡ true → own_fits tables (own_statement t entry) ≡ true
fits-first tables t (m.Created line session table) older fit = refl
fits-first tables t (m.Began line session u level) older fit = refl
fits-first tables t (m.Ran line session command u statement) older fit =
    fits-cond tables (u == t) statement (and_parts (statement_fits tables statement) (statements_fit tables older) fit).0
fits-first tables t (m.Committed line session u) older fit = refl
fits-first tables t (m.Ended line session end u) older fit = refl

fit-behind : (tables : List Table) (newer older : List m.Entry) → statements_fit tables (newer ++ older) ≡ true → statements_fit tables older ≡ true
fit-behind tables [] older fit = fit
fit-behind tables (m.Created line session table ∷ newer) older fit = fit-behind tables newer older fit
fit-behind tables (m.Began line session u level ∷ newer) older fit = fit-behind tables newer older fit
fit-behind tables (m.Ran line session command u statement ∷ newer) older fit =
    fit-behind tables newer older (and_parts (statement_fits tables statement) (statements_fit tables (newer ++ older)) fit).1
fit-behind tables (m.Committed line session u ∷ newer) older fit = fit-behind tables newer older fit
fit-behind tables (m.Ended line session end u ∷ newer) older fit = fit-behind tables newer older fit

-- the statement at a place fits
pub fits-here : (tables : List Table) (t : ℕ) (entries : List Entry) (place : ℕ) (entry : Entry) → slice_get entries place ≡ Some entry
    → statements_fit tables (log_view entries) ≡ true → own_fits tables (own_statement t (entry_view entry)) ≡ true
fits-here tables t entries place entry is fit =
    fits-first tables t (entry_view entry) (log_view (take place entries))
    (fit-behind tables (log_view (drop (place + 1) entries)) (entry_view entry ∷ log_view (take place entries))
    (sym (ap (statements_fit tables) (log-cut entries place entry is)) ∙ fit))
