-- What the next entry of a log is, by what a line says.
use Rattle.gp_dump.proofs.Prelude.{◌≡◌, ℕ, zero, suc, ◌+◌, ◌<◌, Bool, true, nat_le, List, [], ◌∷◌, ◌++◌, length, take, Option, Some, None, Result, Ok, Err, if◌then◌else◌, refl, sym, ap, ◌∙◌, arith, true≢false, ok_or, option_map, eq-eqb, take_all, Refusal, E14, Table, Runs, allowed, What, line_of, Statement, count_refusal, Disorder, command_entry, last_line, statement_entry, transaction_in, tables_in, parameters, entry_view, log_view, what_view, log-pushed}
use Rattle.std.specs.Prelude.{slice_get}
use Rattle.std.proofs.lemmas.Bool.{ne_eqb, lt-leb}
use Rattle.gp_base.specs.declared.limit.Limit.TheVariants as limit
use Rattle.gp_base.specs.declared.refusal.Refusal.TheVariants.{E10}
use Rattle.gp_grammar.specs.Syntax as y
use Rattle.gp_grammar.specs.Syntax.{is_statement}
use Rattle.gp_machine.specs.Entries as m
use Rattle.gp_log.specs.declared.entry.Entry.{Entry}
use Rattle.gp_check.specs.Checking.{checked}
use Rattle.gp_log.specs.declared.limit.TheConstants.{MAX_STATEMENTS, MAX_STEPS}
use Rattle.gp_log.specs.declared.entry.What.TheVariants as what
use Rattle.gp_dump.specs.Reading.{ended}

-- ---- the transaction of a session

pub take-one : {A : Type 0} (xs : List A) (n : ℕ) (x : A) → slice_get xs n ≡ Some x → take (suc n) xs ≡ take n xs ++ x ∷ []
take-one [] n x found = absurd cc
take-one (y ∷ ys) zero x found = let same : y ≡ x = cc in ap (λ z. z ∷ []) same
take-one (y ∷ ys) (suc n) x found = ap (λ zs. y ∷ zs) (take-one ys n x found)

-- the log up to a place, and the one without its newest entry
pub taken-back : (entries : List Entry) (place next : ℕ) (e : Entry) → place ≡ next + 1 → slice_get entries next ≡ Some e → log_view (take place entries) ≡ entry_view e ∷ log_view (take next entries)
taken-back entries place next e is found =
    let more : place ≡ suc next = omega (arith, is) in
    ap (λ n. log_view (take n entries)) more ∙ ap log_view (take-one entries next e found) ∙ log-pushed (take next entries) e

skipped : (session line s t : ℕ) (w : What) (older : List m.Entry) → ¬ (s ≡ session) → transaction_in session (what_view line s t w ∷ older) ≡ transaction_in session older
skipped session line s t (what.Create table) older other = refl
skipped session line s t (what.Begin read_committed) older other = let no = ne_eqb session s (λ same. other (sym same)) in rw no refl
skipped session line s t (what.Statement k command stmt) older other = refl
skipped session line s t what.Commit older other = let no = ne_eqb session s (λ same. other (sym same)) in rw no refl
skipped session line s t what.Lost older other = let no = ne_eqb session s (λ same. other (sym same)) in rw no refl
skipped session line s t what.Rollback older other = let no = ne_eqb session s (λ same. other (sym same)) in rw no refl

-- an entry that begins a transaction
abbrev pub Begins : What → Type 0
Begins (what.Begin read_committed) = Unit {0}
Begins _ = ⊥

begun : (session line s t : ℕ) (w : What) (older : List m.Entry) → Begins w → s ≡ session → transaction_in session (what_view line s t w ∷ older) ≡ Some t
begun session line s t (what.Create table) older begins same = absurd begins
begun session line s t (what.Begin read_committed) older begins same = let is = eq-eqb session s (sym same) in rw is refl
begun session line s t (what.Statement k command stmt) older begins same = absurd begins
begun session line s t what.Commit older begins same = absurd begins
begun session line s t what.Lost older begins same = absurd begins
begun session line s t what.Rollback older begins same = absurd begins

-- what an entry that ends a transaction leaves its session
abbrev pub Ends : What → Type 0
Ends (what.Create table) = ⊥
Ends (what.Begin read_committed) = ⊥
Ends (what.Statement k command stmt) = ⊥
Ends what.Commit = Unit {0}
Ends what.Lost = Unit {0}
Ends what.Rollback = Unit {0}

over : (session line s t : ℕ) (w : What) (older : List m.Entry) → Ends w → s ≡ session → transaction_in session (what_view line s t w ∷ older) ≡ None
over session line s t (what.Create table) older ends same = absurd ends
over session line s t (what.Begin read_committed) older ends same = absurd ends
over session line s t (what.Statement k command stmt) older ends same = absurd ends
over session line s t what.Commit older ends same = let is = eq-eqb session s (sym same) in rw is refl
over session line s t what.Lost older ends same = let is = eq-eqb session s (sym same) in rw is refl
over session line s t what.Rollback older ends same = let is = eq-eqb session s (sym same) in rw is refl

-- an entry that neither begins nor ends a transaction
abbrev pub Passes : What → Type 0
Passes (what.Create table) = Unit {0}
Passes (what.Begin read_committed) = ⊥
Passes (what.Statement k command stmt) = Unit {0}
Passes what.Commit = ⊥
Passes what.Lost = ⊥
Passes what.Rollback = ⊥

passed : (session line s t : ℕ) (w : What) (older : List m.Entry) → Passes w → transaction_in session (what_view line s t w ∷ older) ≡ transaction_in session older
passed session line s t (what.Create table) older passes = refl
passed session line s t (what.Begin read_committed) older passes = absurd passes
passed session line s t (what.Statement k command stmt) older passes = refl
passed session line s t what.Commit older passes = absurd passes
passed session line s t what.Lost older passes = absurd passes
passed session line s t what.Rollback older passes = absurd passes

pub of-another : (session : ℕ) (entries : List Entry) (place next : ℕ) (e : Entry) → place ≡ next + 1 → slice_get entries next ≡ Some e → ¬ (e.session ≡ session)
    → transaction_in session (log_view (take place entries)) ≡ transaction_in session (log_view (take next entries))
of-another session entries place next e is found other =
    ap (transaction_in session) (taken-back entries place next e is found) ∙ skipped session e.line e.session e.t e.what (log_view (take next entries)) other

pub of-itself : (session : ℕ) (entries : List Entry) (place next : ℕ) (e : Entry) → place ≡ next + 1 → slice_get entries next ≡ Some e → Passes e.what
    → transaction_in session (log_view (take place entries)) ≡ transaction_in session (log_view (take next entries))
of-itself session entries place next e is found passes =
    ap (transaction_in session) (taken-back entries place next e is found) ∙ passed session e.line e.session e.t e.what (log_view (take next entries)) passes

pub at-begin : (session : ℕ) (entries : List Entry) (place next : ℕ) (e : Entry) → place ≡ next + 1 → slice_get entries next ≡ Some e → e.session ≡ session → Begins e.what
    → transaction_in session (log_view (take place entries)) ≡ Some e.t
at-begin session entries place next e is found same begins =
    ap (transaction_in session) (taken-back entries place next e is found) ∙ begun session e.line e.session e.t e.what (log_view (take next entries)) begins same

pub at-end : (session : ℕ) (entries : List Entry) (place next : ℕ) (e : Entry) → place ≡ next + 1 → slice_get entries next ≡ Some e → e.session ≡ session → Ends e.what
    → transaction_in session (log_view (take place entries)) ≡ None
at-end session entries place next e is found same ends =
    ap (transaction_in session) (taken-back entries place next e is found) ∙ over session e.line e.session e.t e.what (log_view (take next entries)) ends same

-- the line of the newest entry
line-seen : (line s t : ℕ) (w : What) → line_of (what_view line s t w) ≡ line
line-seen line s t (what.Create table) = refl
line-seen line s t (what.Begin read_committed) = refl
line-seen line s t (what.Statement k command stmt) = refl
line-seen line s t what.Commit = refl
line-seen line s t what.Lost = refl
line-seen line s t what.Rollback = refl

pub newest-line : (entries : List Entry) (count next : ℕ) (e : Entry) → count ≡ length entries → count ≡ next + 1 → slice_get entries next ≡ Some e → last_line (log_view entries) ≡ e.line
newest-line entries count next e all is found =
    ap (λ (es : List Entry). last_line (log_view es)) (sym (take_all count entries (omega (arith, all))))
    ∙ ap last_line (taken-back entries count next e is found) ∙ line-seen e.line e.session e.t e.what

pub ruleset session_steps = (of-another, of-itself, at-begin, at-end)

-- ---- entries

-- a statement is run in a transaction, and in no other place
pub statement-waits : (command : y.Command) → is_statement command ≡ true → allowed {A = ℕ} None command ≡ Err E10
statement-waits (y.create table) is = absurd (true≢false (sym is))
statement-waits (y.begin read_committed) is = absurd (true≢false (sym is))
statement-waits y.Command.commit is = absurd (true≢false (sym is))
statement-waits y.rollback is = absurd (true≢false (sym is))
statement-waits (y.insert table rows) is = refl
statement-waits (y.insert_select table query) is = refl
statement-waits (y.update table sets cond) is = refl
statement-waits (y.delete table cond) is = refl
statement-waits (y.select query) is = refl

pub statement-runs : (t : ℕ) (command : y.Command) → is_statement command ≡ true → allowed (Some t) command ≡ Ok (Runs t command)
statement-runs t (y.create table) is = absurd (true≢false (sym is))
statement-runs t (y.begin read_committed) is = absurd (true≢false (sym is))
statement-runs t y.Command.commit is = absurd (true≢false (sym is))
statement-runs t y.rollback is = absurd (true≢false (sym is))
statement-runs t (y.insert table rows) is = refl
statement-runs t (y.insert_select table query) is = refl
statement-runs t (y.update table sets cond) is = refl
statement-runs t (y.delete table cond) is = refl
statement-runs t (y.select query) is = refl

pub ruleset statement_checks = (statement-waits, statement-runs)

few-counts : (own all : ℕ) → own < MAX_STEPS → all < MAX_STATEMENTS → count_refusal parameters own all ≡ None
few-counts own all steps few =
    ap (λ (b : Bool). if b then Some (E14 limit.Steps) else if nat_le MAX_STATEMENTS all then Some (E14 limit.Statements) else None) (lt-leb MAX_STEPS own steps)
    ∙ ap (λ (b : Bool). if b then Some (E14 limit.Statements) else None) (lt-leb MAX_STATEMENTS all few)

-- a statement in a transaction, within the counts: by its check
pub run-checked : (older : List m.Entry) (line session t : ℕ) (active : Option ℕ) (command : y.Command) (catalog : List Table) (found : Result Statement Refusal) → active ≡ Some t
    → is_statement command ≡ true → m.statement_count t older < MAX_STEPS → m.statements_in older < MAX_STATEMENTS → catalog ≡ tables_in older → checked catalog command ≡ found
    → command_entry parameters older line session (allowed active command) ≡ statement_entry parameters older line session t command None found
run-checked older line session t active command catalog found is statement steps all tables says =
    ap (λ (may : Option ℕ). command_entry parameters older line session (allowed may command)) is
    ∙ (ap (command_entry parameters older line session) (statement-runs t command statement)
    ∙ (ap (λ (refusal : Option Refusal). statement_entry parameters older line session t command refusal (checked (tables_in older) command)) (few-counts (m.statement_count t older) (m.statements_in older) steps all)
    ∙ ap (statement_entry parameters older line session t command None) (ap (λ (ts : List Table). checked ts command) (sym tables) ∙ says)))

-- the ends of a transaction
pub commit-ends : (older : List m.Entry) (line session : ℕ) (active : Option ℕ) → command_entry parameters older line session (allowed active y.Command.commit) ≡ ended line session active what.Commit
commit-ends older line session None = refl
commit-ends older line session (Some t) = refl

pub rollback-ends : (older : List m.Entry) (line session : ℕ) (active : Option ℕ) → command_entry parameters older line session (allowed active y.rollback) ≡ ended line session active what.Rollback
rollback-ends older line session None = refl
rollback-ends older line session (Some t) = refl

pub lost-ends : (older : List m.Entry) (line session : ℕ) (active : Option ℕ) → ok_or (option_map (m.Ended line session m.Lost) active) Disorder ≡ ended line session active what.Lost
lost-ends older line session None = refl
lost-ends older line session (Some t) = refl

pub ruleset next_entries = (commit-ends, rollback-ends, lost-ends)
