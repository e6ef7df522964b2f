-- What one more entry, and one more table, adds to what was read.
use Rattle.gp_dump.proofs.Prelude.{◌≡◌, ℕ, ◌+◌, true, List, [], ◌∷◌, ◌++◌, length, map, reverse, refl, sym, ap, subst, ◌∙◌, arith, map-append, reverse-append, sum_by-cons, Table, tables_are_valid, What, tables_in, log_view, what_view, log-pushed, Span, Versions}
use Rattle.std.proofs.lemmas.List.Folds.{list_all-append}
use Rattle.gp_check.specs.Valid.{table_is_valid}
use Rattle.gp_machine.specs.Entries as m
use Rattle.gp_log.specs.declared.entry.Entry.{Entry}
use Rattle.gp_log.specs.declared.entry.What.TheVariants.{Create, Begin, Statement, Commit, Lost, Rollback}
use Rattle.gp_dump.specs.Dumps.{spans_in}
use Rattle.gp_dump.specs.Reading.{CreatesValid, tables_before}
use Rattle.gp_dump.specs.Views.{tables_view}

-- ---- entries

all-both : (tables : List Table) (table : Table) → tables_are_valid tables ≡ true → table_is_valid table ≡ true → tables_are_valid (tables ++ table ∷ []) ≡ true
all-both tables table all here = list_all-append table_is_valid tables (table ∷ []) ∙ rw (all, here) refl

valid-next : (line session t : ℕ) (what : What) (older : List m.Entry) → tables_are_valid (tables_in older) ≡ true → CreatesValid what → tables_are_valid (tables_in (what_view line session t what ∷ older)) ≡ true
valid-next line session t (Create table) older all here = all-both (tables_in older) table all here
valid-next line session t (Begin read_committed) older all here = all
valid-next line session t (Statement k command stmt) older all here = all
valid-next line session t Commit older all here = all
valid-next line session t Lost older all here = all
valid-next line session t Rollback older all here = all

pub valid-pushed : (entries : List Entry) (entry : Entry) → tables_are_valid (tables_in (log_view entries)) ≡ true → CreatesValid entry.what → tables_are_valid (tables_in (log_view (entries ++ entry ∷ []))) ≡ true
valid-pushed entries entry all here =
    subst (λ (log : List m.Entry). tables_are_valid (tables_in log) ≡ true) (sym (log-pushed entries entry)) (valid-next entry.line entry.session entry.t entry.what (log_view entries) all here)

pub ruleset entry_steps = (log-pushed, valid-pushed)

-- ---- tables

pub tables-pushed : (versions : List Versions) (table : Versions) → tables_before (versions ++ table ∷ []) ≡ table.spans ∷ tables_before versions
tables-pushed versions table =
    ap reverse (map-append (λ (t : Versions). t.spans) versions (table ∷ [])) ∙ reverse-append (tables_view versions) (table.spans ∷ [])

pub spans-pushed : (versions : List Versions) (table : Versions) → spans_in (tables_before (versions ++ table ∷ [])) ≡ spans_in (tables_before versions) + length table.spans
spans-pushed versions table =
    let first : spans_in (tables_before (versions ++ table ∷ [])) ≡ spans_in (table.spans ∷ tables_before versions) = ap spans_in (tables-pushed versions table) in
    let more : spans_in (table.spans ∷ tables_before versions) ≡ length table.spans + spans_in (tables_before versions) =
    sum_by-cons (λ (n : ℕ). n) (length table.spans) (map (λ (spans : List Span). length spans) (tables_before versions)) in
    omega (arith, first, more)

pub ruleset table_steps = (tables-pushed, spans-pushed)
