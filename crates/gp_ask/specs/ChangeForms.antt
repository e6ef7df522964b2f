-- Machinery: what a statement and a commit changed, as contracts and lemmas speak of it.
use Rattle.std.specs.Prelude.{ℕ, suc, ◌-◌, ◌==◌, ◌&&◌, not, Bool, false, List, [], ◌∷◌, ◌++◌, map, Option, Some, None, Result, slice_get, if◌then◌else◌}
use Rattle.std.specs.List.{flat_map, zip}
use Rattle.std.specs.Option.{option_and_then, option_map_or}
use Rattle.std.specs.declared.cmp.Ordering.{Ordering}
use Rattle.gp_base.specs.declared.cell.Cell.{Cell}
use Rattle.gp_base.specs.declared.refusal.Refusal.{Refusal}
use Rattle.gp_base.specs.declared.table.Table.{Table}
use Rattle.gp_base.specs.Annotated.{Annotated, Database, monomials, unannotated}
use Rattle.gp_base.specs.Identities.{identity_cmp, same_identity}
use Rattle.gp_base.specs.Order.{sorted_by}
use Rattle.gp_base.specs.Tokens.{Monomial}
use Rattle.gp_grammar.specs.Syntax as y
use Rattle.gp_algebra.specs.Effects.{assigned}
use Rattle.gp_algebra.specs.Statements.{Statement, update, delete, target}
use Rattle.gp_compose.specs.Seen.{changed_rows, changes_refusal}
use Rattle.gp_dump.specs.Dumps.{Dump}
use Rattle.gp_log.specs.LogFacts.{tables_in}
use Rattle.gp_log.specs.Parameters.{parameters}
use Rattle.gp_machine.specs.Entries.{log_of, statement_at, version_of}
use Rattle.gp_machine.specs.Event.{name_at}
use Rattle.gp_machine.specs.HistorySpans.{as_of}
use Rattle.gp_machine.specs.Questions.{given, own_stop, transaction_refusal}
use Rattle.gp_machine.specs.ReadBy.{start_by}
use Rattle.gp_machine.specs.Runs.{run_before}
use Rattle.gp_machine.specs.State.{State}
use Rattle.gp_reenact.specs.Looking.{looked_refusal}
use Rattle.gp_versions.specs.declared.span.Span.{Span}
use Rattle.gp_ask.specs.declared.answered.Answered.{Answered}
use Rattle.gp_ask.specs.declared.answered.Answered.TheVariants.{Lines}
use Rattle.gp_ask.specs.declared.answered.Heading.TheVariants.{Changes}
use Rattle.gp_ask.specs.Asking.{table_spans}
use Rattle.gp_ask.specs.Changes.{change_text, commit_changes, numbered_changes, statement_changes}
use Rattle.gp_ask.specs.Values.{or_refused, unless_refused}

-- ---- a statement

-- a row that it changed, before it and after it; an inserted one is given as it is after it, any other as it was before it
abbrev pub before_of : Statement → List Cell → Option (List Cell)
before_of (update table sets cond) cells = Some cells
before_of (delete table cond) cells = Some cells
before_of _ cells = None

abbrev pub after_of : Statement → List Cell → Option (List Cell)
after_of (update table sets cond) cells = Some (assigned sets cells)
after_of (delete table cond) cells = None
after_of _ cells = Some cells

abbrev pub changed_text : {M : Type 0} → List ℕ → Statement → Annotated M → List ℕ
changed_text name statement row = change_text name row.identity (before_of statement row.cells) (after_of statement row.cells)

-- in the order of their identities; rows of one identity, which no history has, are in the order of the table
abbrev pub by_identity : {M : Type 0} → Annotated M → Annotated M → Ordering
by_identity row other = identity_cmp row.identity other.identity

abbrev pub changed_texts : {M : Type 0} → List ℕ → Statement → List (Annotated M) → List (List ℕ)
changed_texts name statement rows = map (changed_text name statement) (sorted_by by_identity rows)

abbrev pub table_changes : {M : Type 0} → List ℕ → Statement → Result (List (Annotated M)) Refusal → Answered
table_changes name statement found = or_refused (λ rows. Lines Changes (changed_texts name statement rows)) found

-- a SELECT changes nothing, whatever its transaction read; given the tables, and what a statement changed of a table
abbrev pub changes_of : {M : Type 0} → List Table → Option ℕ → Statement → Result (List (Annotated M)) Refusal → Answered
changes_of tables table statement rows = option_map_or (λ (place : ℕ). table_changes (name_at place tables) statement rows) table (Lines Changes [])

-- of a dump: what a transaction reads before its statement k + 1, where those before it ran over the stored versions, and what stops its first k statements
abbrev pub run_starts : Dump → ℕ → ℕ → Database (Unit {0})
run_starts dump t k = run_before unannotated (log_of dump.entries) t k (as_of unannotated (table_spans dump.tables))

abbrev pub run_stops : Dump → ℕ → ℕ → Option Refusal
run_stops dump t k = own_stop unannotated parameters dump.entries (y.after t k) (as_of unannotated (table_spans dump.tables))

-- of a history: what a transaction read, by the rule of the history machine
abbrev pub held_starts : State Monomial → ℕ → ℕ → Database Monomial
held_starts state t k = start_by monomials (log_of state.entries) t k state.committed

abbrev pub changes_over : Dump → ℕ → ℕ → Statement → Answered
changes_over dump = statement_changes unannotated dump.entries (tables_in dump.entries) (run_starts dump) (run_stops dump)

abbrev pub changes_told : Dump → ℕ → ℕ → Answered
changes_told dump = numbered_changes unannotated dump.entries (tables_in dump.entries) (run_starts dump) (run_stops dump)

-- what the logged statement k + 1 gives over the stored versions of a dump, where the statements before it ran
abbrev pub dump_changes : Dump → ℕ → ℕ → Statement → Answered
dump_changes dump t k statement =
    changes_of (tables_in dump.entries) (target statement) statement
    (given (looked_refusal parameters dump.entries (table_spans dump.tables) t k statement)
    (changed_rows unannotated t (suc k) statement (run_before unannotated (log_of dump.entries) t k (as_of unannotated (table_spans dump.tables)))))

-- a number without a statement changes nothing
abbrev pub if_any : (Statement → Answered) → Option Statement → Answered
if_any answer statement = option_map_or answer statement (Lines Changes [])

abbrev pub changes_to : Dump → ℕ → ℕ → Answered
changes_to dump t k = unless_refused (changes_refusal t k dump.entries) (if_any (dump_changes dump t (k - 1)) (statement_at t k dump.entries))

-- ---- a commit

abbrev pub ends_at : ℕ → Span → Bool
ends_at version span = option_map_or (λ to. to == version) span.to false

-- whether a span goes on in the next one at a version: the version wrote its row, and kept it
abbrev pub goes_on : ℕ → Span → Option Span → Bool
goes_on version span next = option_map_or (λ (other : Span). (other.from == version) && same_identity other.id span.id) next false

-- the row before a span that begins at a version, if the span before it ends there
abbrev pub row_before : ℕ → Option Span → Span → Option (List Cell)
row_before version last span = option_and_then (λ (other : Span). if ends_at version other && same_identity other.id span.id then Some other.row else None) last

-- the lines of a span, behind the last one and before the others: the row that begins with it, and the row that ends with it and has no other
abbrev pub span_texts : List ℕ → ℕ → Option Span → Span → Option Span → List (List ℕ)
span_texts name version last span next =
    (if span.from == version then change_text name span.id (row_before version last span) (Some span.row) ∷ [] else [])
    ++ (if ends_at version span && not (goes_on version span next) then change_text name span.id (Some span.row) None ∷ [] else [])

-- those of a table, whose spans are in the order of a dump: by identity, then by the version that they begin with
abbrev pub spans_texts : List ℕ → ℕ → Option Span → List Span → List (List ℕ)
spans_texts name version last [] = []
spans_texts name version last (span ∷ spans) = span_texts name version last span (slice_get spans 0) ++ spans_texts name version (Some span) spans

abbrev pub tables_texts : ℕ → List Table → List (List Span) → List (List ℕ)
tables_texts version tables lists = flat_map (λ (pair : Table × List Span). spans_texts pair.0.name version None pair.1) (zip tables lists)

abbrev pub version_changes : Dump → Option ℕ → Answered
version_changes dump found = option_map_or (commit_changes (tables_in dump.entries) dump.tables) found (Lines Changes [])

abbrev pub commit_changes_to : Dump → ℕ → Answered
commit_changes_to dump t = unless_refused (transaction_refusal t dump.entries) (version_changes dump (version_of t dump.entries))
