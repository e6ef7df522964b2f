-- The statements and the row versions of a well-formed dump fit its tables. What was checked fits the tables of its time, and what fits some tables fits
-- them with more behind.
use Rattle.gp_dump.proofs.Prelude.{◌≡◌, ◌≤◌, ℕ, zero, suc, Bool, true, false, true≢false, List, [], ◌∷◌, ◌++◌, codes, length, Some, None, if◌then◌else◌, Result, Ok, Err, refl, sym, ap, subst, AllByRecursion, list_all, eq-eqb, and_parts, Cell, MAX_NODES, Column, Kind, Table, is_user_cell, Identity, identity, nodes, command_text, Fault, command_of, Command, Statement, first_refusal, meant_statement, is_valid, tables_are_valid, accepted, Began, Committed, Created, Ended, Entry, Ran, versions_in, Span, Does, IsLog, Loses, next_entry, tables_in, parameters, if_canonical, IsReadable, said_text, is-said}
use Rattle.std.proofs.Common.{bytes_eq}
use Rattle.std.specs.Prelude.{slice_index_or}
use Rattle.std.proofs.lemmas.Bool.{and_from}
use Rattle.gp_base.specs.declared.cell.Cell.TheVariants as cell
use Rattle.gp_base.specs.declared.table.Kind.TheVariants as kind
use Rattle.gp_grammar.specs.Syntax as y
use Rattle.gp_algebra.specs.Fitting.{row_fits, statement_fits}
use Rattle.gp_algebra.proofs.FittingMore.{statement_more}
use Rattle.gp_check.proofs.FittingLemmas.{fits}
use Rattle.gp_check.proofs.ValidLemmas.{tables-added}
use Rattle.gp_log.proofs.CheckedEntries.{was_checked}
use Rattle.gp_log.specs.LogFitting.{SpanFits, SpansFit, statements_fit}
use Rattle.gp_dumpline.specs.Forms.{said_of}
use Rattle.gp_dump.specs.Dumps.{Dump, fits_columns, is_of_kind}
use Rattle.gp_dump.specs.WholeDumps.{AreInPlace, AreOfTables, AreReadable, IsDump}
use Rattle.gp_dump.proofs.ReadCommands.{read_valid}

-- ---- more tables behind

module _ (tables others : List Table) where
  entries_more : (entries : List Entry) → statements_fit tables entries ≡ true → statements_fit (tables ++ others) entries ≡ true
  entries_more [] fit = refl
  entries_more (Created line session table ∷ older) fit = entries_more older fit
  entries_more (Began line session t read_committed ∷ older) fit = entries_more older fit
  entries_more (Ran line session command t statement ∷ older) fit =
      let are = and_parts (statement_fits tables statement) _ fit in and_from _ _ (statement_more tables others statement are.0) (entries_more older are.1)
  entries_more (Committed line session t ∷ older) fit = entries_more older fit
  entries_more (Ended line session end t ∷ older) fit = entries_more older fit

-- ---- commands that can be read from their texts

said_valid : (command : Command) → said_of (said_text (Does command)) ≡ Some (Does command) → is_valid command ≡ true
unfolding said_of
said_valid command said = read_valid command (go (bytes_eq (command_text command) (codes "LOST")) said)
  where
    same : (one other : Command) → Some (Does one) ≡ Some (Does other) → one ≡ other
    same one other e = cc

    of_text : (b : Bool) (found : Command) → (if b then Some (Does found) else None) ≡ Some (Does command) → found ≡ command
    of_text true found e = same found command e
    of_text false found e = cc

    canonical : (found : Result Command Fault) → if_canonical (command_text command) found ≡ Some (Does command) → found ≡ Ok command
    canonical (Err fault) e = cc
    canonical (Ok found) e = ap Ok (of_text (bytes_eq (command_text found) (command_text command)) found e)

    go : (b : Bool) → (if b then Some Loses else if_canonical (command_text command) (command_of (command_text command))) ≡ Some (Does command)
        → command_of (command_text command) ≡ Ok command
    go true e = cc
    go false e = canonical (command_of (command_text command)) e

-- ---- statements of a log were checked

ran_fits : (older : List Entry) (line session : ℕ) (command : Command) (t : ℕ) (statement : Statement)
    → next_entry parameters older line session (Does command) ≡ Ok (Ran line session command t statement)
    → is_valid command ≡ true → tables_are_valid (tables_in older) ≡ true → statement_fits (tables_in older) statement ≡ true
ran_fits older line session command t statement follows valid columns =
    let was = was_checked older line session command t statement follows in
    let is = accepted (first_refusal (tables_in older) command) (meant_statement (tables_in older) command) statement was.1 in
    subst (λ made. statement_fits (tables_in older) made ≡ true) is.1 (fits (tables_in older) command columns was.0 valid is.0)

log_valid : (entries : List Entry) → AreReadable entries → tables_are_valid (tables_in entries) ≡ true
log_valid [] readable = refl
log_valid (Created line session table ∷ older) readable = tables-added (tables_in older) table (log_valid older readable.1) (said_valid (y.create table) (is-said (Does (y.create table)) readable.0))
log_valid (Began line session t read_committed ∷ older) readable = log_valid older readable.1
log_valid (Ran line session command t statement ∷ older) readable = log_valid older readable.1
log_valid (Committed line session t ∷ older) readable = log_valid older readable.1
log_valid (Ended line session end t ∷ older) readable = log_valid older readable.1

log_fits : (entries : List Entry) → IsLog parameters entries → AreReadable entries → statements_fit (tables_in entries) entries ≡ true
log_fits [] log readable = refl
log_fits (Created line session table ∷ older) log readable = entries_more (tables_in older) (table ∷ []) older (log_fits older log.1 readable.1)
log_fits (Began line session t read_committed ∷ older) log readable = log_fits older log.1 readable.1
log_fits (Ran line session command t statement ∷ older) log readable =
    and_from _ _ (ran_fits older line session command t statement log.0.follows (said_valid command (is-said (Does command) readable.0)) (log_valid older readable.1))
    (log_fits older log.1 readable.1)
log_fits (Committed line session t ∷ older) log readable = log_fits older log.1 readable.1
log_fits (Ended line session end t ∷ older) log readable = log_fits older log.1 readable.1

-- ---- row versions

pub user_cell : (k : Kind) (x : Cell) → is_of_kind k x ≡ true → is_user_cell x ≡ true
user_cell k cell.Null is = refl
user_cell kind.Int (cell.Int number) is = is
user_cell kind.Int (cell.Text text) is = absurd (true≢false (sym is))
user_cell kind.Text (cell.Text text) is = is
user_cell kind.Text (cell.Int number) is = absurd (true≢false (sym is))
user_cell k (cell.Id id) is = absurd (true≢false (sym is))
user_cell k (cell.Mark mark) is = absurd (true≢false (sym is))
user_cell k (cell.Mono monomial) is = absurd (true≢false (sym is))

user_cells : (cols : List Column) (row : List Cell) → fits_columns cols row ≡ true → list_all is_user_cell row ≡ true
user_cells [] [] fit = refl
user_cells [] (x ∷ row) fit = absurd (true≢false (sym fit))
user_cells (col ∷ cols) [] fit = refl
user_cells (col ∷ cols) (x ∷ row) fit =
    let are = and_parts (is_of_kind col.kind x) _ fit in and_from _ _ (user_cell col.kind x are.0) (user_cells cols row are.1)

cells_fit : (cols : List Column) (row : List Cell) → fits_columns cols row ≡ true → row_fits (length cols) row ≡ true
cells_fit cols row fit = and_from _ _ (eq-eqb (length row) (length cols) (same cols row fit)) (user_cells cols row fit)
  where
    same : (cols : List Column) (row : List Cell) → fits_columns cols row ≡ true → length row ≡ length cols
    same [] [] fit = refl
    same [] (x ∷ row) fit = absurd (true≢false (sym fit))
    same (col ∷ cols) [] fit = absurd (true≢false (sym fit))
    same (col ∷ cols) (x ∷ row) fit = ap suc (same cols row (and_parts (is_of_kind col.kind x) _ fit).1)

small : (id : Identity) → IsReadable id → nodes id ≤ MAX_NODES
small (identity t k n ids) readable = readable.1.1.1.0

rows_fit : (cols : List Column) (versions : ℕ) (before spans : List Span) → AreInPlace cols versions before spans → AllByRecursion (SpanFits (length cols)) spans
rows_fit cols versions before [] all = tt
rows_fit cols versions before (span ∷ spans) all =
    (record { cells = cells_fit cols span.row all.0.cells; small = small span.id all.0.identity }, rows_fit cols versions (span ∷ before) spans all.1)

tables_fit : (tables : List Table) (versions : ℕ) (spans : List (List Span)) → AreOfTables tables versions spans
    → SpansFit tables (λ table. slice_index_or spans table [])
tables_fit [] versions [] all table = tt
tables_fit [] versions (first ∷ spans) all table = absurd all
tables_fit (first ∷ tables) versions [] all table = absurd all
tables_fit (first ∷ tables) versions (rows ∷ spans) all zero = rows_fit first.cols versions [] rows all.0
tables_fit (first ∷ tables) versions (rows ∷ spans) all (suc table) = tables_fit tables versions spans all.1 table

-- ---- dumps

pub statements_of_dumps : (dump : Dump) → IsDump dump → statements_fit (tables_in dump.entries) dump.entries ≡ true
statements_of_dumps dump is = log_fits dump.entries is.log is.commands

pub spans_of_dumps : (dump : Dump) → IsDump dump → SpansFit (tables_in dump.entries) (λ table. slice_index_or dump.tables table [])
spans_of_dumps dump is = tables_fit (tables_in dump.entries) (versions_in dump.entries) dump.tables is.spans
