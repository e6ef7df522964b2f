-- The statements of a well-formed dump have types over its tables, and its row versions have cells of the types of their columns.
use Rattle.gp_typed.proofs.Prelude.{◌≡◌, ◌≤◌, ℕ, zero, suc, true, false, List, [], ◌∷◌, ◌++◌, length, map, None, Ok, refl, sym, subst, arith, ◌&&◌, AllByRecursion, and_parts, and_from, le-leb, Cell, Column, Kind, Table, identity, no_sources, is_u32, select_fits, statement_fits, Select, checked_query, first_refusal, meant_statement, select_of, query_is_valid, accepted, Began, Committed, Created, Ended, Entry, Ran, log_refusal, tables_in, are_u32, is_typed, kind_type, statement_is_typed, statements_are_typed, merged_at}
use Rattle.std.proofs.Common.{true≢false}
use Rattle.std.specs.Prelude.{slice_index_or}
use Rattle.gp_base.specs.declared.cell.Cell.TheVariants as cell
use Rattle.gp_base.specs.declared.table.Kind.TheVariants as kind
use Rattle.gp_base.specs.Identities.{Identity, Sources, source}
use Rattle.gp_grammar.specs.Canonical.{command_text}
use Rattle.gp_grammar.specs.Syntax as y
use Rattle.gp_grammar.specs.Syntax.{Query}
use Rattle.gp_algebra.proofs.FittingMore.{statement_more}
use Rattle.gp_check.specs.Valid.{tables_are_valid}
use Rattle.gp_check.proofs.FittingLemmas.{fits}
use Rattle.gp_check.proofs.ValidLemmas.{command-derived, tables-added}
use Rattle.gp_machine.specs.Entries.{versions_in}
use Rattle.gp_versions.specs.declared.span.Span.{Span}
use Rattle.gp_log.specs.WholeLogs.{IsLog}
use Rattle.gp_log.specs.Parameters.{parameters}
use Rattle.gp_log.proofs.CheckedEntries.{was_checked}
use Rattle.gp_dumpline.specs.Rows.{AreReadable, IsPart, IsReadable}
use Rattle.gp_dump.specs.Dumps.{Dump, fits_columns, is_of_kind}
use Rattle.gp_dump.proofs.FittingTables.{statements_of_dumps}
use Rattle.gp_dump.specs.WholeDumps as w
use Rattle.gp_dump.specs.WholeDumps.{AreInPlace, AreOfTables, IsDump}
use Rattle.gp_sql.specs.CellTypes.{AreOf, IsOf, all_numbers_fit, numbers_fit}
use Rattle.gp_sql.specs.VersionTables.{AllSpansFit, SpanFits}
use Rattle.gp_typed.proofs.CheckedTypes.{checked_is_typed, checked_query_is_typed}
use Rattle.gp_typed.proofs.ComposedTypes.{merged_at_is_typed}
use Rattle.gp_typed.proofs.MoreTables.{typed_more}

-- ---- statements

abbrev IsRight : List Table → Entry → Type 0
IsRight tables (Ran line session command t statement) = (statement_fits tables statement ≡ true) × (statement_is_typed tables statement ≡ true)
IsRight tables entry = Unit {0}

abbrev AreRight : List Table → List Entry → Type 0
AreRight tables entries = AllByRecursion (IsRight tables) entries

module _ (tables others : List Table) where
  right_more : (entries : List Entry) → AreRight tables entries → AreRight (tables ++ others) entries
  right_more [] are = tt
  right_more (Created line session table ∷ older) are = (tt, right_more older are.1)
  right_more (Began line session t level ∷ older) are = (tt, right_more older are.1)
  right_more (Ran line session command t statement ∷ older) are =
      ((statement_more tables others statement are.0.0, typed_more tables others statement are.0.0 are.0.1), right_more older are.1)
  right_more (Committed line session t ∷ older) are = (tt, right_more older are.1)
  right_more (Ended line session end t ∷ older) are = (tt, right_more older are.1)

log_valid : (entries : List Entry) → w.AreReadable entries → tables_are_valid (tables_in entries) ≡ true
log_valid [] are = refl
log_valid (Created line session table ∷ older) are =
    tables-added (tables_in older) table (log_valid older are.1) (command-derived (command_text (y.create table)) (y.create table) are.0)
log_valid (Began line session t level ∷ older) are = log_valid older are.1
log_valid (Ran line session command t statement ∷ older) are = log_valid older are.1
log_valid (Committed line session t ∷ older) are = log_valid older are.1
log_valid (Ended line session end t ∷ older) are = log_valid older are.1

log_right : (entries : List Entry) → IsLog parameters entries → w.AreReadable entries → AreRight (tables_in entries) entries
log_right [] log are = tt
log_right (Created line session table ∷ older) log are = (tt, right_more (tables_in older) (table ∷ []) older (log_right older log.1 are.1))
log_right (Began line session t level ∷ older) log are = (tt, log_right older log.1 are.1)
log_right (Ran line session command t statement ∷ older) log are =
    let was = was_checked older line session command t statement log.0.follows in
    let is = accepted (first_refusal (tables_in older) command) (meant_statement (tables_in older) command) statement was.1 in
    let valid = command-derived (command_text command) command are.0 in
    let fit = subst (λ made. statement_fits (tables_in older) made ≡ true) is.1 (fits (tables_in older) command (log_valid older are.1) was.0 valid is.0) in
    ((fit, checked_is_typed (tables_in older) command statement was.0 valid was.1), log_right older log.1 are.1)
log_right (Committed line session t ∷ older) log are = (tt, log_right older log.1 are.1)
log_right (Ended line session end t ∷ older) log are = (tt, log_right older log.1 are.1)

only_typed : (tables : List Table) (entries : List Entry) → AreRight tables entries → statements_are_typed tables entries ≡ true
only_typed tables [] are = refl
only_typed tables (Created line session table ∷ older) are = only_typed tables older are.1
only_typed tables (Began line session t level ∷ older) are = only_typed tables older are.1
only_typed tables (Ran line session command t statement ∷ older) are = and_from (statement_is_typed tables statement) (statements_are_typed tables older) are.0.1 (only_typed tables older are.1)
only_typed tables (Committed line session t ∷ older) are = only_typed tables older are.1
only_typed tables (Ended line session end t ∷ older) are = only_typed tables older are.1

pub dump_is_typed : (dump : Dump) → IsDump dump → statements_are_typed (tables_in dump.entries) dump.entries ≡ true
dump_is_typed dump is = only_typed (tables_in dump.entries) dump.entries (log_right dump.entries is.log is.commands)

-- ---- programs

-- the merged program of a checked query over a state of the dump
pub dump_program_is_typed : (dump : Dump) → IsDump dump → (point : y.Point) (query : Query) (select : Select) → query_is_valid query ≡ true → checked_query (tables_in dump.entries) query ≡ Ok select
    → log_refusal dump.entries point ≡ None → is_typed (tables_in dump.entries) (merged_at false dump.entries point select) ≡ true
dump_program_is_typed dump is point query select valid made known =
    let tables = tables_in dump.entries in
    let a = accepted (first_refusal tables (y.select query)) (select_of tables query) select made in
    let fit = subst (λ select. select_fits tables select ≡ true) a.1 (fits tables (y.select query) (log_valid dump.entries is.commands) refl valid a.0) in
    let few : length dump.entries ≤ 0xffff_ffff = let most = is.few_entries in omega (arith, most) in
    merged_at_is_typed dump.entries few (statements_of_dumps dump is) (dump_is_typed dump is) select fit (checked_query_is_typed tables query select valid made) point known

-- ---- row versions

part_fits : (n : ℕ) → IsPart n → is_u32 n ≡ true
part_fits n is = le-leb n 0xffff_ffff (let most = is.1 in omega (arith, most))

mutual
  readable_fits : (id : Identity) → IsReadable id → numbers_fit id ≡ true
  readable_fits (identity t k n ids) is =
      and_from (are_u32 t k n) (all_numbers_fit ids)
      (and_from (is_u32 t) (is_u32 k && is_u32 n) (part_fits t is.0) (and_from (is_u32 k) (is_u32 n) (part_fits k is.1.0) (part_fits n is.1.1.0)))
      (readable_all ids is.1.1.1.1)

  readable_all : (ids : Sources) → AreReadable ids → all_numbers_fit ids ≡ true
  readable_all no_sources are = refl
  readable_all (source id ids) are = and_from (numbers_fit id) (all_numbers_fit ids) (readable_fits id are.0) (readable_all ids are.1)

kind_is : (k : Kind) (x : Cell) → is_of_kind k x ≡ true → IsOf x (kind_type k)
kind_is k cell.Null is = tt
kind_is kind.Int (cell.Int number) is = tt
kind_is kind.Text (cell.Text text) is = tt
kind_is k x is = absurd (true≢false (sym is))

kinds_are : (cols : List Column) (row : List Cell) → fits_columns cols row ≡ true → AreOf row (map (λ (column : Column). kind_type column.kind) cols)
kinds_are [] [] fit = tt
kinds_are [] (x ∷ row) fit = absurd (true≢false (sym fit))
kinds_are (col ∷ cols) [] fit = absurd (true≢false (sym fit))
kinds_are (col ∷ cols) (x ∷ row) fit =
    let are = and_parts (is_of_kind col.kind x) (fits_columns cols row) fit in (kind_is col.kind x are.0, kinds_are cols row are.1)

rows_are : (table : Table) (versions : ℕ) (before spans : List Span) → AreInPlace table.cols versions before spans → AllByRecursion (SpanFits table) spans
rows_are table versions before [] all = tt
rows_are table versions before (span ∷ spans) all =
    ((readable_fits span.id all.0.identity, kinds_are table.cols span.row all.0.cells), rows_are table versions (span ∷ before) spans all.1)

tables_are : (tables : List Table) (versions : ℕ) (spans : List (List Span)) → AreOfTables tables versions spans → AllSpansFit tables (λ table. slice_index_or spans table [])
tables_are [] versions [] all table = tt
tables_are [] versions (first ∷ spans) all table = absurd all
tables_are (first ∷ tables) versions [] all table = absurd all
tables_are (first ∷ tables) versions (rows ∷ spans) all zero = rows_are first versions [] rows all.0
tables_are (first ∷ tables) versions (rows ∷ spans) all (suc table) = tables_are tables versions spans all.1 table

pub dump_spans_fit : (dump : Dump) → IsDump dump → AllSpansFit (tables_in dump.entries) (λ table. slice_index_or dump.tables table [])
dump_spans_fit dump is = tables_are (tables_in dump.entries) (versions_in dump.entries) dump.tables is.spans
