-- Machinery: the history of rows, as the code makes it: which identities are asked for, and the lines of the rows that a statement changed.
use Rattle.std.specs.Prelude.{◌≡◌, ◌<◌, ◌≤◌, ℕ, zero, suc, ◌==◌, ◌&&◌, not, Bool, true, false, List, [], ◌∷◌, ◌++◌, filter, map, Option, Some, None, if◌then◌else◌}
use Rattle.std.specs.List.{flat_map, list_all}
use Rattle.std.specs.Option.{option_map_or}
use Rattle.gp_base.specs.declared.cell.Cell.{Cell}
use Rattle.gp_base.specs.declared.refusal.Refusal.{Refusal}
use Rattle.gp_base.specs.declared.refusal.Refusal.TheVariants.{E04}
use Rattle.gp_base.specs.Annotated.{unannotated}
use Rattle.gp_base.specs.Catalogs.{place_of}
use Rattle.gp_base.specs.Identities.{Identity, same_identity}
use Rattle.gp_expr.specs.ExpressionForms.{cond_is_simple}
use Rattle.gp_expr.specs.Values.{passes}
use Rattle.gp_grammar.specs.Syntax as y
use Rattle.gp_algebra.specs.Statements.{Branch, Select, Statement, insert_select, target}
use Rattle.gp_check.specs.Checking.{checked_query}
use Rattle.gp_compose.specs.Seen.{is_changed_by}
use Rattle.gp_dump.specs.Dumps.{Dump}
use Rattle.gp_log.specs.LogFacts.{tables_in}
use Rattle.gp_log.specs.Parameters.{parameters}
use Rattle.gp_machine.specs.Entries.{Entry, committer_of, statement_at, statement_count, versions_in}
use Rattle.gp_reenact.specs.LookingForms.{system_row}
use Rattle.gp_serial.specs.Serializing.{runs_refusal}
use Rattle.gp_versions.specs.declared.span.Span.{Span}
use Rattle.gp_ask.specs.declared.answered.Answered.{Answered}
use Rattle.gp_ask.specs.declared.answered.Answered.TheVariants.{Refused}
use Rattle.gp_ask.specs.Asking.{table_spans}
use Rattle.gp_ask.specs.ChangeForms.{after_of, before_of, run_starts}
use Rattle.gp_ask.specs.Changes.{Change}
use Rattle.gp_ask.specs.Keyed.{cells_of, identity_of}
use Rattle.gp_ask.specs.Looked.{rows_of}
use Rattle.gp_ask.specs.RowHistories.{all_of, asked_in, changed_in, history_text, row_history}
use Rattle.gp_ask.specs.RowLines.{RowLine, few, keyed_from, row_line}
use Rattle.gp_ask.specs.Values.{or_refused, unless_refused}

-- ---- of a dump

abbrev pub dump_asked : Dump → ℕ → Select → Identity → Bool
dump_asked dump table select = asked_in (table_spans dump.tables table) select

abbrev pub dump_changed : Dump → ℕ → ℕ → ℕ → List Change
dump_changed dump = changed_in unannotated dump.entries dump.tables (run_starts dump)

-- the first stop of the transactions that made the first versions, this many
abbrev pub stop_upto : Dump → ℕ → Option Refusal
stop_upto dump version = runs_refusal parameters dump.entries (table_spans dump.tables) version

abbrev pub dump_history : Dump → ℕ → Select → Answered
dump_history dump table select =
    unless_refused (stop_upto dump (versions_in dump.entries)) (row_history unannotated dump.entries dump.tables (run_starts dump) table select)

abbrev pub history_to : Dump → y.Bytes → Option y.Term → Answered
history_to dump name cond =
    or_refused (λ (select : Select). option_map_or (λ (place : ℕ). dump_history dump place select) (place_of name (tables_in dump.entries)) (Refused (E04 name)))
    (checked_query (tables_in dump.entries) (all_of name cond))

-- ---- a condition

abbrev pub branch_meets : Branch → List Cell → Bool
branch_meets branch cells = option_map_or (λ cond. passes cond cells) branch.cond true

abbrev pub is_simple_branch : Branch → Bool
is_simple_branch branch = option_map_or cond_is_simple branch.cond true

abbrev pub is_simple_select : Select → Bool
is_simple_select select = list_all is_simple_branch select

-- a span whose row meets it
abbrev pub span_asks : Select → Identity → Span → Bool
span_asks select id span = same_identity span.id id && list_all (λ (branch : Branch). branch_meets branch span.row) select

-- ---- the rows that are asked for, alone

-- what a statement leaves of a row of the table is by the rows of this identity alone
abbrev pub is_by_identity : ℕ → Statement → Bool
is_by_identity table (insert_select place select) = not (table == place)
is_by_identity table statement = true

abbrev pub is_found_by_identity : ℕ → Option Statement → Bool
is_found_by_identity table statement = option_map_or (is_by_identity table) statement true

-- the first statements of a transaction, this many
abbrev pub AreByIdentity : ℕ → ℕ → ℕ → List Entry → Type 0
AreByIdentity table t count entries = (k : ℕ) → 0 < k → k ≤ count → is_found_by_identity table (statement_at t k entries) ≡ true

-- of row versions, those of the table with these identities
abbrev pub narrowed : (ℕ → List Span) → ℕ → (Identity → Bool) → ℕ → List Span
narrowed spans table is_asked place = if place == table then filter (λ (span : Span). is_asked span.id) (spans table) else []

-- ---- lines

-- what is added to lines that are kept as far as they are few
abbrev pub Pushes : List RowLine → List (List Cell) → List (List Cell) → Type 0
Pushes more old new = (lines : List RowLine) → old ≡ keyed_from 0 (few lines) → new ≡ keyed_from 0 (few (lines ++ more))

-- of a row that a statement changed
abbrev pub change_line : ℕ → ℕ → ℕ → Statement → ℕ → Identity → List Cell → RowLine
change_line version t k statement table id cells = row_line table id (history_text version t k (id, (before_of statement cells, after_of statement cells)))

module _ (is_asked : Identity → Bool) (version t k : ℕ) (statement : Statement) (table : ℕ) where
  -- of a row by which one looks at the statement
  abbrev pub row_change : List Cell → Option Identity → List RowLine
  row_change row None = []
  row_change row (Some id) = if is_changed_by t k statement id && is_asked id then change_line version t k statement table id (cells_of row) ∷ [] else []

  abbrev pub rows_changes : List (List Cell) → List RowLine
  rows_changes rows = flat_map (λ row. row_change row (identity_of row)) rows

module _ (dump : Dump) (table : ℕ) (is_asked : Identity → Bool) (version : ℕ) where
  abbrev pub statement_changes : ℕ → ℕ → Option Statement → List RowLine
  statement_changes t k None = []
  statement_changes t k (Some statement) =
      if option_map_or (λ (place : ℕ). place == table) (target statement) false
      then rows_changes is_asked version t k statement table (map system_row (rows_of dump t k statement)) else []

  -- of the first statements of the transaction that made the version, this many
  abbrev pub first_changes : ℕ → ℕ → List RowLine
  first_changes t zero = []
  first_changes t (suc k) = first_changes t k ++ statement_changes t (suc k) (statement_at t (suc k) dump.entries)

-- of the first versions, this many
abbrev pub versions_changes : Dump → ℕ → (Identity → Bool) → ℕ → List RowLine
versions_changes dump table is_asked zero = []
versions_changes dump table is_asked (suc version) =
    let t = committer_of (suc version) dump.entries in
    versions_changes dump table is_asked version ++ first_changes dump table is_asked (suc version) t (statement_count t dump.entries)
