-- Machinery: conflicts, as the code finds them: the commits that wrote the rows of a table after a version, and the lines of the rows that a statement wrote.
use Rattle.std.specs.Prelude.{ℕ, zero, suc, ◌&&◌, nat_le, nat_lt, Bool, List, [], ◌∷◌, ◌++◌, map, Option, Some, None, if◌then◌else◌}
use Rattle.std.specs.List.{flat_map, list_any}
use Rattle.std.specs.Option.{is_some, option_and_then, option_map_or}
use Rattle.gp_base.specs.declared.cell.Cell.{Cell}
use Rattle.gp_base.specs.Identities.{Identity, same_identity}
use Rattle.gp_algebra.specs.Effects.{Written}
use Rattle.gp_algebra.specs.Statements.{Statement, target}
use Rattle.gp_dump.specs.Dumps.{Dump}
use Rattle.gp_log.specs.LogFacts.{tables_in}
use Rattle.gp_machine.specs.Entries.{Entry, at_newest, committer_of, is_commit, is_end, is_of, statement_at, statement_version, versions_in}
use Rattle.gp_machine.specs.Event.{name_at}
use Rattle.gp_reenact.specs.LookingForms.{system_row}
use Rattle.gp_versions.specs.declared.span.Span.{Span}
use Rattle.gp_versions.specs.TableSpans.{least}
use Rattle.gp_ask.specs.declared.answered.Answered.{Answered}
use Rattle.gp_ask.specs.Asking.{table_spans}
use Rattle.gp_ask.specs.Keyed.{identity_of}
use Rattle.gp_ask.specs.Looked.{is_written_by, rows_of}
use Rattle.gp_ask.specs.RowConflicts.{conflict_text, dump_conflicts, spans_wrote}
use Rattle.gp_ask.specs.RowLines.{RowLine, row_line}
use Rattle.gp_ask.specs.Seeing.{unknown_refusal}
use Rattle.gp_ask.specs.Values.{unless_refused}

-- a row version of a dump begins or ends with the version
abbrev pub dump_wrote : Dump → ℕ → Written → Bool
dump_wrote dump version pair = spans_wrote (table_spans dump.tables pair.table) pair.identity version

abbrev pub conflicts_to : Dump → ℕ → Answered
conflicts_to dump t = unless_refused (unknown_refusal t dump.entries) (dump_conflicts dump t)

-- the end of a transaction
abbrev pub ends : ℕ → Entry → Bool
ends t entry = is_end entry && is_of t entry

-- how many commits came before the end of a transaction, if it has ended
abbrev pub found_before : ℕ → List Entry → Option ℕ
found_before t entries = at_newest (λ entry older. ends t entry) (λ entry older. Some (versions_in older)) None entries

-- by the next entry, given the commits before it and what was found before
abbrev pub found_at : ℕ → ℕ → Entry → Option ℕ → Option ℕ
found_at t commits entry found = if ends t entry then Some commits else found

abbrev pub counted : Entry → ℕ → ℕ
counted entry commits = if is_commit entry then suc commits else commits

-- ---- commits after a version, up to another

module _ (base upto : ℕ) where
  abbrev pub within : ℕ → Option ℕ
  within version = if nat_lt base version && nat_le version upto then Some version else None

  -- the first of them at which the span begins or ends
  abbrev pub met_by : Span → Option ℕ
  met_by span = least (within span.from) (option_and_then within span.to)

  abbrev pub met_at : Identity → Span → Option ℕ
  met_at id span = if same_identity span.id id then met_by span else None

  -- the first of them at which a span of the identity does
  abbrev pub met_in : Identity → List Span → Option ℕ
  met_in id [] = None
  met_in id (span ∷ spans) = least (met_at id span) (met_in id spans)

  abbrev pub any_met : List Span → Bool
  any_met spans = list_any (λ (span : Span). is_some (met_by span)) spans

-- the version that is noted for an identity
abbrev pub noted : Identity → Identity → ℕ → Option ℕ
noted other id version = if same_identity id other then Some version else None

-- ---- lines

module _ (entries : List Entry) (name : List ℕ) (met : Identity → Option ℕ) (base t k : ℕ) (statement : Statement) (table : ℕ) where
  abbrev pub met_line : Identity → Option ℕ → List RowLine
  met_line id None = []
  met_line id (Some version) = row_line table id (conflict_text name id base (committer_of version entries) version) ∷ []

  -- of a row by which one looks at the statement
  abbrev pub row_conflict : List Cell → Option Identity → List RowLine
  row_conflict row None = []
  row_conflict row (Some id) = if is_written_by t k statement id row then met_line id (met id) else []

  abbrev pub rows_conflicts : List (List Cell) → List RowLine
  rows_conflicts rows = flat_map (λ row. row_conflict row (identity_of row)) rows

module _ (dump : Dump) (upto t : ℕ) where
  -- of a statement that writes a table
  abbrev pub writing_conflicts : ℕ → Statement → ℕ → List RowLine
  writing_conflicts k statement table =
      let base = statement_version t k dump.entries in
      rows_conflicts dump.entries (name_at table (tables_in dump.entries)) (λ id. met_in base upto id (table_spans dump.tables table)) base t k statement table
      (map system_row (rows_of dump t k statement))

  abbrev pub statement_conflicts : ℕ → Option Statement → List RowLine
  statement_conflicts k None = []
  statement_conflicts k (Some statement) = option_map_or (writing_conflicts k statement) (target statement) []

  -- of the first statements, this many
  abbrev pub first_conflicts : ℕ → List RowLine
  first_conflicts zero = []
  first_conflicts (suc k) = first_conflicts k ++ statement_conflicts (suc k) (statement_at t (suc k) dump.entries)
