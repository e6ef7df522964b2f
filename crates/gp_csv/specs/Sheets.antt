-- Part of the statement: the sheet of a CSV text. The text is read after RFC 4180, without a header row, and its records may differ in length. The
-- first record names the columns, and each other one is a row.
use Rattle.std.specs.Prelude.{ℕ, suc, not, List, [], ◌∷◌, length, unwrap_or, Result, Ok, if◌then◌else◌, ◌==◌}
use Rattle.std.specs.List.{list_all}
use Rattle.std.specs.Str.{is_utf8}
use Rattle.csv.specs.Reading.{default_config, records, strip_bom}
use Rattle.csv.specs.Records.{field_at}
use Rattle.gp_base.specs.declared.cell.Cell.{Cell}
use Rattle.gp_base.specs.declared.table.Column.{Column}
use Rattle.gp_base.specs.declared.table.Kind.{Kind}
use Rattle.gp_base.specs.declared.table.Kind.TheVariants as kind
use Rattle.gp_csv.specs.Faults.{Fault, or_refuse, refuse, result_map, result_then}
use Rattle.gp_csv.specs.Fields.{cells_from, is_int_field}
use Rattle.gp_csv.specs.Headings.{header_of}
use Rattle.gp_csv.specs.declared.heading.Heading.{Heading}
use Rattle.gp_csv.specs.declared.sheet.Sheet.{Sheet}
use Rattle.gp_csv.specs.declared.error.TheConstants.{NOT_UTF8, BAD_HEADER, BAD_LENGTH, BAD_CELL}

-- the records of a text, which may begin with one byte order mark
abbrev pub records_of : List ℕ → List (List (List ℕ))
records_of bytes = records default_config (strip_bom bytes)

-- ---- columns

-- the type of a column whose heading has none: INT, if every record that has its field has a number or NULL there
abbrev pub inferred : ℕ → List (List (List ℕ)) → Kind
inferred place others = if list_all (λ (fields : List (List ℕ)). is_int_field (field_at fields place)) others then kind.Int else kind.Text

-- the columns of headings, the first of which is at this place, over the other records
abbrev pub columns_from : ℕ → List (List (List ℕ)) → List Heading → List Column
columns_from place others [] = []
columns_from place others (heading ∷ headings) =
    record { name = heading.name; kind = unwrap_or heading.kind (inferred place others) } ∷ columns_from (suc place) others headings

-- ---- rows

-- the row of the record of this number, or its first fault
unfoldable pub sheet_row : List Column → ℕ → List (List ℕ) → Result (List Cell) Fault
sheet_row columns number fields =
    if not (list_all is_utf8 fields) then refuse NOT_UTF8 number
    else (if length fields == length columns then or_refuse BAD_CELL number (cells_from 0 fields columns) else refuse BAD_LENGTH number)

-- the rows of the records from this number on, or the first fault
abbrev pub rows_from : List Column → ℕ → List (List (List ℕ)) → Result (List (List Cell)) Fault
rows_from columns number [] = Ok []
rows_from columns number (fields ∷ others) =
    result_then (λ (row : List Cell). result_map (λ (rows : List (List Cell)). row ∷ rows) (rows_from columns (suc number) others)) (sheet_row columns number fields)

-- ---- sheets

abbrev pub sheet_under : List (List (List ℕ)) → List Heading → Result Sheet Fault
sheet_under others headings =
    result_map (λ (rows : List (List Cell)). record { cols = columns_from 0 others headings; rows = rows }) (rows_from (columns_from 0 others headings) 2 others)

abbrev pub sheet_of_records : List (List (List ℕ)) → Result Sheet Fault
sheet_of_records [] = refuse BAD_HEADER 1
sheet_of_records (first ∷ others) = result_then (sheet_under others) (header_of first)

-- the sheet of a text, or the first fault of its first record with a fault
abbrev pub sheet_of : List ℕ → Result Sheet Fault
sheet_of bytes = sheet_of_records (records_of bytes)
