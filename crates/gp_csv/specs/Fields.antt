-- Part of the statement: the cells that fields of a sheet write. NULL is `\N`, as in the text format of PostgreSQL's COPY, or an empty field of an
-- INT column. A text that begins with a backslash is written with two.
use Rattle.std.specs.Prelude.{ℕ, ℤ, zero, suc, pos, negsuc, ◌^◌, nat_lt, Bool, List, [], ◌∷◌, Option, Some, None, is_some, option_and_then, if◌then◌else◌, ◌==◌, true}
use Rattle.std.specs.Option.{option_map, option_map_or}
use Rattle.std.specs.Str.{bytes_eq}
use Rattle.csv.specs.Records.{field_at}
use Rattle.gp_base.specs.Digits.{read_on}
use Rattle.gp_base.specs.Cells.{is_user_text}
use Rattle.gp_base.specs.declared.cell.Cell.{Cell}
use Rattle.gp_base.specs.declared.cell.Cell.TheVariants as cell
use Rattle.gp_base.specs.declared.table.Column.{Column}
use Rattle.gp_base.specs.declared.table.Kind.{Kind}
use Rattle.gp_base.specs.declared.table.Kind.TheVariants as kind
use Rattle.gp_csv.specs.declared.field.TheConstants.{BACKSLASH, MINUS}

-- ---- numbers

-- the number of one digit or more; leading zeros count nothing
abbrev pub magnitude_of : List ℕ → Option ℕ
magnitude_of [] = None
magnitude_of (byte ∷ bytes) = read_on 0 (byte ∷ bytes)

-- a number of 64 bits with sign, without and with a minus
abbrev pub positive_of : ℕ → Option ℤ
positive_of n = if nat_lt n (2 ^ 63) then Some (pos n) else None

abbrev pub negative_of : ℕ → Option ℤ
negative_of zero = Some (pos 0)
negative_of (suc n) = if nat_lt n (2 ^ 63) then Some (negsuc n) else None

abbrev pub number_of : List ℕ → Option ℤ
number_of [] = None
number_of (byte ∷ bytes) =
    if byte == MINUS then option_and_then negative_of (magnitude_of bytes) else option_and_then positive_of (magnitude_of (byte ∷ bytes))

-- ---- cells

-- `\N`
abbrev pub null_field : List ℕ
null_field = BACKSLASH ∷ 78 ∷ []

-- the text after an escaping backslash: another backslash, and the rest
abbrev pub after_escape : List ℕ → Option (List ℕ)
after_escape [] = None
after_escape (byte ∷ bytes) = if byte == BACKSLASH then Some (byte ∷ bytes) else None

-- the text of a field of a TEXT column
abbrev pub unescaped : List ℕ → Option (List ℕ)
unescaped [] = Some []
unescaped (byte ∷ bytes) = if byte == BACKSLASH then after_escape bytes else Some (byte ∷ bytes)

-- the cell of a text, if a user can write it
abbrev pub text_cell : List ℕ → Option Cell
text_cell text = if is_user_text text then Some (cell.Text text) else None

-- a number, or NULL where the field is empty
abbrev pub int_cell_of : List ℕ → Option Cell
int_cell_of [] = Some cell.Null
int_cell_of (byte ∷ bytes) = option_map (λ (number : ℤ). cell.Int number) (number_of (byte ∷ bytes))

-- the cell of a field that is not `\N`
abbrev pub value_cell_of : Kind → List ℕ → Option Cell
value_cell_of kind.Int field = int_cell_of field
value_cell_of kind.Text field = option_and_then text_cell (unescaped field)

-- the cell that a field is in a column of this kind, if it is one
unfoldable pub cell_of : Kind → List ℕ → Option Cell
cell_of column field = if bytes_eq field null_field then Some cell.Null else value_cell_of column field

-- the cells of a record in these columns, the first of which is at this place; none if a field is no cell of its column
abbrev pub cells_from : ℕ → List (List ℕ) → List Column → Option (List Cell)
cells_from place fields [] = Some []
cells_from place fields (column ∷ columns) =
    option_and_then (λ (cell : Cell). option_map (λ (cells : List Cell). cell ∷ cells) (cells_from (suc place) fields columns))
    (option_and_then (cell_of column.kind) (field_at fields place))

-- a record has no field at the place, or one that an INT column can hold
abbrev pub is_int_field : Option (List ℕ) → Bool
is_int_field field = option_map_or (λ (bytes : List ℕ). is_some (cell_of kind.Int bytes)) field true
