-- Machinery: the rows that rows with system columns stand for. The last three cells of a row are its identity, its mark and its monomial.
use Rattle.std.specs.Prelude.{◌-◌, Bool, false, List, [], ◌∷◌, take, length, slice_index_or, Option, Some, None}
use Rattle.gp_base.specs.declared.cell.Cell.{Cell}
use Rattle.gp_base.specs.declared.cell.Cell.TheVariants as cell
use Rattle.gp_base.specs.Annotated.{Annotated}
use Rattle.gp_base.specs.Identities.{Identity}
use Rattle.gp_base.specs.Tokens.{Monomial}
use Rattle.gp_expr.specs.Results.{identity_in, monomial_in}

-- its own cells
abbrev pub cells_of : List Cell → List Cell
cells_of row = take (length row - 3) row

abbrev pub identity_of : List Cell → Option Identity
identity_of row = identity_in (slice_index_or row (length row - 3) cell.Null)

abbrev pub mark_in : Cell → Bool
mark_in (cell.Mark mark) = mark
mark_in _ = false

abbrev pub is_marked : List Cell → Bool
is_marked row = mark_in (slice_index_or row (length row - 2) cell.Null)

abbrev pub monomial_of : List Cell → Option Monomial
monomial_of row = monomial_in (slice_index_or row (length row - 1) cell.Null)

-- a row with these cells and this mark, if it has an identity and a monomial
abbrev pub row_from : List Cell → Bool → Option Identity → Option Monomial → Option (Annotated Monomial)
row_from cells mark (Some id) (Some monomial) = Some (record { identity = id; cells = cells; mark = mark; annotation = monomial })
row_from cells mark (Some id) None = None
row_from cells mark None monomial = None

abbrev pub decoded_row : List Cell → Option (Annotated Monomial)
decoded_row row = row_from (cells_of row) (is_marked row) (identity_of row) (monomial_of row)

abbrev pub with_row : Option (Annotated Monomial) → List (Annotated Monomial) → List (Annotated Monomial)
with_row None rows = rows
with_row (Some row) rows = row ∷ rows

-- the rows that all these stand for
abbrev pub decoded : List (List Cell) → List (Annotated Monomial)
decoded [] = []
decoded (row ∷ rows) = with_row (decoded_row row) (decoded rows)
