-- Of the contract of `list`: rows with their provenance, listed: each distinct row once, with the monomials of all its occurrences. So the sum of a row's
-- monomials is its provenance polynomial (Green, Karvounarakis and Tannen 2007), and a monomial stands there as often as it occurs. Rows and
-- monomials are in order.
use Rattle.std.specs.Prelude.{◌-◌, Bool, List, [], ◌∷◌, ◌++◌, length, take, slice_index_or, if◌then◌else◌}
use Rattle.std.specs.Ordering.{is_eq}
use Rattle.gp_base.specs.declared.cell.Cell.{Cell}
use Rattle.gp_base.specs.declared.cell.Cell.TheVariants as cell
use Rattle.gp_base.specs.Order.{row_cmp, sorted_by}
use Rattle.gp_base.specs.Tokens.{Monomial, one}
use Rattle.gp_semiring.specs.declared.listed.Listed.{Listed}

-- the row of an occurrence, whose last cell is its monomial
abbrev pub cells_of : List Cell → List Cell
cells_of row = take (length row - 1) row

-- the monomial in a cell; another cell counts as one
abbrev pub monomial_in : Cell → Monomial
monomial_in (cell.Mono monomial) = monomial
monomial_in _ = one

abbrev pub monomial_of : List Cell → Monomial
monomial_of row = monomial_in (slice_index_or row (length row - 1) cell.Null)

abbrev pub has_cells : List Cell → List Cell → Bool
has_cells cells row = is_eq (row_cmp cells (cells_of row))

-- occurrences in order, behind a row that has these monomials so far
abbrev pub grouped_after : List Cell → List Monomial → List (List Cell) → List Listed
grouped_after cells monomials [] = record { row = cells; monomials = monomials } ∷ []
grouped_after cells monomials (row ∷ rows) =
    if has_cells cells row then grouped_after cells (monomials ++ monomial_of row ∷ []) rows
    else record { row = cells; monomials = monomials } ∷ grouped_after (cells_of row) (monomial_of row ∷ []) rows

-- occurrences in order: those of one row stand together
abbrev pub grouped : List (List Cell) → List Listed
grouped [] = []
grouped (row ∷ rows) = grouped_after (cells_of row) (monomial_of row ∷ []) rows

-- occurrences in any order
abbrev pub listed : List (List Cell) → List Listed
listed rows = grouped (sorted_by row_cmp rows)
