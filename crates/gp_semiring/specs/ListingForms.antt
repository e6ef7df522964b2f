-- Of the law `listings_hold_each_occurrence`: the rows of a listing, and the occurrences that were listed.
use Rattle.std.specs.Prelude.{◌≡◌, List, [], ◌∷◌, ◌++◌, map}
use Rattle.std.specs.List.{flat_map}
use Rattle.gp_base.specs.declared.cell.Cell.{Cell}
use Rattle.gp_base.specs.Tokens.{Monomial}
use Rattle.gp_semiring.specs.declared.listed.Listed.{Listed}
use Rattle.gp_semiring.specs.Listing.{cells_of, grouped_after, monomial_of}

-- the row and the monomial of an occurrence
abbrev pub occurrence : List Cell → List Cell × Monomial
occurrence row = (cells_of row, monomial_of row)

abbrev pub rows_of : List Listed → List (List Cell)
rows_of listing = map (λ (one : Listed). one.row) listing

-- the occurrences of a listing: each row with each of its monomials
abbrev pub occurrences : List Listed → List (List Cell × Monomial)
occurrences listing = flat_map (λ (one : Listed). map (λ (monomial : Monomial). (one.row, monomial)) one.monomials) listing

-- one occurrence, and what it adds to the row that is put together.
abbrev pub opened : List Cell → Listed
opened row = record { row = cells_of row; monomials = monomial_of row ∷ [] }

abbrev pub Adds : List Listed → Listed → List Cell → List Listed → Listed → Type 0
Adds done current row new now = (rows : List (List Cell))
    → new ++ grouped_after now.row now.monomials rows ≡ done ++ grouped_after current.row current.monomials (row ∷ rows)
