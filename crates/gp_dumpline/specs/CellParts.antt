-- Machinery: the cells of a row line as the code reads them, part by part.
use Rattle.std.specs.Prelude.{false, ℕ, List, [], ◌∷◌, ◌++◌, Option, Some, None}
use Rattle.std.specs.Option.{option_map}
use Rattle.gp_base.specs.declared.cell.Cell.{Cell}
use Rattle.gp_dumpline.specs.RowForms.{further_cells, parts_of, put}

-- a beginning in front of the first part
abbrev pub puts : List ℕ → List (List ℕ) → List (List ℕ)
puts [] parts = parts
puts (byte ∷ bytes) parts = put byte (puts bytes parts)

-- the parts of what is behind a comma, where there is one
abbrev pub parts_behind : Option (List ℕ) → List (List ℕ)
parts_behind None = []
parts_behind (Some rest) = parts_of false rest

-- these cells and those of what is behind a comma
abbrev pub with_further : List Cell → Option (List ℕ) → Option (List Cell)
with_further cells rest = option_map (λ (others : List Cell). cells ++ others) (further_cells (parts_behind rest))
