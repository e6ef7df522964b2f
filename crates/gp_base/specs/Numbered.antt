-- Part of the statement: the texts of rows and of a refusal, as replies and answers print them. Each begins with the number of its line.
use Rattle.std.specs.Prelude.{ℕ, List, [], ◌∷◌, length, codes}
use Rattle.std.specs.List.{concat, flat_map}
use Rattle.std.specs.Fmt.{decimal}
use Rattle.gp_base.specs.declared.cell.Cell.{Cell}
use Rattle.gp_base.specs.declared.refusal.Refusal.{Refusal}
use Rattle.gp_base.specs.Order.{sorted_by, row_cmp}
use Rattle.gp_base.specs.Refusals.{refusal_text}
use Rattle.gp_base.specs.Texts.{row_text}

-- the end of a line
abbrev pub newline : List ℕ
newline = 10 ∷ []

-- a text behind the number of its line
abbrev pub numbered : ℕ → List ℕ → List ℕ
numbered number text = concat (decimal number ∷ codes " " ∷ text ∷ [])

-- a row, on a line of its own after two spaces
abbrev pub row_line : List Cell → List ℕ
row_line row = concat (codes "  " ∷ row_text row ∷ newline ∷ [])

-- rows in row order, each as often as it occurs
abbrev pub rows_text : List (List Cell) → List ℕ
rows_text rows = concat (codes "rows " ∷ decimal (length rows) ∷ newline ∷ flat_map row_line (sorted_by row_cmp rows) ∷ [])

abbrev pub refused_text : Refusal → List ℕ
refused_text refusal = concat (refusal_text refusal ∷ newline ∷ [])
