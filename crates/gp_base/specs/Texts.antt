-- Part of the statement: the texts of cells and rows, as replies and dumps print them. A text value is printed as a character
-- string literal of SQL (ISO/IEC 9075-2): in quotes, with each quote inside doubled.
use Rattle.std.specs.Prelude.{ℕ, true, false, List, [], ◌∷◌, ◌++◌, codes, if◌then◌else◌, ◌==◌}
use Rattle.std.specs.List.{flat_map, concat}
use Rattle.std.specs.Fmt.{signed_decimal}
use Rattle.gp_base.specs.declared.cell.Cell.{Cell}
use Rattle.gp_base.specs.declared.cell.Cell.TheVariants.{Null, Int, Text, Id, Mark, Mono}
use Rattle.gp_base.specs.declared.display.TheConstants.{QUOTE}
use Rattle.gp_base.specs.Identities.{identity_text}
use Rattle.gp_base.specs.Tokens.{monomial_text}
use Rattle.gp_base.specs.Writing.{joined_texts}

-- a byte of a text value inside its quotes
abbrev pub quoted_byte : ℕ → List ℕ
quoted_byte byte = if byte == QUOTE then QUOTE ∷ QUOTE ∷ [] else byte ∷ []

-- a cell: NULL, a decimal number, a text in quotes, an identity in braces, a mark, or a monomial in brackets
abbrev pub cell_text : Cell → List ℕ
cell_text Null = codes "NULL"
cell_text (Int number) = signed_decimal number
cell_text (Text text) = QUOTE ∷ flat_map quoted_byte text ++ QUOTE ∷ []
cell_text (Id id) = concat (codes "{" ∷ identity_text id ∷ codes "}" ∷ [])
cell_text (Mark true) = codes "YES"
cell_text (Mark false) = codes "NO"
cell_text (Mono monomial) = concat (codes "[" ∷ monomial_text monomial ∷ codes "]" ∷ [])

-- a row: its cells, separated by a comma and a space
abbrev pub row_text : List Cell → List ℕ
row_text = joined_texts cell_text (codes ", ")
