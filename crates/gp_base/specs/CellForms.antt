-- Of the contract of `to_cell` and of the law `row_text_is_injective`: cells that the code can hold, and those of users.
use Rattle.std.specs.Prelude.{List, [], ◌∷◌, FitsSigned}
use Rattle.std.specs.Int.{w64}
use Rattle.gp_base.specs.declared.cell.Cell.{Cell}
use Rattle.gp_base.specs.declared.cell.Cell.TheVariants.{Null, Int, Text, Id, Mark, Mono}
use Rattle.gp_base.specs.declared.cell.CellRef as r
use Rattle.gp_base.specs.declared.cell.CellRef.TheVariants as v
use Rattle.gp_base.specs.IdentityForms.{IsIdentity}
use Rattle.gp_base.specs.MonomialForms.{IsMonomial}

-- a number in a cell fits 64 bits with sign, and an identity or a monomial is one
abbrev pub IsInRange : Cell → Type 0
IsInRange Null = Unit {0}
IsInRange (Int number) = FitsSigned w64 number
IsInRange (Text text) = Unit {0}
IsInRange (Id id) = IsIdentity id
IsInRange (Mark mark) = Unit {0}
IsInRange (Mono monomial) = IsMonomial monomial

-- so is every cell of a row
abbrev pub AreInRange : List Cell → Type 0
AreInRange [] = Unit {0}
AreInRange (cell ∷ cells) = IsInRange cell × AreInRange cells

-- a cell that a table can hold: NULL, a number in range, or a text
abbrev pub IsPlain : Cell → Type 0
IsPlain Null = Unit {0}
IsPlain (Int number) = FitsSigned w64 number
IsPlain (Text text) = Unit {0}
IsPlain _ = ⊥

-- so is each cell of a row
abbrev pub ArePlain : List Cell → Type 0
ArePlain [] = Unit {0}
ArePlain (cell ∷ cells) = IsPlain cell × ArePlain cells

-- a borrowed cell
abbrev pub cell_view : r.CellRef → Cell
cell_view v.Null = Null
cell_view (v.Int number) = Int number
cell_view (v.Text text) = Text text.now
cell_view (v.Id id) = Id id.now
cell_view (v.Mark mark) = Mark mark
cell_view (v.Mono monomial) = Mono monomial.now
