-- Part of the statement: the types of cells, and those of the columns of a table.
use Rattle.std.specs.Prelude.{◌≡◌, Bool, true, ◌&&◌, List, [], ◌∷◌, map}
use Rattle.gp_base.specs.declared.cell.Cell.{Cell}
use Rattle.gp_base.specs.declared.cell.Cell.TheVariants as cell
use Rattle.gp_base.specs.declared.table.Column.{Column}
use Rattle.gp_base.specs.declared.table.Kind.{Kind}
use Rattle.gp_base.specs.declared.table.Kind.TheVariants as kind
use Rattle.gp_base.specs.declared.table.Table.{Table}
use Rattle.gp_base.specs.Identities.{Identity, Sources, identity, no_sources, source}
use Rattle.gp_base.specs.Tokens.{is_u32}
use Rattle.gp_sql.specs.declared.cell_type.CellType.{CellType}
use Rattle.gp_sql.specs.declared.cell_type.CellType.TheVariants.{Int, Text, Id, Mark}

abbrev mutual
  -- the numbers of an identity have 32 bits
  pub numbers_fit : Identity → Bool
  numbers_fit (identity t k n ids) = (is_u32 t && (is_u32 k && is_u32 n)) && all_numbers_fit ids

  pub all_numbers_fit : Sources → Bool
  all_numbers_fit no_sources = true
  all_numbers_fit (source id ids) = numbers_fit id && all_numbers_fit ids

-- a cell of a type; NULL is one of each
abbrev pub IsOf : Cell → CellType → Type 0
IsOf cell.Null type = Unit {0}
IsOf (cell.Int number) Int = Unit {0}
IsOf (cell.Text text) Text = Unit {0}
IsOf (cell.Id id) Id = numbers_fit id ≡ true
IsOf (cell.Mark mark) Mark = Unit {0}
IsOf _ _ = ⊥

-- a row with a cell of each type, and no other
abbrev pub AreOf : List Cell → List CellType → Type 0
AreOf [] [] = Unit {0}
AreOf (cell ∷ cells) (type ∷ types) = IsOf cell type × AreOf cells types
AreOf _ _ = ⊥

abbrev pub kind_type : Kind → CellType
kind_type kind.Int = Int
kind_type kind.Text = Text

-- the types of the user's columns
abbrev pub column_types : Table → List CellType
column_types table = map (λ (column : Column). kind_type column.kind) table.cols
