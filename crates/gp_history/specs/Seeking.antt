-- Machinery: rows that a transaction may write or make rows of, by the cells that its conditions ask for, and the finders of their spans.
use Rattle.std.specs.Prelude.{◌≡◌, ℕ, Bool, true, List, Option, Some, Contains, slice_get}
use Rattle.gp_base.specs.declared.cell.Cell.{Cell}
use Rattle.gp_versions.specs.declared.finder.Finder.{Finder}
use Rattle.gp_versions.specs.declared.places.InColumn.{InColumn}
use Rattle.gp_versions.specs.declared.span.Span.{Span}
use Rattle.gp_versions.specs.Finding.{IsFinder}
use Rattle.gp_versions.specs.Places.{are_equal, cell_at}

-- the row has the cell
abbrev pub has_cell : List Cell → InColumn → Bool
has_cell row cell = are_equal (cell_at cell.column row) cell.cell.now

-- it has one of these cells
abbrev pub HasOne : List Cell → List InColumn → Type 0
HasOne row cells = (cell : InColumn) × (Contains cells cell × (has_cell row cell ≡ true))

-- whatever cells are among the ones are among the others
abbrev pub Grows : List InColumn → List InColumn → Type 0
Grows few cells = (cell : InColumn) → Contains few cell → Contains cells cell

-- the finders of the tables that have one
abbrev pub AreFinders : (ℕ → List Span) → List Finder → Type 0
AreFinders spans finders = (table : ℕ) (finder : Finder) → slice_get finders table ≡ Some finder → IsFinder (spans table) finder
