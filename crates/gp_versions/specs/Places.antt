-- Machinery: the places of spans in the list of a table, which are numbered from 0: of those that hold a version, and of those with a cell.
use Rattle.std.specs.Prelude.{ℕ, zero, suc, Bool, false, ◌&&◌, List, [], ◌∷◌, get_or, map, if◌then◌else◌}
use Rattle.std.specs.Ordering.{nat_cmp, int_cmp, is_eq}
use Rattle.std.specs.Cmp.Lexicographic.{slice_cmp}
use Rattle.gp_base.specs.declared.cell.Cell.{Cell}
use Rattle.gp_base.specs.declared.cell.Cell.TheVariants as cell
use Rattle.gp_versions.specs.declared.span.Span.{Span}
use Rattle.gp_versions.specs.Spans.{holds_at}

-- the places of the spans of which this is true, ascending
abbrev pub places_where : (Span → Bool) → List Span → List ℕ
places_where p [] = []
places_where p (span ∷ spans) = if p span then 0 ∷ map suc (places_where p spans) else map suc (places_where p spans)

-- those of the spans that hold a version
abbrev pub places_at : ℕ → List Span → List ℕ
places_at v spans = places_where (holds_at v) spans

-- the cell of a column, which count from 1; NULL where there is none
abbrev pub cell_at : ℕ → List Cell → Cell
cell_at zero row = cell.Null
cell_at (suc n) row = get_or row n cell.Null

-- whether `=` of SQL is true of two cells, so that NULL equals nothing
abbrev pub are_equal : Cell → Cell → Bool
are_equal (cell.Int x) (cell.Int y) = is_eq (int_cmp x y)
are_equal (cell.Text x) (cell.Text y) = is_eq (slice_cmp nat_cmp x y)
are_equal _ _ = false

-- whether the span holds the version and has the cell in the column
abbrev pub holds_with : ℕ → ℕ → Cell → Span → Bool
holds_with v column x span = holds_at v span && are_equal (cell_at column span.row) x

-- the places of those that do
abbrev pub places_with : ℕ → ℕ → Cell → List Span → List ℕ
places_with v column x spans = places_where (holds_with v column x) spans
