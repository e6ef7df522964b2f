-- Machinery: places of spans that are found without a pass over all spans. Others may be among them.
use Rattle.std.specs.Prelude.{◌≡◌, ℕ, ◌<◌, ◌≤◌, true, List, length, slice_get, Option, Some, Contains}
use Rattle.std.specs.List.Sorted.{IsSorted}
use Rattle.std.specs.Ordering.{nat_cmp}
use Rattle.gp_base.specs.declared.cell.Cell.{Cell}
use Rattle.gp_base.specs.IdentityParts.{identity_transaction}
use Rattle.gp_versions.specs.declared.chains.Chains.{Chains}
use Rattle.gp_versions.specs.declared.finder.Finder.{Finder}
use Rattle.gp_versions.specs.declared.finder.Wanted.{Wanted}
use Rattle.gp_versions.specs.declared.key.By.{By}
use Rattle.gp_versions.specs.declared.key.By.TheVariants as variant
use Rattle.gp_versions.specs.declared.key.Key.{Key}
use Rattle.gp_versions.specs.declared.places.InColumn.{InColumn}
use Rattle.gp_versions.specs.declared.span.Span.{Span}
use Rattle.gp_versions.specs.Chains.{AreChained, AreIndexes, entered}
use Rattle.gp_versions.specs.Keys.{keys_by}
use Rattle.gp_versions.specs.Places.{are_equal, cell_at}

-- whatever is among the ones is among the others
abbrev pub AreAmong : List ℕ → List ℕ → Type 0
AreAmong few places = (q : ℕ) → Contains few q → Contains places q

-- all entered spans with the key are among these
abbrev pub HasPlaces : Key → Chains → List ℕ → Type 0
HasPlaces key chains places = (keys : List Key) → AreChained chains keys → (q : ℕ) → q < entered chains → slice_get keys q ≡ Some key → Contains places q

-- all spans of which this is true
abbrev pub HasThose : (Span → Type 0) → List Span → List ℕ → Type 0
HasThose is spans places = (q : ℕ) (span : Span) → slice_get spans q ≡ Some span → is span → Contains places q

-- those with the cell in the column
abbrev pub HasCell : ℕ → Cell → List Span → List ℕ → Type 0
HasCell column cell spans places = HasThose (λ span. are_equal (cell_at column span.row) cell ≡ true) spans places

-- those with one of the cells
abbrev pub HasCells : List InColumn → List Span → List ℕ → Type 0
HasCells cells spans places = (own : InColumn) → Contains cells own → HasCell own.column own.cell.now spans places

-- all spans are entered
pub record IsEntered (by_what : By) (spans : List Span) (chains : Chains) : Type 0 where
  pub chained : AreChained chains (keys_by by_what spans)
  pub all : entered chains ≡ length spans

pub record IsFinder (spans : List Span) (finder : Finder) : Type 0 where
  pub begun : IsEntered variant.Begin spans finder.begun
  pub ended : IsEntered variant.End spans finder.ended
  pub own : IsEntered variant.Transaction spans finder.own
  pub columns : AreIndexes finder.columns.items spans

-- those that begin with the version
abbrev pub HasBegun : ℕ → Finder → List ℕ → Type 0
HasBegun version finder places = (spans : List Span) → IsFinder spans finder → HasThose (λ span. span.from ≡ version) spans places

-- and those that end there
pub record HasVersion (version : ℕ) (finder : Finder) (places : List ℕ) : Type 0 where
  pub begun : HasBegun version finder places
  pub ended : (spans : List Span) → IsFinder spans finder → HasThose (λ span. span.to ≡ Some version) spans places

-- the same for the versions above the first one up to the last one
abbrev pub HasBetween : ℕ → ℕ → Finder → List ℕ → Type 0
HasBetween first last finder places = (version : ℕ) → first < version → version ≤ last → HasVersion version finder places

-- all spans that are wanted are found
pub record AreFound (wanted : Wanted) (spans : List Span) (places : List ℕ) : Type 0 where
  pub begun : HasThose (λ span. (wanted.first < span.from) × (span.from ≤ wanted.last)) spans places
  pub ended : (to : ℕ) → wanted.first < to → to ≤ wanted.last → HasThose (λ span. span.to ≡ Some to) spans places
  pub own : HasThose (λ span. identity_transaction span.id ≡ wanted.t) spans places
  pub cells : HasCells wanted.cells.now spans places

abbrev pub AreAscending : List ℕ → Type 0
AreAscending places = IsSorted nat_cmp places
