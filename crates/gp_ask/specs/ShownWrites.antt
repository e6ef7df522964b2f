-- Of the law `commits_show_what_they_wrote`: what the lines of a commit show of a table, given which of its rows the commit wrote, and its rows in the version
-- before and in its own.
use Rattle.std.specs.Prelude.{◌≡◌, ◌⊎◌, ℕ, Bool, true, List, [], ◌∷◌, map, Option, Some, None}
use Rattle.std.specs.List.{AllByRecursion}
use Rattle.std.specs.declared.cmp.Ordering.TheVariants.{Less}
use Rattle.gp_base.specs.declared.cell.Cell.{Cell}
use Rattle.gp_base.specs.Annotated.{Annotated}
use Rattle.gp_base.specs.Identities.{Identity, identity_cmp}
use Rattle.gp_ask.specs.Changes.{change_text}

-- ---- the rows of a version by their identities

abbrev pub HasRow : {M : Type 0} → List (Annotated M) → Identity → Type 0
HasRow [] id = ⊥
HasRow (row ∷ rows) id = (row.identity ≡ id) ⊎ HasRow rows id

abbrev pub HasCells : {M : Type 0} → List (Annotated M) → Identity → List Cell → Type 0
HasCells [] id cells = ⊥
HasCells (row ∷ rows) id cells = ((row.identity ≡ id) × (row.cells ≡ cells)) ⊎ HasCells rows id cells

-- the row of this identity has these cells, or there is none
abbrev pub AreCells : {M : Type 0} → List (Annotated M) → Identity → Option (List Cell) → Type 0
AreCells rows id None = HasRow rows id → ⊥
AreCells rows id (Some cells) = HasCells rows id cells

-- ---- lines

-- a row with its cells in two versions
pub record RowChange : Type 0 where
  pub id : Identity
  pub before : Option (List Cell)
  pub after : Option (List Cell)

abbrev pub row_change_text : List ℕ → RowChange → List ℕ
row_change_text name change = change_text name change.id change.before change.after

-- each is of a greater identity than those before it
abbrev pub Rise : List RowChange → Type 0
Rise [] = Unit {0}
Rise (change ∷ changes) = AllByRecursion (λ (other : RowChange). identity_cmp change.id other.id ≡ Less) changes × Rise changes

abbrev pub HasChange : List RowChange → Identity → Type 0
HasChange [] id = ⊥
HasChange (change ∷ changes) id = (change.id ≡ id) ⊎ HasChange changes id

-- There is a line for each row that was written and that one of the versions has, in the order of their identities, and no other line. It shows the cells of
-- the row in the older version, and in the newer one.
pub record ShowsWrites {M : Type 0} (name : List ℕ) (is_written : Identity → Bool) (older newer : List (Annotated M)) (lines : List (List ℕ)) : Type 0 where
  pub changes : List RowChange
  pub texts : lines ≡ map (row_change_text name) changes
  pub rise : Rise changes
  pub written : AllByRecursion (λ (change : RowChange). is_written change.id ≡ true) changes
  pub there : AllByRecursion (λ (change : RowChange). HasRow older change.id ⊎ HasRow newer change.id) changes
  pub before : AllByRecursion (λ (change : RowChange). AreCells older change.id change.before) changes
  pub after : AllByRecursion (λ (change : RowChange). AreCells newer change.id change.after) changes
  pub all : (id : Identity) → is_written id ≡ true → HasRow older id ⊎ HasRow newer id → HasChange changes id
