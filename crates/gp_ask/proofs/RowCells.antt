-- The cells of the row of an identity, where no two rows have one identity.
use Rattle.std.proofs.Common.{◌≡◌, ◌⊎◌, inl, inr, ℕ, ◌+◌, ◌<◌, ◌≤◌, true, false, cond, List, [], ◌∷◌, ◌++◌, Option, Some, None, refl, sym, ap, ◌∙◌, arith}
use Rattle.std.specs.Prelude.{◌&&◌, ◌||◌, ◌==◌}
use Rattle.std.specs.List.{AllByRecursion}
use Rattle.std.proofs.lemmas.Option.{none-some}
use Rattle.gp_base.specs.declared.cell.Cell.{Cell}
use Rattle.gp_base.specs.Annotated.{Annotated}
use Rattle.gp_base.specs.Identities.{Identity, same_identity}
use Rattle.gp_machine.proofs.Distinct.{each_both, none_each}
use Rattle.gp_machine.specs.SeenRows.{HaveDifferentIdentities, same_row}
use Rattle.gp_versions.proofs.SameLemmas.{same-exact, same-itself}
use Rattle.gp_ask.specs.SerialHistories.{cells_in}
use Rattle.gp_ask.specs.ShownWrites.{AreCells, HasCells, HasRow}
use Rattle.gp_ask.proofs.ChangedLines.{turned-rows}

module _ {M : Type 0} where
  -- behind a row of another identity
  behind-other : (row other : Annotated M) (cells : List Cell) (rows : List (Annotated M)) → same_row other row ≡ false → cond (same_identity row.identity other.identity) (Some cells) (cells_in other.identity rows) ≡ cells_in other.identity rows
  behind-other row other cells rows differ = ap (λ b. cond b (Some cells) (cells_in other.identity rows)) (turned-rows row other ∙ differ)

  pub own-cells : (rows : List (Annotated M)) → HaveDifferentIdentities rows → AllByRecursion (λ row. cells_in row.identity rows ≡ Some row.cells) rows
  own-cells [] different = tt
  own-cells (row ∷ rows) different = (
    ap (λ b. cond b (Some row.cells) (cells_in row.identity rows)) (same-itself row.identity),
    each_both (λ other. cells_in other.identity (row ∷ rows) ≡ Some other.cells) (λ other. cells_in other.identity rows ≡ Some other.cells) (λ other. same_row other row ≡ false)
        (λ other found differ. behind-other row other row.cells rows differ ∙ found) rows (own-cells rows different.1) (none_each (λ other. same_row other row) rows different.0),
  )

  some-row : (id : Identity) (rows : List (Annotated M)) (cells : List Cell) → cells_in id rows ≡ Some cells → HasRow rows id
  some-row id [] cells is = absurd (none-some cells is)
  some-row id (row ∷ rows) cells is =
      elim (same_identity row.identity id) as (λ b. same_identity row.identity id ≡ b → cond b (Some row.cells) (cells_in id rows) ≡ Some cells → HasRow (row ∷ rows) id) [
        | true ↦ λ same found. inl (same-exact row.identity id same)
        | false ↦ λ same found. inr (some-row id rows cells found)
      ] refl is

  picked : (all : List (Annotated M)) (id : Identity) (cells : List Cell) (rows : List (Annotated M)) → AllByRecursion (λ row. cells_in row.identity all ≡ Some row.cells) rows → HasCells rows id cells
      → cells_in id all ≡ Some cells
  picked all id cells [] each has = absurd has
  picked all id cells (row ∷ rows) each (inl is) = ap (λ (own : Identity). cells_in own all) (sym is.0) ∙ each.0 ∙ ap Some is.1
  picked all id cells (row ∷ rows) each (inr has) = picked all id cells rows each.1 has

  pub cells-are : (rows : List (Annotated M)) (id : Identity) (cells : Option (List Cell)) → HaveDifferentIdentities rows → AreCells rows id cells → cells_in id rows ≡ cells
  cells-are rows id (Some cells) different are = picked rows id cells rows (own-cells rows different) are
  cells-are rows id None different are = by (cells_in id rows) refl
    where
      by : (found : Option (List Cell)) → cells_in id rows ≡ found → cells_in id rows ≡ None
      by None is = is
      by (Some cells) is = absurd (are (some-row id rows cells is))
