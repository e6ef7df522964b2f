-- The distinct rows of a list rise strictly, and are the rows of the list.
use Rattle.std.proofs.Common.{◌≡◌, Bool, true, false, List, [], ◌∷◌, refl, ap, ◌∙◌, sym, subst}
use Rattle.std.specs.Prelude.{◌||◌}
use Rattle.std.specs.List.{AllByRecursion}
use Rattle.std.specs.Ordering.{eq_by_cmp, ordering_reverse}
use Rattle.std.specs.declared.cmp.Ordering.TheVariants.{Less, Equal, Greater}
use Rattle.std.specs.FinMap.Entries.{by_order}
use Rattle.gp_base.specs.declared.cell.Cell.{Cell}
use Rattle.gp_base.specs.Order.{row_cmp}
use Rattle.gp_base.specs.RowOrder.{exact_rows, row_cmp_total}
use Rattle.gp_machine.proofs.Distinct.{each_weaker}
use Rattle.gp_semiring.specs.Witnesses.{placed}
use Rattle.gp_history.specs.DistinctRows.{distinct_rows}
use Rattle.gp_history.specs.AnswerForms.{AreAscending, occurs_in}
use Rattle.gp_base.proofs.Bags.{or_swapped}

-- ---- order

placed_above : (low row : List Cell) (rows : List (List Cell)) → row_cmp low row ≡ Less → AllByRecursion (λ other. row_cmp low other ≡ Less) rows → AllByRecursion (λ other. row_cmp low other ≡ Less) (placed row_cmp row rows)
placed_above low row [] below are = (below, tt)
placed_above low row (other ∷ others) below are =
    elim (row_cmp row other) as (λ o. AllByRecursion (λ other. row_cmp low other ≡ Less) (by_order o (row ∷ other ∷ others) (other ∷ others) (other ∷ placed row_cmp row others))) [
      | Less ↦ (below, are)
      | Equal ↦ are
      | Greater ↦ (are.0, placed_above low row others below are.1)
    ]

placed_ascending : (row : List Cell) (rows : List (List Cell)) → AreAscending rows → AreAscending (placed row_cmp row rows)
placed_ascending row [] are = (tt, tt)
placed_ascending row (other ∷ others) are =
    elim (row_cmp row other) as (λ o. row_cmp row other ≡ o → AreAscending (by_order o (row ∷ other ∷ others) (other ∷ others) (other ∷ placed row_cmp row others))) [
      | Less ↦ λ e. ((e, each_weaker (λ later. row_cmp row later ≡ Less) (λ later. row_cmp other later ≡ Less) (λ later f. row_cmp_total.trans row other later e f) others are.0), are)
      | Equal ↦ λ e. are
      | Greater ↦ λ e. (placed_above other row others (row_cmp_total.antisymm other row ∙ ap ordering_reverse e) are.0, placed_ascending row others are.1)
    ] refl

pub distinct_ascending : (rows : List (List Cell)) → AreAscending (distinct_rows rows)
distinct_ascending [] = tt
distinct_ascending (row ∷ rows) = placed_ascending row (distinct_rows rows) (distinct_ascending rows)

-- ---- members

twice : (a b : Bool) → (a || b) ≡ (a || (a || b))
twice true b = refl
twice false b = refl

placed_occurs : (sought row : List Cell) (rows : List (List Cell)) → occurs_in sought (placed row_cmp row rows) ≡ (eq_by_cmp row_cmp sought row || occurs_in sought rows)
placed_occurs sought row [] = refl
placed_occurs sought row (other ∷ others) =
    elim (row_cmp row other) as (λ o. row_cmp row other ≡ o
    → occurs_in sought (by_order o (row ∷ other ∷ others) (other ∷ others) (other ∷ placed row_cmp row others)) ≡ (eq_by_cmp row_cmp sought row || (eq_by_cmp row_cmp sought other || occurs_in sought others))) [
      | Less ↦ λ e. refl
      | Equal ↦ λ e. subst (λ own. (eq_by_cmp row_cmp sought other || occurs_in sought others) ≡ (eq_by_cmp row_cmp sought own || (eq_by_cmp row_cmp sought other || occurs_in sought others))) (sym (exact_rows row other e))
          (twice (eq_by_cmp row_cmp sought other) (occurs_in sought others))
      | Greater ↦ λ e. ap (λ b. eq_by_cmp row_cmp sought other || b) (placed_occurs sought row others) ∙ or_swapped (eq_by_cmp row_cmp sought other) (eq_by_cmp row_cmp sought row) (occurs_in sought others)
    ] refl

pub distinct_members : (sought : List Cell) (rows : List (List Cell)) → occurs_in sought (distinct_rows rows) ≡ occurs_in sought rows
distinct_members sought [] = refl
distinct_members sought (row ∷ rows) = placed_occurs sought row (distinct_rows rows) ∙ ap (λ b. eq_by_cmp row_cmp sought row || b) (distinct_members sought rows)
