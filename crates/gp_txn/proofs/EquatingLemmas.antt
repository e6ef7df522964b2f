-- A row that passes a condition which has an equality of a column and a constant among its conjuncts has an equal cell in the column.
use Rattle.std.proofs.Common.{◌≡◌, ℕ, zero, suc, true, List, refl, sym, ap, ◌∙◌}
use Rattle.std.specs.Cmp.Lexicographic.{slice_cmp}
use Rattle.std.specs.Ordering.{int_cmp, is_eq, nat_cmp}
use Rattle.gp_base.specs.declared.cell.Cell.{Cell}
use Rattle.gp_base.specs.declared.cell.Cell.TheVariants as cell
use Rattle.gp_expr.specs.declared.expr.Cmp.TheVariants.{Eq}
use Rattle.gp_expr.specs.Expressions as e
use Rattle.gp_expr.specs.Expressions.{Expr}
use Rattle.gp_expr.specs.Values.{column, value}
use Rattle.gp_versions.specs.Places.{are_equal, cell_at}
use Rattle.gp_txn.specs.Equating.{Compares, Equates}
use Rattle.gp_exec.specs.Joining.{joins}
use Rattle.gp_exec.proofs.EqualityLemmas.{holds-known, joins_same}

-- ---- cells

column-at : (n : ℕ) (row : List Cell) → cell_at n row ≡ column n row
column-at zero row = refl
column-at (suc n) row = refl

equal-joins : (x y : Cell) → are_equal x y ≡ joins x y
equal-joins (cell.Int a) (cell.Int b) = sym (holds-known (is_eq (int_cmp a b)))
equal-joins (cell.Text a) (cell.Text b) = sym (holds-known (is_eq (slice_cmp nat_cmp a b)))
equal-joins cell.Null y = refl
equal-joins (cell.Id a) y = refl
equal-joins (cell.Mark a) y = refl
equal-joins (cell.Mono a) y = refl
equal-joins (cell.Int a) cell.Null = refl
equal-joins (cell.Int a) (cell.Text b) = refl
equal-joins (cell.Int a) (cell.Id b) = refl
equal-joins (cell.Int a) (cell.Mark b) = refl
equal-joins (cell.Int a) (cell.Mono b) = refl
equal-joins (cell.Text a) cell.Null = refl
equal-joins (cell.Text a) (cell.Int b) = refl
equal-joins (cell.Text a) (cell.Id b) = refl
equal-joins (cell.Text a) (cell.Mark b) = refl
equal-joins (cell.Text a) (cell.Mono b) = refl

swapped : (x y : Cell) → joins x y ≡ true → joins y x ≡ true
swapped x y is = let same = joins_same x y is in ap (λ (z : Cell). joins z x) (sym same) ∙ (ap (joins x) same ∙ is)

equal-at : (n : ℕ) (row : List Cell) (x : Cell) → joins (column n row) x ≡ true → are_equal (cell_at n row) x ≡ true
equal-at n row x is = equal-joins (cell_at n row) x ∙ (ap (λ (y : Cell). joins y x) (column-at n row) ∙ is)

-- ---- one equality

-- the column is on the right
pub right-Equates : {n : ℕ} {x : Cell} (left right : Expr) → Compares n x right left → Equates n x (e.compare Eq left right)
right-Equates {n = n} {x = x} left right c = record {
  equal = λ row pass. equal-at n row x (swapped x (column n row)
      (ap (λ (a : Expr). joins (value a row) (column n row)) (sym c.second-is) ∙ (ap (λ (a : Expr). joins (value left row) (value a row)) (sym c.first-is) ∙ pass)));
}
