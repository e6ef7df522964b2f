-- Expressions that fit a catalogue are shaped: their constants are cells that a user can write, and they make no identities.
use Rattle.gp_explain.proofs.Prelude.{◌≡◌, ℕ, Bool, true, List, refl, ◌&&◌, list_all, false≢true, and_from, Cell, is_user_cell, Expr, Cond, is_simple, cond_is_simple, all_leaves, cond_all_leaves, is_column, expr_fits, cond_fits, cell_is_shaped, expr_is_shaped, cond_is_shaped, all_weaker, left_true, right_true}
use Rattle.gp_base.specs.declared.cell.Cell.TheVariants as cell
use Rattle.gp_expr.specs.Expressions as e

pub user_cell : (x : Cell) → is_user_cell x ≡ true → cell_is_shaped x ≡ true
user_cell cell.Null so = refl
user_cell (cell.Int number) so = so
user_cell (cell.Text text) so = so
user_cell (cell.Id id) so = absurd (false≢true so)
user_cell (cell.Mark mark) so = refl
user_cell (cell.Mono monomial) so = refl

pub user_cells : (row : List Cell) → list_all is_user_cell row ≡ true → list_all cell_is_shaped row ≡ true
user_cells row so = all_weaker is_user_cell cell_is_shaped user_cell row so

-- two tests of two parts give a third of both
parts_follow : (a b c d x y : Bool) → (a ≡ true → c ≡ true → x ≡ true) → (b ≡ true → d ≡ true → y ≡ true)
    → (a && b) ≡ true → (c && d) ≡ true → (x && y) ≡ true
parts_follow a b c d x y first second s l =
    and_from x y (first (left_true a b s) (left_true c d l)) (second (right_true a b s) (right_true c d l))

module _ (passes : ℕ → Bool) where
  abbrev leaves : Expr → Bool
  leaves x = all_leaves passes is_user_cell x

  abbrev cond_leaves : Cond → Bool
  cond_leaves c = cond_all_leaves passes is_user_cell c

  mutual
    pub simple_shaped : (x : Expr) → is_simple x ≡ true → leaves x ≡ true → expr_is_shaped x ≡ true
    simple_shaped (e.col n) s l = refl
    simple_shaped (e.constant x) s l = user_cell x l
    simple_shaped (e.add a b) s l = parts_follow (is_simple a) (is_simple b) (leaves a) (leaves b) (expr_is_shaped a) (expr_is_shaped b) (simple_shaped a) (simple_shaped b) s l
    simple_shaped (e.sub a b) s l = parts_follow (is_simple a) (is_simple b) (leaves a) (leaves b) (expr_is_shaped a) (expr_is_shaped b) (simple_shaped a) (simple_shaped b) s l
    simple_shaped (e.mul a b) s l = parts_follow (is_simple a) (is_simple b) (leaves a) (leaves b) (expr_is_shaped a) (expr_is_shaped b) (simple_shaped a) (simple_shaped b) s l
    simple_shaped (e.neg a) s l = simple_shaped a s l
    simple_shaped (e.case c a b) s l =
        parts_follow (cond_is_simple c) (is_simple a && is_simple b) (cond_leaves c) (leaves a && leaves b) (cond_is_shaped c) (expr_is_shaped a && expr_is_shaped b) (simple_cond_shaped c)
        (parts_follow (is_simple a) (is_simple b) (leaves a) (leaves b) (expr_is_shaped a) (expr_is_shaped b) (simple_shaped a) (simple_shaped b)) s l
    simple_shaped (e.new_id t k b parts) s l = absurd (false≢true s)
    simple_shaped (e.times a b) s l = absurd (false≢true s)

    pub simple_cond_shaped : (c : Cond) → cond_is_simple c ≡ true → cond_leaves c ≡ true → cond_is_shaped c ≡ true
    simple_cond_shaped e.always s l = refl
    simple_cond_shaped (e.compare cmp a b) s l = parts_follow (is_simple a) (is_simple b) (leaves a) (leaves b) (expr_is_shaped a) (expr_is_shaped b) (simple_shaped a) (simple_shaped b) s l
    simple_cond_shaped (e.is_null a holds) s l = simple_shaped a s l
    simple_cond_shaped (e.is_true c holds) s l = simple_cond_shaped c s l
    simple_cond_shaped (e.and c d) s l =
        parts_follow (cond_is_simple c) (cond_is_simple d) (cond_leaves c) (cond_leaves d) (cond_is_shaped c) (cond_is_shaped d) (simple_cond_shaped c) (simple_cond_shaped d) s l
    simple_cond_shaped (e.or c d) s l =
        parts_follow (cond_is_simple c) (cond_is_simple d) (cond_leaves c) (cond_leaves d) (cond_is_shaped c) (cond_is_shaped d) (simple_cond_shaped c) (simple_cond_shaped d) s l
    simple_cond_shaped (e.not c) s l = simple_cond_shaped c s l

pub fit_shaped : (width : ℕ) (x : Expr) → expr_fits width x ≡ true → expr_is_shaped x ≡ true
fit_shaped width x fits =
    simple_shaped (is_column width) x (left_true (is_simple x) (all_leaves (is_column width) is_user_cell x) fits)
    (right_true (is_simple x) (all_leaves (is_column width) is_user_cell x) fits)

pub fit_cond_shaped : (width : ℕ) (c : Cond) → cond_fits width c ≡ true → cond_is_shaped c ≡ true
fit_cond_shaped width c fits =
    simple_cond_shaped (is_column width) c (left_true (cond_is_simple c) (cond_all_leaves (is_column width) is_user_cell c) fits)
    (right_true (cond_is_simple c) (cond_all_leaves (is_column width) is_user_cell c) fits)
