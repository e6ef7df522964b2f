-- Expressions that are put into the places of columns leave an expression in range, if they and it are.
use Rattle.gp_explain.proofs.Prelude.{◌≡◌, ◌<◌, ◌≤◌, ℕ, zero, suc, Bool, true, List, [], ◌∷◌, get_or, arith, ◌&&◌, AllByRecursion, list_all, and_parts, false≢true, leb-true, ltb-true, Cell, IsInRange, AreInRange, is_user_cell, Expr, Cond, Parts, is_simple, cond_is_simple, all_leaves, cond_all_leaves, chosen, substituted, substituted_cond, substituted_parts, substituted_each, is_column, expr_fits, cond_fits, ExprInRange, CondInRange, PartsInRange, left_true, right_true}
use Rattle.std.proofs.Common.{◌^◌, ℤ, pos, negsuc, FitsSigned, leb}
use Rattle.std.specs.Prelude.{◌-◌}
use Rattle.std.specs.Int.{w64}
use Rattle.gp_base.specs.declared.cell.Cell.TheVariants as cell
use Rattle.gp_base.specs.Cells.{fits_number}
use Rattle.gp_expr.specs.Expressions as e

-- ---- cells that a user can write

number_range : (z : ℤ) → fits_number z ≡ true → FitsSigned w64 z
number_range (pos n) e = let small : n < 2 ^ 63 = ltb-true n (2 ^ 63) e in record { sfits = small }
number_range (negsuc n) e =
    let p = and_parts (leb n (2 ^ 63 - 1)) true e in
    let small : n ≤ 2 ^ 63 - 1 = leb-true n (2 ^ 63 - 1) p.0 in
    record { sfits = omega (arith, small) }

pub user_range : (x : Cell) → is_user_cell x ≡ true → IsInRange x
user_range cell.Null so = tt
user_range (cell.Int number) so = number_range number so
user_range (cell.Text text) so = tt
user_range (cell.Id id) so = absurd (false≢true so)
user_range (cell.Mark mark) so = tt
user_range (cell.Mono monomial) so = absurd (false≢true so)

pub users_range : (row : List Cell) → list_all is_user_cell row ≡ true → AreInRange row
users_range [] so = tt
users_range (x ∷ row) so = (user_range x (left_true (is_user_cell x) (list_all is_user_cell row) so), users_range row (right_true (is_user_cell x) (list_all is_user_cell row) so))

-- two tests of two parts give what holds of both
both_range : {P Q : Type 0} (a b c d : Bool) → (a ≡ true → c ≡ true → P) → (b ≡ true → d ≡ true → Q) → (a && b) ≡ true → (c && d) ≡ true → P × Q
both_range a b c d first second s l = (first (left_true a b s) (left_true c d l), second (right_true a b s) (right_true c d l))

-- ---- in the places of columns

module _ (inner : List Expr) (all : AllByRecursion ExprInRange inner) where
  at_place : (n : ℕ) (exprs : List Expr) → AllByRecursion ExprInRange exprs → ExprInRange (get_or exprs n (e.constant cell.Null))
  at_place n [] so = tt
  at_place zero (x ∷ exprs) so = so.0
  at_place (suc n) (x ∷ exprs) so = at_place n exprs so.1

  pub chosen_range : (n : ℕ) → ExprInRange (chosen n inner)
  chosen_range zero = tt
  chosen_range (suc n) = at_place n inner all

  mutual
    pub expr_range : (x : Expr) → ExprInRange x → ExprInRange (substituted x inner)
    expr_range (e.col n) so = chosen_range n
    expr_range (e.constant x) so = so
    expr_range (e.add a b) so = (expr_range a so.0, expr_range b so.1)
    expr_range (e.sub a b) so = (expr_range a so.0, expr_range b so.1)
    expr_range (e.mul a b) so = (expr_range a so.0, expr_range b so.1)
    expr_range (e.neg a) so = expr_range a so
    expr_range (e.case c a b) so = (cond_range c so.0, (expr_range a so.1.0, expr_range b so.1.1))
    expr_range (e.new_id t k b parts) so = (so.0, parts_range parts so.1)
    expr_range (e.times a b) so = (expr_range a so.0, expr_range b so.1)

    pub cond_range : (c : Cond) → CondInRange c → CondInRange (substituted_cond c inner)
    cond_range e.always so = tt
    cond_range (e.compare cmp a b) so = (expr_range a so.0, expr_range b so.1)
    cond_range (e.is_null a wanted) so = expr_range a so
    cond_range (e.is_true c wanted) so = cond_range c so
    cond_range (e.and c d) so = (cond_range c so.0, cond_range d so.1)
    cond_range (e.or c d) so = (cond_range c so.0, cond_range d so.1)
    cond_range (e.not c) so = cond_range c so

    parts_range : (parts : Parts) → PartsInRange parts → PartsInRange (substituted_parts parts inner)
    parts_range e.no_parts so = tt
    parts_range (e.part a others) so = (expr_range a so.0, parts_range others so.1)

  pub each_range : (exprs : List Expr) → AllByRecursion ExprInRange exprs → AllByRecursion ExprInRange (substituted_each exprs inner)
  each_range [] so = tt
  each_range (x ∷ exprs) so = (expr_range x so.0, each_range exprs so.1)

  -- whatever its columns are, an expression that fits some tables is in range with others in their places
  module _ (passes : ℕ → Bool) where
    abbrev leaves : Expr → Bool
    leaves x = all_leaves passes is_user_cell x

    abbrev cond_leaves : Cond → Bool
    cond_leaves c = cond_all_leaves passes is_user_cell c

    mutual
      simple_range : (x : Expr) → is_simple x ≡ true → leaves x ≡ true → ExprInRange (substituted x inner)
      simple_range (e.col n) s l = chosen_range n
      simple_range (e.constant x) s l = user_range x l
      simple_range (e.add a b) s l = both_range (is_simple a) (is_simple b) (leaves a) (leaves b) (simple_range a) (simple_range b) s l
      simple_range (e.sub a b) s l = both_range (is_simple a) (is_simple b) (leaves a) (leaves b) (simple_range a) (simple_range b) s l
      simple_range (e.mul a b) s l = both_range (is_simple a) (is_simple b) (leaves a) (leaves b) (simple_range a) (simple_range b) s l
      simple_range (e.neg a) s l = simple_range a s l
      simple_range (e.case c a b) s l =
          both_range (cond_is_simple c) (is_simple a && is_simple b) (cond_leaves c) (leaves a && leaves b) (simple_cond_range c)
          (both_range (is_simple a) (is_simple b) (leaves a) (leaves b) (simple_range a) (simple_range b)) s l
      simple_range (e.new_id t k b parts) s l = absurd (false≢true s)
      simple_range (e.times a b) s l = absurd (false≢true s)

      simple_cond_range : (c : Cond) → cond_is_simple c ≡ true → cond_leaves c ≡ true → CondInRange (substituted_cond c inner)
      simple_cond_range e.always s l = tt
      simple_cond_range (e.compare cmp a b) s l = both_range (is_simple a) (is_simple b) (leaves a) (leaves b) (simple_range a) (simple_range b) s l
      simple_cond_range (e.is_null a wanted) s l = simple_range a s l
      simple_cond_range (e.is_true c wanted) s l = simple_cond_range c s l
      simple_cond_range (e.and c d) s l =
          both_range (cond_is_simple c) (cond_is_simple d) (cond_leaves c) (cond_leaves d) (simple_cond_range c) (simple_cond_range d) s l
      simple_cond_range (e.or c d) s l =
          both_range (cond_is_simple c) (cond_is_simple d) (cond_leaves c) (cond_leaves d) (simple_cond_range c) (simple_cond_range d) s l
      simple_cond_range (e.not c) s l = simple_cond_range c s l

-- ---- expressions whose columns are free: in range, whatever in range is in their places

abbrev pub IsFree : Expr → Type 0
IsFree x = (inner : List Expr) → AllByRecursion ExprInRange inner → ExprInRange (substituted x inner)

abbrev pub CondIsFree : Cond → Type 0
CondIsFree c = (inner : List Expr) → AllByRecursion ExprInRange inner → CondInRange (substituted_cond c inner)

pub fit_free : (width : ℕ) (x : Expr) → expr_fits width x ≡ true → IsFree x
fit_free width x fits inner all =
    simple_range inner all (is_column width) x (left_true (is_simple x) (all_leaves (is_column width) is_user_cell x) fits)
    (right_true (is_simple x) (all_leaves (is_column width) is_user_cell x) fits)

pub fit_cond_free : (width : ℕ) (c : Cond) → cond_fits width c ≡ true → CondIsFree c
fit_cond_free width c fits inner all =
    simple_cond_range inner all (is_column width) c (left_true (cond_is_simple c) (cond_all_leaves (is_column width) is_user_cell c) fits)
    (right_true (cond_is_simple c) (cond_all_leaves (is_column width) is_user_cell c) fits)

pub all_free : (width : ℕ) (exprs : List Expr) → list_all (expr_fits width) exprs ≡ true → AllByRecursion IsFree exprs
all_free width [] fits = tt
all_free width (x ∷ exprs) fits =
    (fit_free width x (left_true (expr_fits width x) (list_all (expr_fits width) exprs) fits), all_free width exprs (right_true (expr_fits width x) (list_all (expr_fits width) exprs) fits))
