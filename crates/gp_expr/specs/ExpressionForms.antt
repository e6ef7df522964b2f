-- Of the contracts of `eval` and `truth`, as their premises: expressions without CASE in their conditions, and the leaves of expressions.
use Rattle.std.specs.Prelude.{ℕ, Bool, true, false, ◌&&◌}
use Rattle.gp_base.specs.declared.cell.Cell.{Cell}
use Rattle.gp_expr.specs.Expressions.{Expr, Cond, Parts, col, constant, add, sub, mul, neg, case, new_id, times, always, compare, is_null, is_true, and, or, not, no_parts, part}

-- neither identities nor provenance are computed
abbrev mutual
  pub is_simple : Expr → Bool
  is_simple (col n) = true
  is_simple (constant cell) = true
  is_simple (add a b) = is_simple a && is_simple b
  is_simple (sub a b) = is_simple a && is_simple b
  is_simple (mul a b) = is_simple a && is_simple b
  is_simple (neg a) = is_simple a
  is_simple (case c a b) = cond_is_simple c && (is_simple a && is_simple b)
  is_simple (new_id t k b parts) = false
  is_simple (times a b) = false

  pub cond_is_simple : Cond → Bool
  cond_is_simple always = true
  cond_is_simple (compare cmp a b) = is_simple a && is_simple b
  cond_is_simple (is_null a holds) = is_simple a
  cond_is_simple (is_true c holds) = cond_is_simple c
  cond_is_simple (and c d) = cond_is_simple c && cond_is_simple d
  cond_is_simple (or c d) = cond_is_simple c && cond_is_simple d
  cond_is_simple (not c) = cond_is_simple c

-- the conditions of its CASEs are simple
abbrev mutual
  pub has_simple_conditions : Expr → Bool
  has_simple_conditions (col n) = true
  has_simple_conditions (constant cell) = true
  has_simple_conditions (add a b) = has_simple_conditions a && has_simple_conditions b
  has_simple_conditions (sub a b) = has_simple_conditions a && has_simple_conditions b
  has_simple_conditions (mul a b) = has_simple_conditions a && has_simple_conditions b
  has_simple_conditions (neg a) = has_simple_conditions a
  has_simple_conditions (case c a b) = cond_is_simple c && (has_simple_conditions a && has_simple_conditions b)
  has_simple_conditions (new_id t k b parts) = parts_have_simple_conditions parts
  has_simple_conditions (times a b) = has_simple_conditions a && has_simple_conditions b

  pub parts_have_simple_conditions : Parts → Bool
  parts_have_simple_conditions no_parts = true
  parts_have_simple_conditions (part a others) = has_simple_conditions a && parts_have_simple_conditions others

module _ (column_passes : ℕ → Bool) (constant_passes : Cell → Bool) where
  abbrev mutual
    pub all_leaves : Expr → Bool
    all_leaves (col n) = column_passes n
    all_leaves (constant cell) = constant_passes cell
    all_leaves (add a b) = all_leaves a && all_leaves b
    all_leaves (sub a b) = all_leaves a && all_leaves b
    all_leaves (mul a b) = all_leaves a && all_leaves b
    all_leaves (neg a) = all_leaves a
    all_leaves (case c a b) = cond_all_leaves c && (all_leaves a && all_leaves b)
    all_leaves (new_id t k b parts) = parts_all_leaves parts
    all_leaves (times a b) = all_leaves a && all_leaves b

    pub cond_all_leaves : Cond → Bool
    cond_all_leaves always = true
    cond_all_leaves (compare cmp a b) = all_leaves a && all_leaves b
    cond_all_leaves (is_null a holds) = all_leaves a
    cond_all_leaves (is_true c holds) = cond_all_leaves c
    cond_all_leaves (and c d) = cond_all_leaves c && cond_all_leaves d
    cond_all_leaves (or c d) = cond_all_leaves c && cond_all_leaves d
    cond_all_leaves (not c) = cond_all_leaves c

    pub parts_all_leaves : Parts → Bool
    parts_all_leaves no_parts = true
    parts_all_leaves (part a others) = all_leaves a && parts_all_leaves others
