-- Part of the statement: expressions and conditions, as data. The types of the code are these with boxes.
use Rattle.std.specs.Prelude.{ℕ, Bool}
use Rattle.gp_base.specs.declared.cell.Cell.{Cell}
use Rattle.gp_expr.specs.declared.expr.Cmp.{Cmp}

mutual
  -- columns count from 1
  pub data Expr : Type 0 where
    col : ℕ → Expr
    constant : Cell → Expr
    add sub mul : Expr → Expr → Expr
    neg : Expr → Expr
    case : Cond → Expr → Expr → Expr
    new_id : ℕ → ℕ → ℕ → Parts → Expr
    times : Expr → Expr → Expr

  -- IS NULL and IS TRUE are negated where the flag is false
  pub data Cond : Type 0 where
    always : Cond
    compare : Cmp → Expr → Expr → Cond
    is_null : Expr → Bool → Cond
    is_true : Cond → Bool → Cond
    and or : Cond → Cond → Cond
    not : Cond → Cond

  -- the sources of a new identity
  pub data Parts : Type 0 where
    no_parts : Parts
    part : Expr → Parts → Parts
