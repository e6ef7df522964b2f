-- Of the contract of `size`: the number of nodes of an expression. Each operator, column and constant is one; the three numbers of a new identity are part of
-- its node.
use Rattle.std.specs.Prelude.{ℕ, ◌+◌}
use Rattle.gp_expr.specs.Expressions.{Expr}
use Rattle.gp_expr.specs.Gathering.{gathered}

abbrev pub size : Expr → ℕ
size = gathered (λ expr. 1) 1 0 ◌+◌
