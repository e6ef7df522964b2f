use Rattle.std.proofs.Common.{◌≡◌, ◌++◌, ◌-◌, map}
use Rattle.gp_expr.specs.Views.{expr_view}
use Rattle.gp_algebra.specs.Statements.{columns_behind}
use Rattle.gp_check.proofs.meaning.first_columns.Given as goal

abbrev pub invariant-loop-before : goal.invariant-loop-before
invariant-loop-before l =
    map expr_view l.exprs ++ columns_behind l.before (l.width - l.before) ≡ columns_behind 0 l.width
