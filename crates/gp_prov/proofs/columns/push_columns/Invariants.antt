use Rattle.std.proofs.Common.{◌≡◌, ◌-◌, ◌++◌, map}
use Rattle.gp_expr.specs.Views.{expr_view}
use Rattle.gp_algebra.specs.Statements.{columns_behind}
use Rattle.gp_prov.proofs.columns.push_columns.Given as goal

-- the columns so far and those that follow are all
abbrev pub invariant-loop-n : goal.invariant-loop-n
invariant-loop-n l =
    map expr_view l.columns.items ++ columns_behind l.n (l.end - l.n) ≡ map expr_view l.initial.columns.items ++ columns_behind l.fn.at l.fn.width
