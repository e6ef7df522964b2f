use Rattle.std.proofs.Common.{◌≡◌, ◌++◌, map, drop}
use Rattle.gp_expr.specs.Views.{expr_view}
use Rattle.gp_prov.specs.ToPlain.{users_from}
use Rattle.gp_prov.proofs.columns.user_columns.Given as goal

-- the columns so far and those of the other parts are all
abbrev pub invariant-loop-width : goal.invariant-loop-width
invariant-loop-width l =
    map expr_view l.columns.items ++ users_from l.with_prov l.at (drop l.width-index l.widths) ≡ users_from l.with_prov 0 l.widths
