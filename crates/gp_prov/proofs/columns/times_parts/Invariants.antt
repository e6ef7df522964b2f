use Rattle.std.proofs.Common.{◌≡◌, drop}
use Rattle.gp_expr.specs.Views.{expr_view}
use Rattle.gp_prov.specs.ToPlain.{times_from}
use Rattle.gp_prov.proofs.columns.times_parts.Given as goal

-- the product so far times the other parts is the whole
abbrev pub invariant-loop-width : goal.invariant-loop-width
invariant-loop-width l =
    times_from l.with_prov l.at (drop l.width-index l.widths) (expr_view l.product) ≡ times_from l.with_prov l.fn.at l.widths (expr_view l.fn.monomial)
