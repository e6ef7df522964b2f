use Rattle.gp_explain.proofs.Prelude.{◌≡◌, ◌+◌, ap, sym, subst, arith, size, parts_size, expr_view, parts_of, ExprInRange}
use Rattle.gp_expr.proofs.ViewLemmas.{new_id_view}
use Rattle.gp_explain.proofs.numbers.+terms.Goals as goal

pub expr_in_range-new_id_in_range-requires : goal.expr_in_range-new_id_in_range-requires
expr_in_range-new_id_in_range-requires t c =
    let view = new_id_view c.args.expr.now _ _ _ c.in-NewId.parts c.deref-in-NewId.result.now c.in-NewId.is c.deref-in-NewId.ensures.value in
    let sizes : size (expr_view c.args.expr.now) ≡ 1 + parts_size (parts_of c.deref-in-NewId.result.now) = ap size view in
    (omega (arith, sizes), tt)

pub expr_in_range-returns-in-NewId : goal.expr_in_range-returns-in-NewId
expr_in_range-returns-in-NewId t c =
    let view = new_id_view c.args.expr.now _ _ _ c.in-NewId.parts c.deref-in-NewId.result.now c.in-NewId.is c.deref-in-NewId.ensures.value in
    subst ExprInRange (sym view) c.new_id_in_range.ensures
