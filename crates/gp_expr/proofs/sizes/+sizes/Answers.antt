use Rattle.std.proofs.Common.{◌≡◌, ap, drop, arith}
use Rattle.gp_expr.specs.SizeForms as s
use Rattle.gp_expr.specs.Views.{parts_of}
use Rattle.gp_expr.proofs.ViewLemmas.{new_id_view, parts_of_end}
use Rattle.gp_expr.proofs.sizes.+sizes.Goals as goal

pub size-returns-in-NewId : goal.size-returns-in-NewId
size-returns-in-NewId t c =
    let view = new_id_view c.args.expr.now _ _ _ c.in-NewId.parts c.deref-in-NewId.result.now c.in-NewId.is c.deref-in-NewId.ensures.value in
    rw view (rw (c.node_with-in-NewId.ensures, c.parts_size.ensures) (omega arith))

pub parts_size-returns : goal.parts_size-returns
parts_size-returns t c =
    let at_end : s.parts_size (parts_of (drop c.loop-part.part-index c.args.parts.now)) ≡ 0 =
    ap s.parts_size (parts_of_end c.args.parts.now c.loop-part.part-index c.loop-part-test.false) in
    omega arith
