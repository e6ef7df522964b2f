use Rattle.std.proofs.Common.{◌≡◌, ◌+◌, ap, arith}
use Rattle.gp_expr.specs.Sizes.{size}
use Rattle.gp_expr.specs.SizeForms.{parts_size}
use Rattle.gp_expr.specs.Views.{expr_view, parts_of}
use Rattle.gp_expr.proofs.ViewLemmas.{new_id_view}
use Rattle.gp_sql.proofs.ItemLemmas.{parts-kept, parts-less}
use Rattle.gp_sql.proofs.ListLemmas.{item-there}
use Rattle.gp_sql.proofs.term_writer.+terms.Goals as goal

pub push_expr-push_new_id-requires : goal.push_expr-push_new_id-requires
push_expr-push_new_id-requires t c =
    let view = new_id_view c.args.expr.now _ _ _ c.in-NewId.parts c.deref-in-NewId.result.now c.in-NewId.is c.deref-in-NewId.ensures.value in
    let sizes : size (expr_view c.args.expr.now) ≡ 1 + parts_size (parts_of c.deref-in-NewId.result.now) = ap size view in
    (omega (arith, sizes), tt)

pub push_expr-returns-in-NewId : goal.push_expr-returns-in-NewId
push_expr-returns-in-NewId t c =
    let view = new_id_view c.args.expr.now _ _ _ c.in-NewId.parts c.deref-in-NewId.result.now c.in-NewId.is c.deref-in-NewId.ensures.value in
    rw view c.push_new_id.ensures

pub push_other_parts-loop-part-preserved : goal.push_other_parts-loop-part-preserved
push_other_parts-loop-part-preserved t c =
    let inv = c.loop-part.invariant in
    let there = item-there c.args.parts.now c.loop-part.part-index c.part-item.result c.loop-part-test.true c.part-item.is in
    let less = parts-less c.args.parts.now c.loop-part.part-index c.part-item.result there in
    record {
      all = parts-kept c.args.catalog.now c.args.types.now c.args.parts.now c.loop-part.part-index c.part-item.result c.loop-part.out.items c.push_enclosed.new.out.items _ there c.in_ok-push_enclosed.ensures inv.all;
      size = omega (arith, less, inv.size);
    }
