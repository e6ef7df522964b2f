use Rattle.std.proofs.Common.{◌≡◌, ◌+◌, ◌∙◌, ap, sym, arith, map}
use Rattle.std.proofs.lemmas.Result.{IfOk-weaker}
use Rattle.gp_expr.specs.Expressions.{new_id}
use Rattle.gp_expr.specs.Rebuilding.{column_in, inner_view, rebuilt_parts}
use Rattle.gp_expr.specs.Sizes.{size}
use Rattle.gp_expr.specs.SizeForms.{parts_size}
use Rattle.gp_expr.specs.Substitution.{chosen}
use Rattle.gp_expr.specs.Views.{expr_view, parts_of}
use Rattle.gp_expr.proofs.RebuildingLemmas.{rebuilt_from, rebuilt_own}
use Rattle.gp_expr.proofs.ViewLemmas.{new_id_of_views, new_id_view, parts_of_views}
use Rattle.gp_expr.proofs.rebuilding.+rebuilding.Goals as goal

pub column-returns-in-Some-chosen : goal.column-returns-in-Some-chosen
column-returns-in-Some-chosen t c =
    let is : column_in (inner_view c.args.inner) c.args.n ≡ chosen c.args.n (map expr_view c.in-Some.inner.now)
    = ap (λ inner. column_in (inner_view inner) c.args.n) c.in-Some.is in
    let view = rebuilt_own (expr_view c.in-Some-chosen.expr.now) ∙ (c.in-Some-chosen.ensures.view ∙ sym is) in
    IfOk-weaker c.rebuild.result _ _ (λ new own. own ∙ view) c.rebuild.ensures

pub rebuild-rebuild_new_id-requires : goal.rebuild-rebuild_new_id-requires
rebuild-rebuild_new_id-requires t c =
    let view = new_id_view c.args.expr.now _ _ _ c.in-NewId.parts c.deref-in-NewId.result.now c.in-NewId.is c.deref-in-NewId.ensures.value in
    let sizes : size (expr_view c.args.expr.now) ≡ 1 + parts_size (parts_of c.deref-in-NewId.result.now) = ap size view in
    (omega (arith, sizes), tt)

pub rebuild-returns-in-NewId : goal.rebuild-returns-in-NewId
rebuild-returns-in-NewId t c =
    let view = new_id_view c.args.expr.now _ _ _ c.in-NewId.parts c.deref-in-NewId.result.now c.in-NewId.is c.deref-in-NewId.ensures.value in
    rw view c.rebuild_new_id.ensures

pub rebuild_new_id-returns : goal.rebuild_new_id-returns
rebuild_new_id-returns t c =
    let inner = inner_view c.args.inner in
    new_id_of_views _ _ _ c.in_ok-parts.parts _ c.in_ok-parts.ensures
    ∙ sym (ap (new_id c.args.t c.args.k c.args.b) (ap (rebuilt_parts inner) (parts_of_views c.args.parts.now) ∙ rebuilt_from inner _))
