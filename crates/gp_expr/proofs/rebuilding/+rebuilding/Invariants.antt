use Rattle.std.proofs.Common.{◌≡◌, ◌+◌, ◌*◌, ◌++◌, ◌≤◌, map, drop}
use Rattle.gp_expr.specs.Rebuilding.{inner_view, rebuilt}
use Rattle.gp_expr.specs.Sizes.{size}
use Rattle.gp_expr.specs.SizeForms.{cond_size, parts_size}
use Rattle.gp_expr.specs.Views.{cond_view, expr_view, parts_of}
use Rattle.gp_expr.proofs.RebuildingLemmas.{inner_size}
use Rattle.gp_expr.proofs.rebuilding.+rebuilding.Given as goal

-- those that were built anew and those that remain are all; the latter are no larger than all
abbrev pub invariant-rebuild_parts-loop-part : goal.invariant-rebuild_parts-loop-part
invariant-rebuild_parts-loop-part l =
    record {
      all : map expr_view l.made.items ++ map (rebuilt (inner_view l.inner)) (map expr_view (drop l.part-index l.parts))
          ≡ map (rebuilt (inner_view l.inner)) (map expr_view l.parts);
      size : parts_size (parts_of (drop l.part-index l.parts)) ≤ parts_size (parts_of l.parts);
    }

-- an expression in place of a column is copied, and then no other is in place of its columns

abbrev pub decreases-column : goal.decreases-column
decreases-column l = 4 * inner_size l.inner + 3

abbrev pub decreases-rebuild : goal.decreases-rebuild
decreases-rebuild l = 4 * (size (expr_view l.expr.now) + inner_size l.inner)

abbrev pub decreases-rebuild_cond : goal.decreases-rebuild_cond
decreases-rebuild_cond l = 4 * (cond_size (cond_view l.cond.now) + inner_size l.inner)

abbrev pub decreases-rebuild_both : goal.decreases-rebuild_both
decreases-rebuild_both l = 4 * (size (expr_view l.left.now) + size (expr_view l.right.now) + inner_size l.inner) + 1

abbrev pub decreases-rebuild_conds : goal.decreases-rebuild_conds
decreases-rebuild_conds l = 4 * (cond_size (cond_view l.left.now) + cond_size (cond_view l.right.now) + inner_size l.inner) + 1

abbrev pub decreases-rebuild_case : goal.decreases-rebuild_case
decreases-rebuild_case l = 4 * (cond_size (cond_view l.when.now) + (size (expr_view l.first.now) + size (expr_view l.other.now)) + inner_size l.inner) + 2

abbrev pub decreases-rebuild_parts : goal.decreases-rebuild_parts
decreases-rebuild_parts l = 4 * (parts_size (parts_of l.parts.now) + inner_size l.inner) + 1

abbrev pub decreases-rebuild_new_id : goal.decreases-rebuild_new_id
decreases-rebuild_new_id l = 4 * (parts_size (parts_of l.parts.now) + inner_size l.inner) + 2
