use Rattle.gp_explain.proofs.Prelude.{◌+◌, ◌*◌, ◌≤◌, drop, AllByRecursion, size, parts_size, expr_view, parts_of, ExprInRange}
use Rattle.gp_expr.specs.SizeForms.{cond_size}
use Rattle.gp_expr.specs.Views.{cond_view}
use Rattle.gp_explain.proofs.numbers.+terms.Given as goal

-- if those that remain are in range, all are; those that remain are no larger than all
abbrev pub invariant-exprs_in_range-loop-expr : goal.invariant-exprs_in_range-loop-expr
invariant-exprs_in_range-loop-expr l =
    record {
      all : AllByRecursion (λ expr. ExprInRange (expr_view expr)) (drop l.expr-index l.exprs) → AllByRecursion (λ expr. ExprInRange (expr_view expr)) l.exprs;
      size : parts_size (parts_of (drop l.expr-index l.exprs)) ≤ parts_size (parts_of l.exprs);
    }

abbrev pub decreases-expr_in_range : goal.decreases-expr_in_range
decreases-expr_in_range l = 4 * size (expr_view l.expr.now)

abbrev pub decreases-cond_in_range : goal.decreases-cond_in_range
decreases-cond_in_range l = 4 * cond_size (cond_view l.cond.now)

abbrev pub decreases-both_in_range : goal.decreases-both_in_range
decreases-both_in_range l = 4 * (size (expr_view l.left.now) + size (expr_view l.right.now)) + 1

abbrev pub decreases-exprs_in_range : goal.decreases-exprs_in_range
decreases-exprs_in_range l = 4 * parts_size (parts_of l.exprs.now) + 1

abbrev pub decreases-new_id_in_range : goal.decreases-new_id_in_range
decreases-new_id_in_range l = 4 * parts_size (parts_of l.parts.now) + 2
