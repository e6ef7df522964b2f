use Rattle.std.proofs.Common.{◌≡◌, ◌+◌, ◌*◌, ◌++◌, ◌≤◌, drop}
use Rattle.gp_expr.specs.Sizes.{size}
use Rattle.gp_expr.specs.SizeForms.{cond_size, parts_size}
use Rattle.gp_expr.specs.Views.{cond_view, expr_view, parts_of}
use Rattle.gp_sql.specs.Spelling.{others_joined}
use Rattle.gp_sql.specs.Translation.{other_parts}
use Rattle.gp_sql.proofs.term_writer.+terms.Given as goal

-- what was appended and the texts of those that remain are the text of all; the latter are no larger than all
abbrev pub invariant-push_other_parts-loop-part : goal.invariant-push_other_parts-loop-part
invariant-push_other_parts-loop-part l =
    record {
      all : l.out.items ++ others_joined l.catalog (other_parts l.types (parts_of (drop l.part-index l.parts))) ≡ l.initial.out.items ++ others_joined l.catalog (other_parts l.types (parts_of l.parts));
      size : parts_size (parts_of (drop l.part-index l.parts)) ≤ parts_size (parts_of l.parts);
    }

abbrev pub decreases-push_expr : goal.decreases-push_expr
decreases-push_expr l = 8 * size (expr_view l.expr.now)

abbrev pub decreases-push_cond : goal.decreases-push_cond
decreases-push_cond l = 8 * cond_size (cond_view l.cond.now)

abbrev pub decreases-push_enclosed : goal.decreases-push_enclosed
decreases-push_enclosed l = 8 * size (expr_view l.expr.now) + 1

abbrev pub decreases-push_operand : goal.decreases-push_operand
decreases-push_operand l = 8 * size (expr_view l.expr.now) + 2

abbrev pub decreases-push_enclosed_cond : goal.decreases-push_enclosed_cond
decreases-push_enclosed_cond l = 8 * cond_size (cond_view l.cond.now) + 1

abbrev pub decreases-push_arithmetic : goal.decreases-push_arithmetic
decreases-push_arithmetic l = 8 * (size (expr_view l.left.now) + size (expr_view l.right.now)) + 3

abbrev pub decreases-push_comparison : goal.decreases-push_comparison
decreases-push_comparison l = 8 * (size (expr_view l.left.now) + size (expr_view l.right.now)) + 3

abbrev pub decreases-push_conds : goal.decreases-push_conds
decreases-push_conds l = 8 * (cond_size (cond_view l.left.now) + cond_size (cond_view l.right.now)) + 2

abbrev pub decreases-push_case : goal.decreases-push_case
decreases-push_case l = 8 * (cond_size (cond_view l.when.now) + (size (expr_view l.first.now) + size (expr_view l.other.now))) + 2

abbrev pub decreases-push_other_parts : goal.decreases-push_other_parts
decreases-push_other_parts l = 8 * parts_size (parts_of l.parts.now) + 2

abbrev pub decreases-push_parts : goal.decreases-push_parts
decreases-push_parts l = 8 * parts_size (parts_of l.parts.now) + 3

abbrev pub decreases-push_new_id : goal.decreases-push_new_id
decreases-push_new_id l = 8 * parts_size (parts_of l.parts.now) + 4

abbrev pub decreases-push_chain : goal.decreases-push_chain
decreases-push_chain l = 8 * cond_size (cond_view l.cond.now) + 1

abbrev pub decreases-push_and : goal.decreases-push_and
decreases-push_and l = 8 * (cond_size (cond_view l.left.now) + cond_size (cond_view l.right.now)) + 3
