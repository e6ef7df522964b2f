use Rattle.std.proofs.Common.{map}
use Rattle.gp_expr.specs.Views.{expr_view}
use Rattle.gp_exec.specs.Evaluating.{found_rows}
use Rattle.gp_exec.proofs.EvaluationLemmas.{Projects-plain, plain_conditions}
use Rattle.gp_exec.proofs.projection.values_on.Goals as goal

pub project-requires : goal.project-requires
project-requires c = plain_conditions (map expr_view c.args.exprs.now) c.requires

pub returns : goal.returns
returns c =
    let made = c.in_ok-project.field-0 in
    Projects-plain made.rows.items made.is_large (map expr_view c.args.exprs.now) (found_rows c.args.rows.now) c.requires c.in_ok-project.ensures
