use Rattle.std.proofs.Common.{ap, ◌∙◌, map}
use Rattle.std.proofs.lemmas.Result.{IfOk-weaker}
use Rattle.gp_expr.specs.Values.{truth}
use Rattle.gp_expr.specs.Views.{cond_view, expr_view}
use Rattle.gp_expr.proofs.RebuildingLemmas.{rebuilt_inner_cond}
use Rattle.gp_expr.proofs.SubstitutionLemmas.{truth_of_views}
use Rattle.gp_expr.proofs.substitution.substitute_cond.Goals as goal

pub returns-clause-exact : goal.returns-clause-exact
returns-clause-exact c =
    IfOk-weaker c.rebuild_cond.result _ _
    (λ new is. is ∙ rebuilt_inner_cond (cond_view c.args.cond.now) (map expr_view c.args.inner.now)) c.rebuild_cond.ensures

pub returns-clause-truth : goal.returns-clause-truth
returns-clause-truth c =
    IfOk-weaker c.rebuild_cond.result _ _
    (λ new exact row. ap (λ cond. truth cond row) exact ∙ truth_of_views (cond_view c.args.cond.now) c.args.inner.now row)
    (returns-clause-exact c)
