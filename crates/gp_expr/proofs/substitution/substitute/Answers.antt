use Rattle.std.proofs.Common.{ap, ◌∙◌, map}
use Rattle.std.proofs.lemmas.Result.{IfOk-weaker}
use Rattle.gp_expr.specs.Values.{value}
use Rattle.gp_expr.specs.Views.{expr_view}
use Rattle.gp_expr.proofs.RebuildingLemmas.{rebuilt_inner}
use Rattle.gp_expr.proofs.SubstitutionLemmas.{value_of_views}
use Rattle.gp_expr.proofs.substitution.substitute.Goals as goal

pub returns-clause-exact : goal.returns-clause-exact
returns-clause-exact c =
    IfOk-weaker c.rebuild.result _ _ (λ new is. is ∙ rebuilt_inner (expr_view c.args.expr.now) (map expr_view c.args.inner.now)) c.rebuild.ensures

pub returns-clause-value : goal.returns-clause-value
returns-clause-value c =
    IfOk-weaker c.rebuild.result _ _
    (λ new exact row. ap (λ expr. value expr row) exact ∙ value_of_views (expr_view c.args.expr.now) c.args.inner.now row)
    (returns-clause-exact c)
