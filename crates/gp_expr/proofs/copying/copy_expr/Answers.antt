use Rattle.std.proofs.Common.{◌∙◌}
use Rattle.std.proofs.lemmas.Result.{IfOk-weaker}
use Rattle.gp_expr.specs.Views.{expr_view}
use Rattle.gp_expr.proofs.RebuildingLemmas.{rebuilt_own}
use Rattle.gp_expr.proofs.copying.copy_expr.Goals as goal

pub returns : goal.returns
returns c = IfOk-weaker c.rebuild.result _ _ (λ copy is. is ∙ rebuilt_own (expr_view c.args.expr.now)) c.rebuild.ensures
