use Rattle.std.proofs.Common.{◌∙◌}
use Rattle.std.proofs.lemmas.Result.{IfOk-weaker}
use Rattle.gp_expr.specs.Views.{cond_view}
use Rattle.gp_expr.proofs.RebuildingLemmas.{rebuilt_own_cond}
use Rattle.gp_expr.proofs.copying.copy_cond.Goals as goal

pub returns : goal.returns
returns c = IfOk-weaker c.rebuild_cond.result _ _ (λ copy is. is ∙ rebuilt_own_cond (cond_view c.args.cond.now)) c.rebuild_cond.ensures
