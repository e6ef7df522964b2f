use Rattle.std.proofs.Common.{◌∙◌}
use Rattle.gp_rewrite.proofs.PlaceLemmas.{pushed_column}
use Rattle.gp_rewrite.proofs.statement.updated.Goals as goal

pub loop-before-preserved : goal.loop-before-preserved
loop-before-preserved c = pushed_column _ _ _ _ _ _ _ c.in_ok-push.ensures.ok c.in_ok-cased.ensures c.loop-before-test.true ∙ c.loop-before.invariant
