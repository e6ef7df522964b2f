use Rattle.std.proofs.Common.{◌∙◌}
use Rattle.gp_check.proofs.MeaningLemmas.{pushed_column}
use Rattle.gp_check.proofs.meaning.first_columns.Goals as goal

pub loop-before-preserved : goal.loop-before-preserved
loop-before-preserved c = pushed_column _ _ _ _ c.in_ok-push.ensures.ok c.loop-before-test.true ∙ c.loop-before.invariant
