use Rattle.std.proofs.Common.{sym, ◌∙◌}
use Rattle.gp_syntax.proofs.LimitLemmas.{blocks-above}
use Rattle.gp_syntax.proofs.limits.are_blocks_above.Goals as goal

pub returns : goal.returns
returns c = c.any_block_above.ensures ∙ sym (blocks-above c.args.measure c.args.blocks.now)
