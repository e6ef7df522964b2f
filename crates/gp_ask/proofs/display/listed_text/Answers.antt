use Rattle.std.proofs.Common.{arith}
use Rattle.std.proofs.lemmas.Grind.{common_steps}
use Rattle.gp_ask.specs.Texts.{listed_text}
use Rattle.gp_ask.proofs.display.listed_text.Goals as goal

pub returns : goal.returns
unfolding listed_text
returns c = grind (arith, common_steps)
