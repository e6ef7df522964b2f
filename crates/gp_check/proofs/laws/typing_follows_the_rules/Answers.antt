use Rattle.gp_check.proofs.TypingLemmas.{types_are}
use Rattle.gp_check.proofs.laws.typing_follows_the_rules.Goals as goal

pub returns : goal.returns
returns c = types_are
