use Rattle.std.proofs.Common.{refl}
use Rattle.gp_ask.proofs.remembering.answer_again.Goals as goal

pub returns-in-Some-clause-kept : goal.returns-in-Some-clause-kept
returns-in-Some-clause-kept c = λ dump is. record { same = refl; log = is; made = c.requires.made; annotations = c.requires.annotations }
