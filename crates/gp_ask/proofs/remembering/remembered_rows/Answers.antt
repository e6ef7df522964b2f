use Rattle.std.proofs.Common.{refl}
use Rattle.gp_ask.proofs.remembering.remembered_rows.Goals as goal

pub returns-clause-kept : goal.returns-clause-kept
returns-clause-kept c = λ dump is. record { same = refl; log = is; made = c.requires.made; annotations = c.made_rows-found.ensures.annotations }
