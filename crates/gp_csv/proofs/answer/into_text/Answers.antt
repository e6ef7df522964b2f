use Rattle.gp_csv.specs.Written.{written}
use Rattle.gp_csv.proofs.answer.into_text.Goals as goal

pub returns-in-Ok : goal.returns-in-Ok
unfolding written
returns-in-Ok c = c.in-Ok.ensures.ok
