use Rattle.std.proofs.Common.{sym}
use Rattle.gp_history.proofs.AgreementLemmas.{lengths_differ}
use Rattle.gp_ask.proofs.made.are_equal.Goals as goal

pub returns-then-rows-others : goal.returns-then-rows-others
returns-then-rows-others c = sym (lengths_differ c.args.rows.now c.args.others.now c.if-rows-others.true)
