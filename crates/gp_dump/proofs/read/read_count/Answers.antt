use Rattle.std.proofs.Common.{refl, ◌∙◌, sym}
use Rattle.gp_dump.specs.Rules.{Count}
use Rattle.gp_dump.proofs.ReadLemmas.{count-some, count-none}
use Rattle.gp_dump.proofs.read.read_count.Goals as goal

pub returns-in-Some-clause-verdict : goal.returns-in-Some-clause-verdict
returns-in-Some-clause-verdict c second = c.in_ok-text.ensures.verdict (Count second) refl ∙ count-some second c.in_ok-text.text.now c.in-Some.count c.args.rest.number _ (sym c.in-Some.ensures.count)

pub returns-in-None-clause-verdict : goal.returns-in-None-clause-verdict
returns-in-None-clause-verdict c second = c.in_ok-text.ensures.verdict (Count second) refl ∙ count-none second c.in_ok-text.text.now c.args.rest.number _ (sym c.in-None.ensures.count)
