use Rattle.std.proofs.Common.{◌∙◌}
use Rattle.gp_base.proofs.UserTextLemmas.{utf8-test, utf8-whole}
use Rattle.gp_base.proofs.text.is_utf8.Goals as goal

pub returns-clause-whole : goal.returns-clause-whole
returns-clause-whole c = c.is_ok.ensures.value ∙ utf8-whole _ _ c.from_utf8.result c.args.bytes.now c.from_utf8.ensures.cases

pub returns-clause-utf8 : goal.returns-clause-utf8
returns-clause-utf8 c = c.is_ok.ensures.value ∙ utf8-test _ _ c.from_utf8.result c.args.bytes.now c.from_utf8.ensures.cases
