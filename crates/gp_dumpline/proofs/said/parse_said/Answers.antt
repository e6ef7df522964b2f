use Rattle.std.proofs.Common.{sym, ◌∙◌}
use Rattle.gp_dumpline.proofs.SaidLemmas.{said-refused}
use Rattle.gp_dumpline.proofs.said.parse_said.Goals as goal

pub returns-in-Err-Refused-clause-said : goal.returns-in-Err-Refused-clause-said
returns-in-Err-Refused-clause-said c =
    let r = c.in-Err-Refused in
    said-refused c.args.text.now r.field-0 r.field-0-0 (sym c.eq.ensures ∙ c.if-eq.false) r.field-0-is r.ensures.exact
