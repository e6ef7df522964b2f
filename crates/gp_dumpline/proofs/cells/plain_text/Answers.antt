use Rattle.std.proofs.Common.{sym, ◌∙◌}
use Rattle.gp_dumpline.proofs.CellLemmas.{plain-taken}
use Rattle.gp_dumpline.proofs.cells.plain_text.Goals as goal

pub returns-then-not-contains : goal.returns-then-not-contains
returns-then-not-contains c = plain-taken c.args.text.now 0 c.in-len1-up.len_at_least c.if-last-eq-QUOTE.true (sym c.contains.ensures.value ∙ c.if-not-contains.true)
