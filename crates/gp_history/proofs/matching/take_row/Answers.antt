use Rattle.std.proofs.Common.{sym, ◌∙◌}
use Rattle.gp_history.proofs.MatchingLemmas.{not_held}
use Rattle.gp_history.proofs.matching.take_row.Goals as goal

pub returns-else-holds : goal.returns-else-holds
returns-else-holds g c = not_held c.args.kept.now c.args.written.now c.args.at c.args.version c.args.span.now (sym c.holds.ensures ∙ c.if-holds.false)
