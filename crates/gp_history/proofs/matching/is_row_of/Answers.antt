use Rattle.std.proofs.Common.{sym, ◌∙◌}
use Rattle.gp_history.proofs.MatchingLemmas.{row_matches}
use Rattle.gp_history.proofs.matching.is_row_of.Goals as goal

pub returns-then-is_same_id : goal.returns-then-is_same_id
returns-then-is_same_id g c = λ yes. row_matches c.args.row.now c.args.span.now (sym c.is_same_id.ensures ∙ c.if-is_same_id.true) (sym c.is_same.ensures ∙ yes)
