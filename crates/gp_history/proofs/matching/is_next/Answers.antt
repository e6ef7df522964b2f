use Rattle.gp_history.specs.Matching.{span_key}
use Rattle.gp_history.proofs.MatchingLemmas.{next_row}
use Rattle.gp_history.proofs.matching.is_next.Goals as goal

pub returns-then-at-rows-clause-row : goal.returns-then-at-rows-clause-row
returns-then-at-rows-clause-row g c = λ yes.
    next_row c.args.rows.now c.args.at c.index-rows-at.result (span_key c.args.span.now) c.if-at-rows.true c.index-rows-at.is (c.is_row_of.ensures yes)
