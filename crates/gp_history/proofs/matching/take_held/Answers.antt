use Rattle.gp_history.proofs.MatchingLemmas.{kept_taken, written_taken}
use Rattle.gp_history.proofs.matching.take_held.Goals as goal

pub returns-then-is_next : goal.returns-then-is_next
returns-then-is_next g c = kept_taken c.args.kept.now c.args.written.now c.args.at c.args.version c.args.span.now c.requires (c.is_next.ensures.row c.if-is_next.true)

pub returns-then-is_next-2 : goal.returns-then-is_next-2
returns-then-is_next-2 g c = written_taken c.args.kept.now c.args.written.now c.args.at c.args.version c.args.span.now c.requires (c.is_next-2.ensures.row c.if-is_next-2.true)
