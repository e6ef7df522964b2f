use Rattle.gp_ask.proofs.answering.answer.Goals as goal

pub answer_from-requires-clause-kept : goal.answer_from-requires-clause-kept
answer_from-requires-clause-kept c = c.new-kept.ensures c.args.dump.now
