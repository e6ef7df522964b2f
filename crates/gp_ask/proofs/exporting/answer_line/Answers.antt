use Rattle.gp_ask.proofs.exporting.answer_line.Goals as goal

pub answer_line_in-found-requires-clause-kept : goal.answer_line_in-found-requires-clause-kept
answer_line_in-found-requires-clause-kept c = c.new-kept.ensures c.args.dump.now
