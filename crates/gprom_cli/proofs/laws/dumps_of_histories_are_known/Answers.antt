use Rattle.gprom_cli.proofs.laws.dumps_of_histories_are_known.Goals as goal

pub returns-clause-held : goal.returns-clause-held
returns-clause-held c = c.histories_answer_with_any_programs.ensures

pub returns-clause-checked : goal.returns-clause-checked
returns-clause-checked c = c.dumps_of_histories_do_not_differ.ensures.sound

pub returns-clause-first : goal.returns-clause-first
returns-clause-first c = c.differences_are_first.ensures.first
