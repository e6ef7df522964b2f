use Rattle.gp_log.specs.LogFacts.{tables_in}
use Rattle.gp_ask.specs.Answers.{answer_to}
use Rattle.gp_ask.specs.Computed.{computed_in}
use Rattle.gp_ask.specs.Programs.{programs_in}
use Rattle.gprom_cli.proofs.AnswersLemmas.{same-computed, same-refusals, same-texts}
use Rattle.gprom_cli.proofs.laws.dumps_answer_for_changed_histories.Goals as goal

pub returns-clause-answers : goal.returns-clause-answers
returns-clause-answers c = λ format dump questions rules.
    same-texts format (tables_in dump.entries) (computed_in format dump) (answer_to (programs_in format) dump) (same-computed format dump (c.dumps_answer_as_changed_histories.ensures dump rules)) questions

pub returns-clause-refusals : goal.returns-clause-refusals
returns-clause-refusals c = λ format dump questions rules.
    same-refusals format (tables_in dump.entries) (computed_in format dump) (answer_to (programs_in format) dump) (same-computed format dump (c.dumps_answer_as_changed_histories.ensures dump rules)) questions
