use Rattle.std.proofs.Common.{ap, ◌∙◌}
use Rattle.gp_grammar.specs.Reading.{question_of}
use Rattle.gp_dump.specs.Views.{dump_view}
use Rattle.gp_log.specs.LogFacts.{tables_in}
use Rattle.gp_ask.specs.declared.answered.Answered.TheVariants.{Refused}
use Rattle.gp_ask.specs.Computed.{computed_in}
use Rattle.gp_ask.specs.QuestionFiles.{ExplainsRead}
use Rattle.gp_ask.specs.Formats.{answers_in}
use Rattle.gp_ask.proofs.FormatLemmas.{explains-in}
use Rattle.gp_ask.proofs.ReadLemmas.{refused-text, unread-explains}
use Rattle.gp_ask.proofs.exporting.answer_line_in.Goals as goal

pub returns-in-Err-Refused-clause-answered : goal.returns-in-Err-Refused-clause-answered
returns-in-Err-Refused-clause-answered c =
    ap Refused c.in-Err-Refused.refusal-is
    ∙ refused-text (answers_in c.args.format (tables_in (dump_view c.args.dump.now).entries) (computed_in c.args.format (dump_view c.args.dump.now))) (question_of c.args.line.now) c.in-Err-Refused.refusal
    (rw c.in-Err-Refused.field-0-is at c.in-Err-Refused.ensures)

pub returns-in-Err-Refused-clause-explained : goal.returns-in-Err-Refused-clause-explained
returns-in-Err-Refused-clause-explained c =
    explains-in c.args.format (ExplainsRead (dump_view c.args.dump.now).entries (question_of c.args.line.now))
    (unread-explains (dump_view c.args.dump.now).entries (question_of c.args.line.now) c.in-Err-Refused.refusal (rw c.in-Err-Refused.field-0-is at c.in-Err-Refused.ensures))
