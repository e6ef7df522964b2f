use Rattle.gp_syntax.specs.Views.{question_view}
use Rattle.gp_dump.specs.Views.{dump_view}
use Rattle.gp_ask.specs.declared.format.Format.TheVariants.{Csv, Named, Sql}
use Rattle.gp_ask.specs.ExplainedTexts.{ExplainsQuestion}
use Rattle.gp_ask.proofs.FormatLemmas.{unexplained}
use Rattle.gp_ask.proofs.exporting.answer_in.Goals as goal

pub returns-in-Csv-clause-explained : goal.returns-in-Csv-clause-explained
returns-in-Csv-clause-explained c =
    unexplained c.exported.result c.args.format Csv (ExplainsQuestion (dump_view c.args.dump.now).entries (question_view c.args.question.now.read)) c.in-Csv.is tt

pub returns-in-Named-clause-explained : goal.returns-in-Named-clause-explained
returns-in-Named-clause-explained c =
    unexplained c.named.result c.args.format Named (ExplainsQuestion (dump_view c.args.dump.now).entries (question_view c.args.question.now.read)) c.in-Named.is tt

pub returns-in-Sql-clause-explained : goal.returns-in-Sql-clause-explained
returns-in-Sql-clause-explained c =
    unexplained c.sql_answer.result c.args.format Sql (ExplainsQuestion (dump_view c.args.dump.now).entries (question_view c.args.question.now.read)) c.in-Sql.is tt

pub returns-in-Text-clause-answered : goal.returns-in-Text-clause-answered
returns-in-Text-clause-answered c = rw c.in-Text.is c.answer_from.ensures.answered

pub returns-in-Named-clause-answered : goal.returns-in-Named-clause-answered
returns-in-Named-clause-answered c = rw c.in-Named.is c.named.ensures.answered
