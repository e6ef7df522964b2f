use Rattle.gp_grammar.proofs.Prelude.{question, IsQuestion, capped_question, question_shape}
use Rattle.gp_grammar.proofs.LineLaws as line
use Rattle.gp_grammar.proofs.ParserLaws.{lawful-question}
use Rattle.gp_grammar.proofs.ShapeLemmas.{questions-fair}
use Rattle.gp_grammar.proofs.ChangeLaws.{statements-read}
use Rattle.gp_grammar.proofs.laws.questions_are_read.Goals as goal

pub returns : goal.returns
returns c = record { reads = line.lines-read question IsQuestion capped_question question_shape lawful-question questions-fair; refuses = line.lines-refused question IsQuestion capped_question question_shape lawful-question questions-fair; statement = statements-read }
