use Rattle.gp_grammar.proofs.Prelude.{question, IsQuestion, capped_question, question_shape}
use Rattle.gp_grammar.proofs.LineLaws as line
use Rattle.gp_grammar.proofs.ParserLaws.{lawful-question}
use Rattle.gp_grammar.proofs.ShapeLemmas.{questions-fair}
use Rattle.gp_grammar.proofs.laws.questions_are_parsed.Goals as goal

pub returns : goal.returns
returns c = record { complete = lawful-question.parses; place = lawful-question.stops; unique = line.unambiguous question IsQuestion capped_question question_shape lawful-question questions-fair; fair = questions-fair }
