-- Machinery: parts of the parser of questions.
use Rattle.std.specs.Prelude.{ℕ, List, map, Option, None, Ok, codes}
use Rattle.gp_lexer.specs.declared.lexeme.Symbol.TheVariants as s
use Rattle.gp_grammar.specs.Syntax as y
use Rattle.gp_grammar.specs.Parsing.{Parser, ◌>>=◌}
use Rattle.gp_grammar.specs.CommandParsing.{◌then◌, where_next, accept, expect_word}
use Rattle.gp_grammar.specs.QuestionParsing.{asked_of, number, second_side, side_subject, state, subject}
use Rattle.gp_syntax.specs.declared.question_parser.Rules.{Rules}
use Rattle.gp_syntax.specs.declared.question_parser.Pattern.{Pattern}
use Rattle.gp_syntax.specs.declared.command.Query.{Query}
use Rattle.gp_syntax.specs.declared.question.Subject.{Subject}
use Rattle.gp_syntax.specs.Views.{query_view, rule_view, subject_view}

abbrev pub rules_view : Rules → y.Rules
rules_view rules = record { rules = map rule_view rules.rules; other = rules.other }

-- rules and the number behind their ELSE
abbrev pub rules_of : List y.Rule → Option ℕ → y.Rules
rules_of rules other = record { rules = rules; other = other }

abbrev pub pattern_view : Pattern → y.Pattern
pattern_view pattern = record { kind = pattern.kind; t = pattern.t; k = pattern.k; n = pattern.n }

-- behind REENACT and its transaction
abbrev pub reenacted : ℕ → Parser y.Point
reenacted t = where_next s.Commit (accept (y.Point.commit t)) (expect_word (codes "after") (λ rest. number rest >>= (λ k. Ok (y.after t k.0, k.1))))

-- the closing bracket of rules without ELSE
abbrev pub ends_rules : List y.Rule → Parser y.Rules
ends_rules found = s.Close then accept (record { rules = found; other = None })

-- behind what is asked for of a state
abbrev pub state_of : y.How → Parser y.Subject
state_of how ts = state ts >>= (λ state. Ok (y.of_state how state.0, state.1))

-- a question, by what it is asked of and its query
abbrev pub asked_in : (y.Subject → y.Query → y.Question) → Subject × Query → y.Question
asked_in question asked = question (subject_view asked.0) (query_view asked.1)

-- behind changes
abbrev pub of_asked : (y.Subject → y.Query → y.Question) → Parser y.Question
of_asked question = expect_word (codes "of") (asked_of question subject)

-- behind the changes of a side
abbrev pub changed_subject : List y.LogChange → Parser y.Side
changed_subject changes = expect_word (codes "of") (λ rest. side_subject rest >>= (λ subject. Ok (y.changed changes subject.0, subject.1)))

-- behind the first side
abbrev pub to_second : y.Side → Parser y.Question
to_second first = expect_word (codes "to") (second_side first)
