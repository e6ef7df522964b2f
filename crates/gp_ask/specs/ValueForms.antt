-- Machinery: the answers of questions for values, from a dump and as a history held them, as contracts and lemmas speak of them.
use Rattle.std.specs.Prelude.{ℕ, List, Option, Result}
use Rattle.gp_base.specs.declared.refusal.Refusal.{Refusal}
use Rattle.gp_base.specs.Tokens.{Monomial}
use Rattle.gp_grammar.specs.declared.semiring_name.SemiringName.{SemiringName}
use Rattle.gp_grammar.specs.Syntax as y
use Rattle.gp_algebra.specs.Answers.{Element}
use Rattle.gp_algebra.specs.Statements.{Select}
use Rattle.gp_history.specs.ValueAnswers.{limited, row_values}
use Rattle.gp_log.specs.Parameters.{parameters}
use Rattle.gp_machine.specs.State.{State}
use Rattle.gp_dump.specs.Dumps.{Dump}
use Rattle.gp_semiring.specs.declared.rules.Rule.{Rule}
use Rattle.gp_ask.specs.declared.answered.Answered.{Answered}
use Rattle.gp_ask.specs.Asking.{valued_answer}
use Rattle.gp_ask.specs.AskingForms.{dump_elements, held_elements}
use Rattle.gp_ask.specs.Operations.{Operations, evaluated, value_of}

-- their values in a semiring
abbrev pub values_answer : Operations → SemiringName → List Rule × Option ℕ → Result (List (Element Monomial)) Refusal → Answered
values_answer semiring name rules elements =
    evaluated semiring rules name (limited parameters.answer (row_values semiring.plus_of semiring.zero_of semiring.one_of semiring.times_of (value_of semiring rules)) elements)

abbrev pub dump_values : Operations → SemiringName → List Rule × Option ℕ → Dump → y.Point → Select → Answered
dump_values semiring name rules dump point select = values_answer semiring name rules (dump_elements dump point select)

abbrev pub dump_valued : SemiringName → List y.Rule → Option ℕ → Dump → y.Point → Select → Answered
dump_valued name rules other dump point select = valued_answer name rules other (dump_elements dump point select)

abbrev pub held_values : Operations → SemiringName → List Rule × Option ℕ → State Monomial → y.Point → Select → Answered
held_values semiring name rules state point select = values_answer semiring name rules (held_elements state point select)

abbrev pub held_valued : SemiringName → List y.Rule → Option ℕ → State Monomial → y.Point → Select → Answered
held_valued name rules other state point select = valued_answer name rules other (held_elements state point select)
