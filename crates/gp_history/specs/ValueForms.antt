-- Of the law `values_are_those_of_the_history`: the answer to a question for values in a semiring, from a log and spans, and as a history held it.
use Rattle.std.specs.Prelude.{ℕ, Bool, List, Result}
use Rattle.gp_base.specs.declared.cell.Cell.{Cell}
use Rattle.gp_base.specs.declared.refusal.Refusal.{Refusal}
use Rattle.gp_base.specs.declared.table.Table.{Table}
use Rattle.gp_base.specs.declared.token.Token.{Token}
use Rattle.gp_base.specs.Annotated.{Annotated, monomials}
use Rattle.gp_base.specs.Tokens.{Monomial}
use Rattle.gp_grammar.specs.Syntax as y
use Rattle.gp_versions.specs.declared.span.Span.{Span}
use Rattle.gp_algebra.specs.Answers.{answer}
use Rattle.gp_algebra.specs.Statements.{Select}
use Rattle.gp_machine.specs.Entries.{Entry}
use Rattle.gp_machine.specs.Parameters.{Parameters}
use Rattle.gp_machine.specs.Points.{held_at}
use Rattle.gp_machine.specs.Questions.{given, log_refusal}
use Rattle.gp_machine.specs.State.{State}
use Rattle.gp_history.specs.ValueAnswers.{all_elements, limited, row_values}

module _ (parameters : Parameters) {K : Type 0} (plus : K → K → K) where
  -- what the question asks for: the values of the annotated answer
  abbrev pub value_answer : K → K → (K → K → K) → (Token → K) → (List (Annotated Monomial) → List (Annotated Monomial) → Bool) → List Table → List Entry → (ℕ → List Span) → y.Point → Select → Result (List (List Cell × K)) Refusal
  value_answer zero_of one_of times value agree catalogue entries spans point query =
      limited parameters.answer (row_values plus zero_of one_of times value) (all_elements monomials parameters agree catalogue entries spans point query)

  -- what the question asks for of the history
  abbrev pub held_value_answer : K → K → (K → K → K) → (Token → K) → State Monomial → y.Point → Select → Result (List (List Cell × K)) Refusal
  held_value_answer zero_of one_of times value state point query =
      limited parameters.answer (row_values plus zero_of one_of times value) (given (log_refusal state.entries point) (answer monomials query (held_at state point)))
