-- From the log and the spans of a history, the values of an answer are those of what the history held.
use Rattle.std.proofs.Common.{◌≡◌, ℕ, Bool, true, false, cond, refl, ap, ◌∙◌, arith, List, [], length, nat_lt, Option, Some, None}
use Rattle.std.specs.List.Sorted.{IsPermutation}
use Rattle.std.specs.Option.{option_or}
use Rattle.std.proofs.lemmas.Bool.Decides.{nat_tests}
use Rattle.gp_base.specs.declared.cell.Cell.{Cell}
use Rattle.gp_base.specs.declared.refusal.Refusal.{Refusal}
use Rattle.gp_base.specs.declared.refusal.Refusal.TheVariants.{E27}
use Rattle.gp_base.specs.declared.token.Token.{Token}
use Rattle.gp_base.specs.Annotated.{Annotated, monomials}
use Rattle.gp_base.specs.Tokens.{Monomial}
use Rattle.gp_grammar.specs.Syntax as y
use Rattle.gp_versions.specs.declared.span.Span.{Span}
use Rattle.gp_algebra.specs.Answers.{answer}
use Rattle.gp_algebra.specs.Statements.{Select}
use Rattle.gp_semiring.specs.Semirings.{SemiringLaws}
use Rattle.gp_machine.specs.Annotating.{annotated_versions}
use Rattle.gp_machine.specs.Entries.{log_of}
use Rattle.gp_machine.specs.Parameters.{Parameters}
use Rattle.gp_machine.specs.Points.{at_point, held_at}
use Rattle.gp_machine.specs.QuestionForms.{AreAlike, IsAsked}
use Rattle.gp_machine.specs.Questions.{annotated_answer, annotation_stop, given, held_answer, log_refusal, needed_version, own_stop}
use Rattle.gp_machine.specs.State.{State}
use Rattle.gp_machine.proofs.AskedLemmas.{asked}
use Rattle.gp_history.specs.ValueAnswers.{history_refusal, limited, row_values}
use Rattle.gp_history.specs.ValueForms.{held_value_answer, value_answer}
use Rattle.gp_history.proofs.ValueLemmas.{values_moved}

none_above : (n : ℕ) → nat_lt n 0 ≡ false
none_above n = grind (arith, nat_tests)

-- answers without elements
abbrev Alike : Option Refusal → Option Refusal → Option Refusal → Bool → Type 0
Alike log versions own b = AreAlike {M = Monomial} (given (option_or log (option_or versions (option_or own (cond b (Some E27) None)))) []) (given (option_or log (cond b (Some E27) None)) [])

by_log : (log versions own : Option Refusal) (b : Bool) → b ≡ false → Alike log versions own b → option_or log (option_or versions own) ≡ log
by_log (Some refusal) versions own b e alike = refl
by_log None (Some refusal) own false e alike = absurd alike
by_log None None (Some refusal) false e alike = absurd alike
by_log None None None b e alike = refl
by_log None (Some refusal) own true e alike = absurd (cc)
by_log None None (Some refusal) true e alike = absurd (cc)

module _ (parameters : Parameters) (agree : List (Annotated Monomial) → List (Annotated Monomial) → Bool) (state : State Monomial) (spans : ℕ → List Span) (point : y.Point) where
  -- a query without branches is answered as the history does, so only the log refuses
  pub log_refuses : AreAlike (annotated_answer monomials parameters agree state.catalogue state.entries spans point []) (held_answer monomials parameters state point [])
      → history_refusal monomials parameters agree state.catalogue state.entries spans point ≡ log_refusal state.entries point
  log_refuses alike =
      by_log (log_refusal state.entries point) (annotation_stop monomials parameters agree state.catalogue (log_of state.entries) spans (needed_version state.entries point))
      (own_stop monomials parameters state.entries point (annotated_versions monomials state.entries spans)) (nat_lt parameters.answer 0) (none_above parameters.answer) alike

  module _ {K : Type 0} {element : K → Type 0} {zero_of one_of : K} {plus times_of : K → K → K} (laws : SemiringLaws element zero_of one_of plus times_of) (value : Token → K) (value_in : (t : Token) → element (value t)) (query : Select)
      (alike : AreAlike (annotated_answer monomials parameters agree state.catalogue state.entries spans point []) (held_answer monomials parameters state point []))
      (held : IsAsked state.entries point → IsPermutation (answer monomials query (at_point monomials state.entries point (annotated_versions monomials state.entries spans))) (answer monomials query (held_at state point))) where
    pub values_held : value_answer parameters plus zero_of one_of times_of value agree state.catalogue state.entries spans point query ≡ held_value_answer parameters plus zero_of one_of times_of value state point query
    values_held =
        ap (λ refusal. limited parameters.answer (row_values plus zero_of one_of times_of value) (given refusal (answer monomials query (at_point monomials state.entries point (annotated_versions monomials state.entries spans))))) (log_refuses alike)
        ∙ same (log_refusal state.entries point) refl
      where
        same : (refusal : Option Refusal) → log_refusal state.entries point ≡ refusal
            → limited parameters.answer (row_values plus zero_of one_of times_of value) (given refusal (answer monomials query (at_point monomials state.entries point (annotated_versions monomials state.entries spans))))
            ≡ limited parameters.answer (row_values plus zero_of one_of times_of value) (given refusal (answer monomials query (held_at state point)))
        same (Some refusal) e = refl
        same None e =
            ap (λ (rows : List (List Cell × K)). given (cond (nat_lt parameters.answer (length rows)) (Some E27) None) rows)
            (values_moved laws value value_in (answer monomials query (at_point monomials state.entries point (annotated_versions monomials state.entries spans))) (answer monomials query (held_at state point)) (held (asked state.entries point e)))
