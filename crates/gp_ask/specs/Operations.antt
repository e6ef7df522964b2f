-- Machinery: semirings by their operations, for code over any semiring, and the answers with values in them.
use Rattle.std.specs.Prelude.{ℕ, min, max, ◌||◌, ◌&&◌, true, false, List, [], ◌∷◌, Option, Result}
use Rattle.std.specs.Fmt.{decimal}
use Rattle.std.specs.Option.{option_map}
use Rattle.gp_base.specs.declared.cell.Cell.{Cell}
use Rattle.gp_base.specs.declared.refusal.Refusal.{Refusal}
use Rattle.gp_base.specs.declared.refusal.Refusal.TheVariants.{E28}
use Rattle.gp_base.specs.declared.token.Token.{Token}
use Rattle.gp_base.specs.Tokens.{greatest_count, token_cmp}
use Rattle.gp_grammar.specs.declared.semiring_name.SemiringName.{SemiringName}
use Rattle.gp_grammar.specs.declared.semiring_name.SemiringName.TheVariants as named
use Rattle.gp_semiring.specs.Elements.{cost_text, no_token, nobody, number_up_to, truth_of, truth_text}
use Rattle.gp_semiring.specs.Polynomials.{poly_number, poly_one, poly_plus, poly_text, poly_times, poly_token}
use Rattle.gp_semiring.specs.Sums.{plus_up_to, times_up_to}
use Rattle.gp_semiring.specs.Witnesses.{sets_text, witness_number, witness_plus, witness_times, witness_token}
use Rattle.gp_semiring.specs.declared.rules.Rule.{Rule}
use Rattle.gp_semiring.specs.Rules.{first_outside}
use Rattle.gp_semiring.specs.Values.{token_value}
use Rattle.gp_ask.specs.declared.answered.Answered.{Answered}
use Rattle.gp_ask.specs.Values.{name_text, unless_refused, with_values}

pub record Operations : Type 1 where
  pub Element : Type 0
  pub zero_of : Element
  pub one_of : Element
  pub plus_of : Element → Element → Element
  pub times_of : Element → Element → Element
  pub number_of : ℕ → Option Element
  pub itself_of : Token → Option Element
  pub text_of : Element → List ℕ

abbrev pub operations_with : {K : Type 0} → K → K → (K → K → K) → (K → K → K) → (ℕ → Option K) → (Token → Option K) → (K → List ℕ) → Operations
operations_with {K} zero_of one_of plus_of times_of number_of itself_of text_of = record {
  Element = K;
  zero_of = zero_of;
  one_of = one_of;
  plus_of = plus_of;
  times_of = times_of;
  number_of = number_of;
  itself_of = itself_of;
  text_of = text_of;
}

abbrev pub count : Operations
count = operations_with 0 1 (plus_up_to greatest_count) (times_up_to greatest_count) (number_up_to greatest_count) no_token decimal

abbrev pub truth : Operations
truth = operations_with false true ◌||◌ ◌&&◌ truth_of no_token truth_text

abbrev pub cost : Operations
cost = operations_with greatest_count 0 min (plus_up_to greatest_count) (number_up_to greatest_count) no_token cost_text

abbrev pub level : Operations
level = operations_with nobody 0 min max (number_up_to nobody) no_token decimal

abbrev pub polynomial : Operations
polynomial = operations_with [] poly_one poly_plus poly_times poly_number poly_token poly_text

abbrev pub witness : Operations
witness = operations_with [] ([] ∷ []) (witness_plus token_cmp) (witness_times token_cmp) witness_number witness_token sets_text

-- the operations of the semiring that `semiring_of` gives
abbrev pub operations_of : SemiringName → Operations
operations_of named.Count = count
operations_of named.Bool = truth
operations_of named.Cost = cost
operations_of named.Level = level
operations_of named.Poly = polynomial
operations_of named.Witness = witness

-- the refusal of a number that stands for no element
abbrev pub number_refusal : SemiringName → Option ℕ → Option Refusal
number_refusal name found = option_map (λ number. E28 number (name_text name)) found

module _ (semiring : Operations) (rules : List Rule × Option ℕ) where
  -- the value of a token by the rules
  abbrev pub value_of : Token → semiring.Element
  value_of = token_value semiring.one_of semiring.number_of semiring.itself_of rules

  abbrev pub evaluated : SemiringName → Result (List (List Cell × semiring.Element)) Refusal → Answered
  evaluated name rows = unless_refused (number_refusal name (first_outside semiring.number_of rules.0 rules.1)) (with_values semiring.text_of rows)
