-- Part of the statement: the values of rows in a semiring. A question names the semiring and gives rules, which say which number each token has
-- (Green, Karvounarakis and Tannen 2007).
use Rattle.std.specs.Prelude.{ℕ, min, max, ◌||◌, ◌&&◌, Bool, true, false, List, [], ◌∷◌, map, codes, Option, Result, Ok, Err}
use Rattle.std.specs.Fmt.{decimal}
use Rattle.std.specs.Option.{option_map, option_map_or}
use Rattle.gp_base.specs.declared.cell.Cell.{Cell}
use Rattle.gp_base.specs.declared.refusal.Refusal.{Refusal}
use Rattle.gp_base.specs.declared.refusal.Refusal.TheVariants.{E28}
use Rattle.gp_base.specs.declared.token.Token.{Token}
use Rattle.gp_base.specs.Tokens.{greatest_count, token_cmp}
use Rattle.gp_grammar.specs.declared.semiring_name.SemiringName.{SemiringName}
use Rattle.gp_grammar.specs.declared.semiring_name.SemiringName.TheVariants as named
use Rattle.gp_grammar.specs.declared.token_kind.TokenKind as written
use Rattle.gp_grammar.specs.declared.token_kind.TokenKind.TheVariants as w
use Rattle.gp_grammar.specs.Syntax as y
use Rattle.gp_semiring.specs.Elements.{cost_text, no_token, nobody, number_up_to, truth_of, truth_text}
use Rattle.gp_semiring.specs.Polynomials.{poly_number, poly_one, poly_plus, poly_text, poly_times, poly_token}
use Rattle.gp_semiring.specs.Sums.{plus_up_to, times_up_to}
use Rattle.gp_semiring.specs.Witnesses.{sets_text, witness_number, witness_plus, witness_times, witness_token}
use Rattle.gp_semiring.specs.declared.rules.Rule.{Rule}
use Rattle.gp_semiring.specs.declared.token_kind.TokenKind.{TokenKind}
use Rattle.gp_semiring.specs.declared.token_kind.TokenKind.TheVariants.{I, Q, U}
use Rattle.gp_semiring.specs.Rules.{first_outside}
use Rattle.gp_ask.specs.declared.answered.Answered.{Answered}
use Rattle.gp_ask.specs.declared.answered.Answered.TheVariants.{Values, Refused}
use Rattle.gp_ask.specs.declared.answered.Valued.{Valued}

-- ---- semirings

-- a semiring: its zero and its one, its sum and its product, the elements that numbers and tokens stand for, and the texts of its elements
pub data Semiring : Type 1 where
  semiring_with : {K : Type 0} → (zero one : K) → (plus times : K → K → K) → (number : ℕ → Option K) → (itself : Token → Option K) → (text : K → List ℕ) → Semiring

abbrev pub semiring_of : SemiringName → Semiring
-- how many ways there are
semiring_of named.Count = semiring_with 0 1 (plus_up_to greatest_count) (times_up_to greatest_count) (number_up_to greatest_count) no_token decimal
-- whether there is a way
semiring_of named.Bool = semiring_with false true ◌||◌ ◌&&◌ truth_of no_token truth_text
-- what the cheapest way costs
semiring_of named.Cost = semiring_with greatest_count 0 min (plus_up_to greatest_count) (number_up_to greatest_count) no_token cost_text
-- the least level that sees all parts of a way
semiring_of named.Level = semiring_with nobody 0 min max (number_up_to nobody) no_token decimal
-- all ways, as a polynomial over the tokens
semiring_of named.Poly = semiring_with [] poly_one poly_plus poly_times poly_number poly_token poly_text
-- the minimal witnesses: the sets of tokens that are enough for a way, and of which no part is
semiring_of named.Witness = semiring_with [] ([] ∷ []) (witness_plus token_cmp) (witness_times token_cmp) witness_number witness_token sets_text

abbrev pub name_text : SemiringName → List ℕ
name_text named.Count = codes "COUNT"
name_text named.Bool = codes "BOOL"
name_text named.Cost = codes "COST"
name_text named.Level = codes "LEVEL"
name_text named.Poly = codes "POLY"
name_text named.Witness = codes "WITNESS"

-- ---- rules

abbrev pub kind_of : written.TokenKind → TokenKind
kind_of w.I = I
kind_of w.Q = Q
kind_of w.U = U

abbrev pub rule_of : y.Rule → Rule
rule_of rule = record { kind = kind_of rule.kind; t = rule.t; k = rule.k; n = rule.n; value = rule.value }

-- ---- answers

abbrev pub valued : {K : Type 0} → (K → List ℕ) → List Cell × K → Valued
valued text_of row = record { row = row.0; text = text_of row.1 }

-- what answers by a result, or its refusal
abbrev pub or_refused : {A : Type 0} → (A → Answered) → Result A Refusal → Answered
or_refused answer (Ok found) = answer found
or_refused answer (Err refusal) = Refused refusal

-- the distinct rows with the texts of their values
abbrev pub with_values : {K : Type 0} → (K → List ℕ) → Result (List (List Cell × K)) Refusal → Answered
with_values text_of found = or_refused (λ rows. Values (map (valued text_of) rows)) found

-- an answer, unless something refuses it
abbrev pub unless_refused : Option Refusal → Answered → Answered
unless_refused refusal answered = option_map_or Refused refusal answered

-- the first number of rules that stands for no element is refused, whatever the rows are
abbrev pub outside_in : Semiring → List Rule → Option ℕ → Option ℕ
outside_in (semiring_with zero one plus times number itself text) rules other = first_outside number rules other

abbrev pub outside_refusal : SemiringName → List Rule → Option ℕ → Option Refusal
outside_refusal name rules other = option_map (λ number. E28 number (name_text name)) (outside_in (semiring_of name) rules other)
