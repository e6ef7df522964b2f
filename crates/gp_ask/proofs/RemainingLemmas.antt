-- The rows that are counted, listed as often, are the rows that remain.
use Rattle.std.proofs.Common.{◌≡◌, ◌≤◌, ◌<◌, ℕ, Bool, true, false, cond, nat_lt, List, [], ◌∷◌, length, map, min, Option, Some, None, Result, Ok, Err, refl, sym, ap, ◌∙◌, arith}
use Rattle.std.specs.Prelude.{◌||◌}
use Rattle.std.proofs.lemmas.List.{length-map}
use Rattle.gp_base.specs.declared.cell.Cell.{Cell}
use Rattle.gp_base.specs.declared.refusal.Refusal.{Refusal}
use Rattle.gp_base.specs.declared.refusal.Refusal.TheVariants.{E27}
use Rattle.gp_base.specs.declared.token.Token.{Token}
use Rattle.gp_base.specs.declared.token.Token.TheVariants.{Inserted, Queried, Updated}
use Rattle.gp_base.specs.Annotated.{Database, monomials}
use Rattle.gp_base.specs.Order.{row_cmp, sorted_by}
use Rattle.gp_base.specs.RowOrder.{exact_rows, row_cmp_total}
use Rattle.gp_base.specs.Tokens.{Monomial, greatest_count}
use Rattle.gp_algebra.specs.Answers.{Element, answer, cells_of, pairs_of}
use Rattle.gp_algebra.specs.Statements.{Select}
use Rattle.gp_grammar.specs.Syntax as y
use Rattle.gp_history.specs.Values.{Gives}
use Rattle.gp_log.specs.Parameters.{parameters}
use Rattle.gp_machine.specs.Questions.{given}
use Rattle.gp_base.specs.declared.stop.Stop.TheVariants as stop
use Rattle.gp_semiring.specs.Elements.{no_token, number_up_to}
use Rattle.gp_semiring.specs.NumberLaws.{count_laws}
use Rattle.gp_semiring.specs.Sums.{plus_up_to, summed, times_up_to}
use Rattle.gp_semiring.specs.SumForms.{Each}
use Rattle.gp_semiring.specs.declared.rules.Rule.{Rule}
use Rattle.gp_semiring.specs.Rules.{fits_rule}
use Rattle.gp_semiring.specs.Values.{monomial_value, token_value}
use Rattle.gp_history.specs.DistinctRows.{distinct_rows}
use Rattle.gp_history.specs.ValueAnswers.{limited, row_values}
use Rattle.gp_history.proofs.ValueLemmas.{values_summed}
use Rattle.gp_kexec.specs.Counting.{counted_by, counted_pairs}
use Rattle.gp_kexec.specs.Deletion.{has_token}
use Rattle.gp_kexec.specs.Remaining.{number_of, repeated}
use Rattle.gp_kexec.proofs.CountLemmas.{answer_kept, counted_up_to, listed_again, monomial_counted, token_counted}
use Rattle.gp_ask.specs.declared.answered.Answered.{Answered}
use Rattle.gp_ask.specs.declared.answered.Answered.TheVariants.{Refused, Rows}
use Rattle.gp_ask.specs.Asking.{of_elements}
use Rattle.gp_ask.specs.AskingForms.{pattern_of}
use Rattle.gp_ask.specs.Counted.{counted_answer}
use Rattle.gp_ask.specs.Remaining.{is_left_out, remaining, remaining_answer}
use Rattle.gp_ask.specs.Values.{rule_of}
use Rattle.gp_ask.proofs.CountedLemmas.{EachCounts}
use Rattle.std.proofs.lemmas.Bool.{ltb-false, ltb-true}

-- ---- tests

-- numbers that are the same up to a bound are above the same number below it
tests_agree : (most bound a b : ℕ) → most < bound → min a bound ≡ min b bound → (x y : Bool) → nat_lt most a ≡ x → nat_lt most b ≡ y → x ≡ y
tests_agree most bound a b below same true true e f = refl
tests_agree most bound a b below same false false e f = refl
tests_agree most bound a b below same true false e f = absurd (let more = ltb-true most a e in let less = ltb-false most b f in omega (arith, below, same, more, less))
tests_agree most bound a b below same false true e f = absurd (let more = ltb-true most b f in let less = ltb-false most a e in omega (arith, below, same, more, less))

-- ---- rules

patterns_are : (patterns : List y.Rule) → Each (λ (rule : Rule). rule.value ≡ 0) (map pattern_of patterns)
patterns_are [] = tt
patterns_are (pattern ∷ patterns) = (refl, patterns_are patterns)

-- the number of a pattern says nothing about the tokens that it fits
fits_same : (pattern : y.Rule) (token : Token) → fits_rule (pattern_of pattern) token ≡ fits_rule (rule_of pattern) token
fits_same pattern (Inserted t k n) = refl
fits_same pattern (Queried t k) = refl
fits_same pattern (Updated t k) = refl

left_out_same : (patterns : List y.Rule) (token : Token) → is_left_out (map pattern_of patterns) token ≡ is_left_out (map rule_of patterns) token
left_out_same [] token = refl
left_out_same (pattern ∷ patterns) token = λ i. fits_same pattern token i || left_out_same patterns token i

-- what a pattern fits counts 0, all else 1
pub by_patterns : (patterns : List y.Rule) → token_value 1 (number_up_to greatest_count) no_token (map pattern_of patterns, Some 1) ≡ counted_by (is_left_out (map rule_of patterns))
by_patterns patterns =
    (λ i token. token_counted (map pattern_of patterns) (patterns_are patterns) token i)
    ∙ ap counted_by (λ i token. left_out_same patterns token i)

-- ---- rows

module _ (matches : Token → Bool) (select : Select) (db : Database Monomial) (counts : EachCounts (answer monomials select db)) where
  abbrev has : Monomial → Bool
  has = has_token matches

  abbrev all : List (Element Monomial)
  all = answer monomials select db

  abbrev sums : List (List Cell × ℕ)
  sums = summed row_cmp (plus_up_to greatest_count) (counted_pairs has (pairs_of all))

  abbrev values : List (Element Monomial) → List (List Cell × ℕ)
  values elements = row_values (plus_up_to greatest_count) 0 1 (times_up_to greatest_count) (counted_by matches) elements

  pairs_counted : (elements : List (Element Monomial)) → EachCounts elements
      → map (λ (pair : List Cell × Monomial). (pair.0, monomial_value 1 (times_up_to greatest_count) (counted_by matches) pair.1)) (pairs_of elements) ≡ counted_pairs has (pairs_of elements)
  pairs_counted [] are = refl
  pairs_counted (element ∷ elements) are = λ i. (element.cells, monomial_counted matches element.annotation are.0 i) ∷ pairs_counted elements are.1 i

  bits : (token : Token) → counted_by matches token ≤ greatest_count
  bits token = bit (matches token)
    where
      bit : (b : Bool) → cond b 0 1 ≤ greatest_count
      bit true = omega arith
      bit false = omega arith

  values_are : values all ≡ sums
  values_are = sym (values_summed count_laws (counted_by matches) bits all) ∙ ap (summed row_cmp (plus_up_to greatest_count)) (pairs_counted all counts)

  -- as many distinct rows
  as_many : length (values all) ≡ length (distinct_rows (cells_of all))
  as_many = length-map (distinct_rows (cells_of all)) _

  same_number : min (number_of sums) greatest_count ≡ min (length (remaining has select db)) greatest_count
  same_number =
      counted_up_to row_cmp row_cmp_total exact_rows greatest_count has (pairs_of all) ∙ ap (λ (rows : List (List Cell)). min (length rows) greatest_count) (answer_kept matches select db)
      ∙ ap (λ n. min n greatest_count) (length-map (remaining has select db) (λ (element : Element Monomial). element.cells))

  small : parameters.answer < greatest_count
  small = omega arith

  listed : number_of sums ≤ parameters.answer → repeated sums ≡ sorted_by row_cmp (cells_of (remaining has select db))
  listed few = listed_again row_cmp row_cmp_total exact_rows greatest_count has (pairs_of all) (let below = small in omega (arith, few, below)) ∙ ap (sorted_by row_cmp) (answer_kept matches select db)

  -- the answer, by whether there are too many distinct rows, and too many rows that remain
  abbrev answered : Bool → Bool → Answered
  answered distinct rest = of_elements (given (cond (distinct || rest) (Some E27) None) (remaining has select db))

  rest_is : (many : Bool) → nat_lt parameters.answer (number_of sums) ≡ many → nat_lt parameters.answer (length (remaining has select db)) ≡ many
  rest_is many e = by (nat_lt parameters.answer (length (remaining has select db))) refl
    where
      by : (other : Bool) → nat_lt parameters.answer (length (remaining has select db)) ≡ other → nat_lt parameters.answer (length (remaining has select db)) ≡ many
      by other f = f ∙ sym (tests_agree parameters.answer greatest_count (number_of sums) (length (remaining has select db)) small same_number many other e f)

  sums_answered : (many : Bool) → nat_lt parameters.answer (number_of sums) ≡ many → counted_answer sums ≡ answered false many
  sums_answered true e = ap (λ b. cond b (Refused E27) (Rows (repeated sums))) e
  sums_answered false e = ap (λ b. cond b (Refused E27) (Rows (repeated sums))) e ∙ ap Rows (listed (ltb-false parameters.answer (number_of sums) e))

  counted_rest : nat_lt parameters.answer (length (distinct_rows (cells_of all))) ≡ false → counted_answer sums ≡ of_elements (remaining_answer has select db None)
  counted_rest few =
      sums_answered (nat_lt parameters.answer (number_of sums)) refl
      ∙ sym (λ i. answered (few i) (rest_is (nat_lt parameters.answer (number_of sums)) refl i))

  abbrev pub expected : Option Refusal → Result (List (List Cell × ℕ)) Refusal
  expected refusal = limited parameters.answer values (given refusal all)

  pub found_is : {X : Type 0} (view : X → List (List Cell × ℕ)) (found : X) (refusal : Option Refusal) → Gives view (Ok found) (expected refusal) → counted_answer (view found) ≡ of_elements (remaining_answer has select db refusal)
  found_is view found (Some refusal) gives = absurd gives
  found_is view found None gives = by (nat_lt parameters.answer (length (values all))) refl gives
    where
      by : (many : Bool) → nat_lt parameters.answer (length (values all)) ≡ many → Gives view (Ok found) (given (cond many (Some E27) None) (values all)) → counted_answer (view found) ≡ of_elements (remaining_answer has select db None)
      by true e none = absurd none
      by false e same = ap counted_answer (same ∙ values_are) ∙ counted_rest (ap (nat_lt parameters.answer) (sym as_many) ∙ e)

  pub refused_is : {X : Type 0} (view : X → List (List Cell × ℕ)) (own : Refusal) (refusal : Option Refusal) → Gives view (Err (stop.Refused own)) (expected refusal) → Refused own ≡ of_elements (remaining_answer has select db refusal)
  refused_is view own (Some refusal) same = ap Refused same
  refused_is view own None gives = by (nat_lt parameters.answer (length (values all))) refl gives
    where
      by : (many : Bool) → nat_lt parameters.answer (length (values all)) ≡ many → Gives view (Err (stop.Refused own)) (given (cond many (Some E27) None) (values all)) → Refused own ≡ of_elements (remaining_answer has select db None)
      by false e none = absurd none
      by true e same = ap Refused same ∙ sym (ap (λ b. answered b (nat_lt parameters.answer (length (remaining has select db)))) (ap (nat_lt parameters.answer) (sym as_many) ∙ e))
