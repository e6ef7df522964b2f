-- Numbers in names.
use Rattle.std.proofs.Common.{◌≡◌, ℕ, ◌-◌, ◌^◌, ◌<◌, ◌≤◌, Bool, true, false, cond, List, [], ◌∷◌, min, Some, None, refl, ap, arith, nat_le, nat_lt}
use Rattle.gp_syntax.specs.Names.{number_up_to}
use Rattle.std.proofs.lemmas.Bool.Decides.{nat_tests}
use Rattle.std.specs.Str.{all_ascii_digits}
use Rattle.std.specs.Char.{digit_value, is_ascii_digit}
use Rattle.std.specs.Str.Parse.{AllDigits, digits_value}
use Rattle.gp_grammar.specs.CommandGrammar.{is_number_without_zero}
use Rattle.gp_base.proofs.SmallLemmas.{left_true, right_true}

is-digit : (b : ℕ) → is_ascii_digit b ≡ true → digit_value b < 10
is-digit b h = grind (arith, nat_tests)

pub all-digits : (ds : List ℕ) → all_ascii_digits ds ≡ true → AllDigits 10 ds
all-digits [] h = tt
all-digits (d ∷ ds) h = (is-digit d (left_true (is_ascii_digit d) (all_ascii_digits ds) h), all-digits ds (right_true (is_ascii_digit d) (all_ascii_digits ds) h))

-- digits without leading zero are digits
pub number-digits : (ds : List ℕ) → is_number_without_zero ds ≡ true → AllDigits 10 ds
number-digits [] h = tt
number-digits (d ∷ ds) h = all-digits (d ∷ ds) (left_true (all_ascii_digits (d ∷ ds)) (nat_lt 48 d) h)

pub number-none : (ds : List ℕ) (most : ℕ) → is_number_without_zero ds ≡ false → number_up_to ds most ≡ None
number-none ds most h = rw h refl

number-by : (v m most : ℕ) (test : Bool) → nat_le v most ≡ test → m ≡ min v (2 ^ 64 - 1) → most < 2 ^ 32 → most < m → cond test (Some v) None ≡ None
number-by v m most true e a b c = absurd (grind (arith, nat_tests))
number-by v m most false e a b c = refl

pub number-large : (ds : List ℕ) (m most : ℕ) → is_number_without_zero ds ≡ true → m ≡ min (digits_value 10 ds) (2 ^ 64 - 1) → most < 2 ^ 32 → most < m → number_up_to ds most ≡ None
number-large ds m most h a b c = rw h (number-by (digits_value 10 ds) m most (nat_le (digits_value 10 ds) most) refl a b c)

number-in : (v m most : ℕ) (test : Bool) → nat_le v most ≡ test → m ≡ min v (2 ^ 64 - 1) → most < 2 ^ 32 → m ≤ most → cond test (Some v) None ≡ Some m
number-in v m most true e a b c = ap Some (omega arith)
number-in v m most false e a b c = absurd (grind (arith, nat_tests))

pub number-some : (ds : List ℕ) (m most : ℕ) → is_number_without_zero ds ≡ true → m ≡ min (digits_value 10 ds) (2 ^ 64 - 1) → most < 2 ^ 32 → m ≤ most → number_up_to ds most ≡ Some m
number-some ds m most h a b c = rw h (number-in (digits_value 10 ds) m most (nat_le (digits_value 10 ds) most) refl a b c)

pub ruleset digits = (number-digits, number-none, number-large, number-some)
