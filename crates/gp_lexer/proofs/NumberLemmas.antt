-- The values of digits.
use Rattle.std.proofs.Common.{◌≡◌, ℕ, ◌+◌, ◌-◌, ◌*◌, ◌<◌, ◌≤◌, Bool, true, false, cond, List, [], ◌∷◌, length, take, get_or, min, refl, sym, subst, arith}
use Rattle.std.proofs.lemmas.Bool.Decides.{nat_tests}
use Rattle.std.proofs.lemmas.Int.Digits.{digits_value_more}
use Rattle.std.proofs.lemmas.Str.{digit_value_digit}
use Rattle.std.proofs.lemmas.Str.Parse.{digit_at}
use Rattle.std.specs.Char.{digit_value, is_ascii_digit}
use Rattle.std.specs.List.{take_while}
use Rattle.std.proofs.lemmas.List.Sums.{take_while-cons}
use Rattle.std.specs.Str.Parse.{AllDigits, digits_value}

pub digit-bound : (ds : List ℕ) (i : ℕ) → AllDigits 10 ds → i < length ds → 48 ≤ get_or ds i 0
digit-bound ds i all h = omega (arith, digit_at ds i all h)

-- one more digit, where values stop at m
pub value_of-more : (ds : List ℕ) (i v w m : ℕ) → AllDigits 10 ds → i < length ds → v ≡ min (digits_value 10 (take i ds)) m
    → w ≡ min (min (v * 10) m + (get_or ds i 0 - 48)) m → w ≡ min (digits_value 10 (take (i + 1) ds)) m
value_of-more ds i v w m all h is step =
    let range = digit_at ds i all h in
    let digit : digit_value (get_or ds i 0) + 48 ≡ get_or ds i 0 = digit_value_digit (get_or ds i 0) range in
    let more : digits_value 10 (take (i + 1) ds) ≡ digits_value 10 (take i ds) * 10 + digit_value (get_or ds i 0) = digits_value_more 10 ds i h in
    omega arith

is-digit : (b : ℕ) → is_ascii_digit b ≡ true → digit_value b < 10
is-digit b h = grind (arith, nat_tests)

pub all-digits : (bytes : List ℕ) → AllDigits 10 (take_while is_ascii_digit bytes)
all-digits [] = tt
all-digits (b ∷ bytes) = subst (AllDigits 10) (sym (take_while-cons is_ascii_digit b bytes)) (by (is_ascii_digit b) refl (all-digits bytes))
  where
    by : (test : Bool) → is_ascii_digit b ≡ test → AllDigits 10 (take_while is_ascii_digit bytes) → AllDigits 10 (cond test (b ∷ take_while is_ascii_digit bytes) [])
    by true h others = (is-digit b h, others)
    by false h others = tt
