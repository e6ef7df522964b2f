-- Lemmas of numbers as loops read their digits.
use Rattle.std.proofs.Common.{◌≡◌, ℕ, ◌+◌, ◌*◌, ◌-◌, ◌^◌, ◌<◌, ◌≤◌, min, true, false, ltb, List, [], ◌∷◌, length, drop, get_or, Option, Some, None, option_and_then, refl, sym, ap, ◌∙◌, arith, inl, inr}
use Rattle.std.proofs.lemmas.Bool.{and_parts, cases_Bool, ltb-false, ltb-true}
use Rattle.std.proofs.lemmas.List.{drop_more}
use Rattle.gp_base.specs.Digits.{are_digits, is_digit, read_on}
use Rattle.gp_base.specs.Saturating.{greatest, saturated, saturating_on}
use Rattle.gp_base.proofs.DigitLemmas.{fold}

pub read-digits : (n : ℕ) (ds : List ℕ) → are_digits ds ≡ true → read_on n ds ≡ Some (fold n ds)
read-digits n [] all = refl
read-digits n (d ∷ ds) all = let p = and_parts (is_digit d) (are_digits ds) all in rw p.0 (read-digits (10 * n + (d - 48)) ds p.1)

-- ---- a loop over the digits

min-step : (n m d most : ℕ) → min n most ≡ min m most → min (10 * n + d) most ≡ min (10 * m + d) most
min-step n m d most h = omega arith

saturating-same : (n m : ℕ) (bytes : List ℕ) → min n greatest ≡ min m greatest → saturating_on n bytes ≡ saturating_on m bytes
saturating-same n m [] h = ap (λ (k : ℕ). Some k) h
saturating-same n m (b ∷ bytes) h = elim (cases_Bool (is_digit b)) [
  | inl d ↦ rw d (saturating-same (10 * n + (b - 48)) (10 * m + (b - 48)) bytes (min-step n m (b - 48) greatest h))
  | inr o ↦ rw o refl
]

saturating-digit : (n b : ℕ) (bytes : List ℕ) → is_digit b ≡ true → saturating_on n (b ∷ bytes) ≡ saturating_on (10 * n + (b - 48)) bytes
saturating-digit n b bytes d = rw d refl

saturating-other : (n b : ℕ) (bytes : List ℕ) → is_digit b ≡ false → saturating_on n (b ∷ bytes) ≡ None
saturating-other n b bytes d = rw d refl

saturating-more : (n n' b : ℕ) (bytes : List ℕ) → is_digit b ≡ true → min n' greatest ≡ min (10 * n + (b - 48)) greatest → saturating_on n' bytes ≡ saturating_on n (b ∷ bytes)
saturating-more n n' b bytes d h = saturating-same n' (10 * n + (b - 48)) bytes h ∙ sym (saturating-digit n b bytes d)

pub saturating-end : (n : ℕ) → n < 2 ^ 64 → saturating_on n [] ≡ Some n
saturating-end n small = let e : min n greatest ≡ n = omega arith in ap (λ (k : ℕ). Some k) e

-- one digit more, where the number so far stays at the greatest
pub saturating-step : (n n' i : ℕ) (text : List ℕ) → i < length text → is_digit (get_or text i 0) ≡ true → min n' greatest ≡ min (10 * n + (get_or text i 0 - 48)) greatest → saturating_on n' (drop (i + 1) text) ≡ saturating_on n (drop i text)
saturating-step n n' i text within digit h = saturating-more n n' (get_or text i 0) (drop (i + 1) text) digit h ∙ ap (saturating_on n) (sym (drop_more text i 0 within))

pub saturating-stop : (n i : ℕ) (text : List ℕ) → i < length text → is_digit (get_or text i 0) ≡ false → saturating_on n (drop i text) ≡ None
saturating-stop n i text within other = ap (saturating_on n) (drop_more text i 0 within) ∙ saturating-other n (get_or text i 0) (drop (i + 1) text) other

-- ---- numbers with sign

-- what no number above 2^63 is, the greatest of 64 bits is not either
pub capped : {X : Type 0} (f : ℕ → Option X) → ((n : ℕ) → 2 ^ 63 < n → f n ≡ None) → (number : Option ℕ) → option_and_then f (saturated number) ≡ option_and_then f number
capped f none None = refl
capped f none (Some n) = elim (cases_Bool (ltb n greatest)) [
  | inl few ↦
      let small : n < greatest = ltb-true n greatest few in
      let same : min n greatest ≡ n = omega (arith, small) in
      ap f same
  | inr many ↦
      let large : greatest ≤ n = ltb-false n greatest many in
      none (min n greatest) (omega (arith, large)) ∙ sym (none n (omega (arith, large)))
]
