-- The decimal text of a number is read as this number, and only this text is.
use Rattle.std.proofs.Common.{◌≡◌, ℕ, zero, suc, ◌+◌, ◌*◌, ◌-◌, ◌^◌, ◌<◌, ◌≤◌, Bool, true, false, cond, leb, eqb, not, List, [], ◌∷◌, get_or, Option, Some, None, option_and_then, refl, sym, ap, subst, ◌∙◌, arith, inl, inr}
use Rattle.std.specs.Prelude.{min}
use Rattle.std.specs.Option.{option_map}
use Rattle.std.specs.Fmt.{decimal}
use Rattle.std.proofs.lemmas.Bool.{cases_Bool, and_parts, and_from, leb-true, le-leb, cond-true, eqb-false, ne_eqb, not-true}
use Rattle.std.proofs.lemmas.Fmt.{digits_decimal, digits_value-decimal, decimal-digits_value, first_decimal, decimal_digit}
use Rattle.gp_dumpline.specs.Numbers.{number_of, number_up_to, beyond_versions, version_of}
use Rattle.std.proofs.lemmas.Option.{same_Some}
use Rattle.gp_dumpline.specs.Rows.{is_numeral}
use Rattle.gp_base.specs.Digits.{are_digits, is_digit, read_on}
use Rattle.gp_base.proofs.DigitLemmas.{fold, own}
use Rattle.gp_base.proofs.SaturatingLemmas.{read-digits}

abbrev nothing : Option ℕ
nothing = None

none_some : (m : ℕ) → nothing ≡ Some m → ⊥
none_some m e = cc

digits-read : (n : ℕ) (ds : List ℕ) (m : ℕ) → read_on n ds ≡ Some m → (are_digits ds ≡ true) × (fold n ds ≡ m)
digits-read n [] m e = (refl, cc)
digits-read n (d ∷ ds) m e = elim (cases_Bool (is_digit d)) [
  | inl digit ↦
      let f = rw digit at e in
      let more = digits-read (10 * n + (d - 48)) ds m f in
      (and_from (is_digit d) (are_digits ds) digit more.0, more.1)
  | inr other ↦ let f = rw other at e in absurd (none_some m f)
]

zero-text : decimal 0 ≡ 48 ∷ []
zero-text = decimal_digit 0 (omega arith)

positive : (n : ℕ) (ds : List ℕ) → are_digits ds ≡ true → fold 0 ds ≡ n → 48 < get_or ds 0 0 → number_of ds ≡ Some n
positive n [] all value high = absurd (omega (arith, high))
positive n (d ∷ []) all value high = read-digits 0 (d ∷ []) all ∙ ap (λ (k : ℕ). Some k) value
positive n (d ∷ e ∷ ds) all value high =
    let other : eqb d 48 ≡ false = ne_eqb d 48 (λ h. absurd (omega (arith, high, h))) in
    rw other (read-digits 0 (d ∷ e ∷ ds) all ∙ ap (λ (k : ℕ). Some k) value)

pub number-again : (n : ℕ) → n < 2 ^ 64 → number_of (decimal n) ≡ Some n
number-again zero small = ap number_of zero-text
number-again (suc n) small = positive (suc n) (decimal (suc n)) (digits_decimal own (suc n) small) (digits_value-decimal own (suc n) small) (first_decimal (suc n) (omega arith) small)

pub number-takes : (text : List ℕ) (n : ℕ) → number_of text ≡ Some n → n < 2 ^ 64 → text ≡ decimal n
number-takes [] n e small = absurd cc
number-takes (d ∷ []) n e small =
    let r = digits-read 0 (d ∷ []) n e in
    sym (decimal-digits_value own (d ∷ []) r.0 (omega arith) (λ h. refl) (subst (λ (k : ℕ). k < 2 ^ 64) (sym r.1) small)) ∙ ap decimal r.1
number-takes (d ∷ c ∷ ds) n e small = elim (cases_Bool (eqb d 48)) [
  | inl lead ↦ let f = rw lead at e in absurd (none_some n f)
  | inr other ↦
      let f = rw other at e in
      let r = digits-read 0 (d ∷ c ∷ ds) n f in
      sym (decimal-digits_value own (d ∷ c ∷ ds) r.0 (omega arith) (λ h. absurd (eqb-false d 48 other h)) (subst (λ (k : ℕ). k < 2 ^ 64) (sym r.1) small)) ∙ ap decimal r.1
]

pub digits_own : (n : ℕ) → n < 2 ^ 64 → are_digits (decimal n) ≡ true
digits_own n small = digits_decimal own n small

-- ---- numbers of any length

pub numeral-digits : (text : List ℕ) → is_numeral text ≡ true → are_digits text ≡ true
numeral-digits [] e = refl
numeral-digits (d ∷ []) e = and_from (is_digit d) true e refl
numeral-digits (d ∷ c ∷ ds) e = (and_parts (are_digits (d ∷ c ∷ ds)) (not (eqb d 48)) e).0

pub numeral-read : (text : List ℕ) → is_numeral text ≡ true → (n : ℕ) × (number_of text ≡ Some n)
numeral-read [] e = absurd cc
numeral-read (d ∷ []) e = (fold 0 (d ∷ []), read-digits 0 (d ∷ []) (numeral-digits (d ∷ []) e))
numeral-read (d ∷ c ∷ ds) e =
    let other : eqb d 48 ≡ false = not-true (eqb d 48) (and_parts (are_digits (d ∷ c ∷ ds)) (not (eqb d 48)) e).1 in
    (fold 0 (d ∷ c ∷ ds), rw other (read-digits 0 (d ∷ c ∷ ds) (numeral-digits (d ∷ c ∷ ds) e)))

pub read-numeral : (text : List ℕ) (n : ℕ) → number_of text ≡ Some n → is_numeral text ≡ true
read-numeral [] n e = absurd (none_some n e)
read-numeral (d ∷ []) n e = (and_parts (is_digit d) true (digits-read 0 (d ∷ []) n e).0).0
read-numeral (d ∷ c ∷ ds) n e = elim (cases_Bool (eqb d 48)) [
  | inl lead ↦ let f = rw lead at e in absurd (none_some n f)
  | inr other ↦ let f = rw other at e in and_from (are_digits (d ∷ c ∷ ds)) (not (eqb d 48)) (digits-read 0 (d ∷ c ∷ ds) n f).0 (ap not other)
]

-- ---- numbers up to a greatest one

pub up_to-again : (most n : ℕ) → n ≤ most → n < 2 ^ 64 → number_up_to most (decimal n) ≡ Some n
up_to-again most n few small = ap (option_and_then (λ k. cond (leb k most) (Some k) None)) (number-again n small) ∙ cond-true (leb n most) (Some n) None (le-leb n most few)

kept : (b : Bool) (m n : ℕ) → cond b (Some m) None ≡ Some n → (b ≡ true) × (m ≡ n)
kept true m n e = (refl, cc)
kept false m n e = absurd cc

pub up_to-takes : (most : ℕ) (text : List ℕ) (n : ℕ) → most < 2 ^ 64 → number_up_to most text ≡ Some n → (text ≡ decimal n) × (n ≤ most)
up_to-takes most text n small e = go (number_of text) refl e
  where
    go : (o : Option ℕ) → number_of text ≡ o → option_and_then (λ k. cond (leb k most) (Some k) None) o ≡ Some n → (text ≡ decimal n) × (n ≤ most)
    go None f g = absurd (none_some n g)
    go (Some m) f g =
        let k = kept (leb m most) m n g in
        let few : m ≤ most = leb-true m most k.0 in
        (number-takes text m f (omega (arith, few, small)) ∙ ap decimal k.1, subst (λ (x : ℕ). x ≤ most) k.1 few)

-- ---- versions

pub version-again : (n : ℕ) → n < 2 ^ 32 → version_of (decimal n) ≡ Some n
version-again n small =
    let e : min n beyond_versions ≡ n = omega arith in
    ap (option_map (λ (k : ℕ). min k beyond_versions)) (number-again n (omega arith)) ∙ ap (λ (k : ℕ). Some k) e

-- a version of any length
pub numeral-version : (text : List ℕ) → is_numeral text ≡ true → (n : ℕ) × (version_of text ≡ Some n)
numeral-version text is = let n = numeral-read text is in (min n.0 beyond_versions, ap (option_map (λ (k : ℕ). min k beyond_versions)) n.1)

pub version-numeral : (text : List ℕ) (n : ℕ) → version_of text ≡ Some n → is_numeral text ≡ true
version-numeral text n e = go (number_of text) refl e
  where
    go : (o : Option ℕ) → number_of text ≡ o → option_map (λ (k : ℕ). min k beyond_versions) o ≡ Some n → is_numeral text ≡ true
    go None f g = absurd (none_some n g)
    go (Some m) f g = read-numeral text m f

pub version-takes : (text : List ℕ) (n : ℕ) → version_of text ≡ Some n → n < beyond_versions → text ≡ decimal n
version-takes text n e small = go (number_of text) refl e
  where
    go : (o : Option ℕ) → number_of text ≡ o → option_map (λ (k : ℕ). min k beyond_versions) o ≡ Some n → text ≡ decimal n
    go None f g = absurd (none_some n g)
    go (Some m) f g =
        let e : min m beyond_versions ≡ n = same_Some (min m beyond_versions) n g in
        let same : m ≡ n = omega arith in
        number-takes text m f (omega arith) ∙ ap decimal same
