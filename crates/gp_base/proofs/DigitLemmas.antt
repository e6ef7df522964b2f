-- The digits of a numeral, folded to its number from the left.
use Rattle.std.proofs.Common.{◌≡◌, ℕ, ◌+◌, ◌*◌, ◌-◌, true, leb, List, [], ◌∷◌, refl, ap, arith}
use Rattle.std.specs.Int.{IsInRange}
use Rattle.std.proofs.lemmas.Bool.{and_from, and_parts, le-leb, leb-true}
use Rattle.std.proofs.lemmas.Str.Parse.{FoldsDigits, IsDigitsTest, IsNumeralModel, numerals_by_fold}
use Rattle.gp_base.specs.Digits.{are_digits, is_digit}

pub in_range : (c : ℕ) → is_digit c ≡ true → IsInRange 48 57 c
in_range c h = let p = and_parts (leb 48 c) (leb c 57) h in (leb-true 48 c p.0, leb-true c 57 p.1)

pub range_in : (c : ℕ) → IsInRange 48 57 c → is_digit c ≡ true
range_in c h = and_from (leb 48 c) (leb c 57) (le-leb 48 c h.0) (le-leb c 57 h.1)

digits_test : IsDigitsTest (λ ds. are_digits ds ≡ true)
digits_test = record {
  empty = refl;
  parts = λ c cs h. let p = and_parts (is_digit c) (are_digits cs) h in (in_range c p.0, p.1);
  more = λ c cs h k. and_from (is_digit c) (are_digits cs) (range_in c h) k;
}

-- ---- ten times the number so far

abbrev pub fold : ℕ → List ℕ → ℕ
fold n [] = n
fold n (c ∷ cs) = fold (10 * n + (c - 48)) cs

folds : FoldsDigits fold
folds = record { empty = λ n. refl; more = λ n c cs h. ap (λ (k : ℕ). fold k cs) (omega arith) }

pub own : IsNumeralModel (λ ds. are_digits ds ≡ true) (fold 0)
own = numerals_by_fold (λ ds. are_digits ds ≡ true) digits_test fold folds

-- ---- the number so far, ten times

abbrev pub fold_on : ℕ → List ℕ → ℕ
fold_on n [] = n
fold_on n (c ∷ cs) = fold_on (n * 10 + (c - 48)) cs

folds_on : FoldsDigits fold_on
folds_on = record { empty = λ n. refl; more = λ n c cs h. refl }

pub own_on : IsNumeralModel (λ ds. are_digits ds ≡ true) (fold_on 0)
own_on = numerals_by_fold (λ ds. are_digits ds ≡ true) digits_test fold_on folds_on
