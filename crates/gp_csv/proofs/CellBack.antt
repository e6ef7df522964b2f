-- A cell of an answer is read back from its field.
use Rattle.std.proofs.Common.{◌≡◌, ℕ, zero, suc, ℤ, pos, negsuc, ◌-◌, ◌^◌, ◌<◌, ◌≤◌, Bool, true, false, cond, ltb, eqb, List, [], ◌∷◌, Option, Some, None, option_and_then, refl, sym, ap, subst, ◌∙◌, arith}
use Rattle.std.specs.Option.{option_map}
use Rattle.std.specs.Fmt.{decimal}
use Rattle.std.specs.Str.{bytes_eq}
use Rattle.std.proofs.lemmas.Bool.{and_parts, leb-true, ne_eqb, eqb-true, lt-ltb, ltb-true}
use Rattle.std.proofs.lemmas.Fmt.{digits_decimal, digits_value-decimal, decimal_digit}
use Rattle.gp_base.specs.Cells.{fits_number, is_user_text}
use Rattle.gp_base.specs.declared.cell.Cell.TheVariants as cell
use Rattle.gp_base.specs.declared.table.Kind.{Kind}
use Rattle.gp_base.specs.declared.table.Kind.TheVariants as kind
use Rattle.gp_csv.specs.Answers.{escaped, field_of}
use Rattle.gp_csv.specs.Fields.{magnitude_of, positive_of, negative_of, null_field, unescaped, cell_of}
use Rattle.gp_base.proofs.DigitLemmas.{fold, in_range, own}
use Rattle.gp_base.proofs.SaturatingLemmas.{read-digits}
use Rattle.gp_base.specs.Digits.{are_digits, is_digit}

-- ---- texts

unescaped-by : (b : ℕ) (bytes : List ℕ) (t : Bool) → eqb b 92 ≡ t → unescaped (cond t (92 ∷ b ∷ bytes) (b ∷ bytes)) ≡ Some (b ∷ bytes)
unescaped-by b bytes true e = rw e refl
unescaped-by b bytes false e = rw e refl

unescaped-again : (text : List ℕ) → unescaped (escaped text) ≡ Some text
unescaped-again [] = refl
unescaped-again (b ∷ bytes) = unescaped-by b bytes (eqb b 92) refl

null-by : (b : ℕ) (bytes : List ℕ) (t : Bool) → eqb b 92 ≡ t → bytes_eq (cond t (92 ∷ b ∷ bytes) (b ∷ bytes)) null_field ≡ false
null-by b bytes true e = rw (eqb-true b 92 e) refl
null-by b bytes false e = rw e refl

not_null : (text : List ℕ) → bytes_eq (escaped text) null_field ≡ false
not_null [] = refl
not_null (b ∷ bytes) = null-by b bytes (eqb b 92) refl

pub text-back : (text : List ℕ) → is_user_text text ≡ true → cell_of kind.Text (field_of (cell.Text text)) ≡ Some (cell.Text text)
unfolding cell_of
text-back text good = rw (not_null text, unescaped-again text, good) refl

pub null-back : (column : Kind) → cell_of column (field_of cell.Null) ≡ Some cell.Null
unfolding cell_of
null-back column = refl

-- ---- numbers

abbrev IsFull : List ℕ → Type 0
IsFull [] = ⊥
IsFull (d ∷ ds) = Unit {0}

full-by : (ds : List ℕ) (n : ℕ) → fold 0 ds ≡ suc n → IsFull ds
full-by [] n e = absurd (omega (arith, e))
full-by (d ∷ ds) n e = tt

decimal-full : (n : ℕ) → n < 2 ^ 64 → IsFull (decimal n)
decimal-full zero small = subst IsFull (sym (decimal_digit 0 (omega arith))) tt
decimal-full (suc n) small = full-by (decimal (suc n)) n (digits_value-decimal own (suc n) small)

magnitude-by : (ds : List ℕ) (n : ℕ) → IsFull ds → are_digits ds ≡ true → fold 0 ds ≡ n → magnitude_of ds ≡ Some n
magnitude-by [] n full all value = absurd full
magnitude-by (d ∷ ds) n full all value = read-digits 0 (d ∷ ds) all ∙ ap (λ (k : ℕ). Some k) value

magnitude-again : (n : ℕ) → n < 2 ^ 64 → magnitude_of (decimal n) ≡ Some n
magnitude-again n small = magnitude-by (decimal n) n (decimal-full n small) (digits_decimal own n small) (digits_value-decimal own n small)

-- the numbers of 64 bits
positive-small : (n : ℕ) → fits_number (pos n) ≡ true → n < 2 ^ 63
positive-small n fits = ltb-true n (2 ^ 63) fits

negative-small : (n : ℕ) → fits_number (negsuc n) ≡ true → n < 2 ^ 63
negative-small n fits = let p : n ≤ 2 ^ 63 - 1 = leb-true n (2 ^ 63 - 1) (and_parts _ true fits).0 in omega (arith, p)

-- a digit is no sign and no backslash
positive-by : (ds : List ℕ) (m : Option ℕ) → IsFull ds → are_digits ds ≡ true → magnitude_of ds ≡ m → cell_of kind.Int ds ≡ option_map (λ (number : ℤ). cell.Int number) (option_and_then positive_of m)
unfolding cell_of
positive-by [] m full all e = absurd full
positive-by (d ∷ ds) m full all e =
    let r = in_range d (and_parts (is_digit d) (are_digits ds) all).0 in
    let slash : eqb d 92 ≡ false = ne_eqb d 92 (λ h. omega (arith, h, r.0, r.1)) in
    let minus : eqb d 45 ≡ false = ne_eqb d 45 (λ h. omega (arith, h, r.0, r.1)) in
    rw (slash, minus) (ap (λ (x : Option ℕ). option_map (λ (number : ℤ). cell.Int number) (option_and_then positive_of x)) e)

negative-by : (ds : List ℕ) (m : Option ℕ) → magnitude_of ds ≡ m → cell_of kind.Int (45 ∷ ds) ≡ option_map (λ (number : ℤ). cell.Int number) (option_and_then negative_of m)
unfolding cell_of
negative-by ds m e = ap (λ (x : Option ℕ). option_map (λ (number : ℤ). cell.Int number) (option_and_then negative_of x)) e

in-cell : (b : Bool) (z : ℤ) → b ≡ true → option_map (λ (number : ℤ). cell.Int number) (cond b (Some z) None) ≡ Some (cell.Int z)
in-cell b z e = rw e refl

pub number-back : (z : ℤ) → fits_number z ≡ true → cell_of kind.Int (field_of (cell.Int z)) ≡ Some (cell.Int z)
number-back (pos n) fits =
    let small : n < 2 ^ 63 = positive-small n fits in
    positive-by (decimal n) (Some n) (decimal-full n (omega (arith, small))) (digits_decimal own n (omega (arith, small))) (magnitude-again n (omega (arith, small))) ∙ in-cell (ltb n (2 ^ 63)) (pos n) (lt-ltb n (2 ^ 63) small)
number-back (negsuc n) fits =
    let small : n < 2 ^ 63 = negative-small n fits in
    negative-by (decimal (suc n)) (Some (suc n)) (magnitude-again (suc n) (omega (arith, small))) ∙ in-cell (ltb n (2 ^ 63)) (negsuc n) (lt-ltb n (2 ^ 63) small)
