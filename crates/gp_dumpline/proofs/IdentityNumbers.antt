-- The numbers of an identity are read again in front of a text, and what is read is their text.
use Rattle.std.proofs.Common.{◌≡◌, ℕ, ◌+◌, ◌*◌, ◌-◌, ◌^◌, ◌<◌, ◌≤◌, Bool, true, false, cond, leb, ◌&&◌, List, [], ◌∷◌, ◌++◌, length, get_or, Option, Some, None, refl, sym, ap, subst, ◌∙◌, arith, inl, inr}
use Rattle.std.specs.Fmt.{decimal}
use Rattle.std.proofs.lemmas.Bool.{cases_Bool, and_parts, and_from, leb-true, le-leb, cond-true, false≢true}
use Rattle.std.proofs.lemmas.Fmt.{digits_decimal, digits_value-decimal, decimal-digits_value, decimal_nonempty, first_decimal}
use Rattle.gp_dumpline.specs.declared.identity.TheConstants.{MAX_PART}
use Rattle.gp_dumpline.specs.Numbers.{after_byte}
use Rattle.gp_base.specs.Digits.{are_digits, is_digit}
use Rattle.gp_dumpline.specs.RowForms.{if_part, part_at, numbers_at, Numbers}
use Rattle.gp_base.specs.Leaves.{digits_at}
use Rattle.gp_dumpline.specs.Rows.{IsPart}
use Rattle.gp_dumpline.proofs.PartLaws.{bind, byte-takes}
use Rattle.gp_base.proofs.DigitLemmas.{fold_on, in_range, own_on, range_in}

-- the text does not begin with a digit
abbrev pub IsAfterDigits : List ℕ → Type 0
IsAfterDigits [] = Unit {0}
IsAfterDigits (byte ∷ bytes) = is_digit byte ≡ false

digits_at-stop : (n : ℕ) (rest : List ℕ) → IsAfterDigits rest → digits_at n rest ≡ (n, rest)
digits_at-stop n [] after = refl
digits_at-stop n (b ∷ rest) after = rw after refl

digits_at-all : (n : ℕ) (ds rest : List ℕ) → are_digits ds ≡ true → IsAfterDigits rest → digits_at n (ds ++ rest) ≡ (fold_on n ds, rest)
digits_at-all n [] rest all after = digits_at-stop n rest after
digits_at-all n (d ∷ ds) rest all after =
    let p = and_parts (is_digit d) (are_digits ds) all in
    rw p.0 (digits_at-all (n * 10 + (d - 48)) ds rest p.1 after)

part-text : (n : ℕ) (ds rest : List ℕ) → ds ≡ decimal n → IsPart n → are_digits ds ≡ true → fold_on 0 ds ≡ n → 0 < length ds → 48 < get_or ds 0 0 → IsAfterDigits rest → part_at (ds ++ rest) ≡ Some (n, rest)
unfolding part_at
part-text n [] rest is range all value some high after = absurd (omega (arith, some))
part-text n (d ∷ ds) rest is range all value some high after =
    let p = and_parts (is_digit d) (are_digits ds) all in
    let first : (leb 49 d && leb d 57) ≡ true = and_from (leb 49 d) (leb d 57) (le-leb 49 d (omega (arith, high))) (le-leb d 57 (in_range d p.0).1) in
    let read : digits_at 0 ((d ∷ ds) ++ rest) ≡ (n, rest) = digits_at-all 0 (d ∷ ds) rest all after ∙ ap (λ (x : ℕ). (x, rest)) value in
    let fits : leb n MAX_PART ≡ true = le-leb n MAX_PART range.1 in
    rw first (ap if_part read ∙ cond-true (leb n MAX_PART) (Some (n, rest)) None fits)

pub part-again : (n : ℕ) (rest : List ℕ) → IsPart n → IsAfterDigits rest → part_at (decimal n ++ rest) ≡ Some (n, rest)
part-again n rest range after =
    let small : n < 2 ^ 64 = omega (arith, range.1) in
    part-text n (decimal n) rest refl range (digits_decimal own_on n small) (digits_value-decimal own_on n small) (decimal_nonempty n small) (first_decimal n (omega (arith, range.0)) small) after

-- ---- only its text is read

pub record TookDigits (n : ℕ) (bytes : List ℕ) (value : ℕ) (rest : List ℕ) : Type 0 where
  pub ds : List ℕ
  pub all : are_digits ds ≡ true
  pub is : bytes ≡ ds ++ rest
  pub valued : fold_on n ds ≡ value
  pub after : IsAfterDigits rest

took : (n : ℕ) (bytes : List ℕ) → TookDigits n bytes (digits_at n bytes).0 (digits_at n bytes).1
took n [] = record { ds = []; all = refl; is = refl; valued = refl; after = tt }
took n (b ∷ bytes) = elim (cases_Bool (is_digit b)) [
  | inl d ↦
      let t = took (n * 10 + (b - 48)) bytes in
      let more : TookDigits n (b ∷ bytes) (digits_at (n * 10 + (b - 48)) bytes).0 (digits_at (n * 10 + (b - 48)) bytes).1 = record { ds = b ∷ t.ds; all = and_from (is_digit b) (are_digits t.ds) d t.all; is = ap (λ (x : List ℕ). b ∷ x) t.is; valued = t.valued; after = t.after } in
      rw d more
  | inr o ↦
      let none : TookDigits n (b ∷ bytes) n (b ∷ bytes) = record { ds = []; all = refl; is = refl; valued = refl; after = o } in
      rw o none
]

pub record TakesPart (bytes : List ℕ) (n : ℕ) (rest : List ℕ) : Type 0 where
  pub is : bytes ≡ decimal n ++ rest
  pub range : IsPart n

pub chosen : {A : Type 0} (b : Bool) (x : Option A) (y : A) → cond b x None ≡ Some y → (b ≡ true) × (x ≡ Some y)
chosen true x y e = (refl, e)
chosen false x y e = absurd cc

pub some_is : {A : Type 0} (x y : A) → Some x ≡ Some y → x ≡ y
some_is x y e = cc

fold-first : (d : ℕ) (ds : List ℕ) → 49 ≤ d → 1 ≤ fold_on 0 (d ∷ ds)
fold-first d ds high = grows (0 * 10 + (d - 48)) ds (omega (arith, high))
  where
    grows : (n : ℕ) (ds : List ℕ) → 1 ≤ n → 1 ≤ fold_on n ds
    grows n [] some = some
    grows n (c ∷ cs) some = grows (n * 10 + (c - 48)) cs (omega (arith, some))

part-took : (b : ℕ) (bytes : List ℕ) (n : ℕ) (rest ds : List ℕ) → is_digit b ≡ true → 49 ≤ b → n ≤ MAX_PART → are_digits ds ≡ true → b ∷ bytes ≡ ds ++ rest → fold_on 0 ds ≡ n → IsAfterDigits rest → TakesPart (b ∷ bytes) n rest
part-took b bytes n rest [] digit high most all is valued after =
    let stop : is_digit b ≡ false = subst IsAfterDigits (sym is) after in
    absurd (false≢true (sym stop ∙ digit))
part-took b bytes n rest (d ∷ ds) digit high most all is valued after =
    let first : b ≡ d = ap (λ (x : List ℕ). get_or x 0 0) is in
    let up : 49 ≤ d = subst (λ (x : ℕ). 49 ≤ x) first high in
    let some : 1 ≤ fold_on 0 (d ∷ ds) = fold-first d ds up in
    let small : fold_on 0 (d ∷ ds) < 2 ^ 64 = omega (arith, valued, most) in
    let written : decimal (fold_on 0 (d ∷ ds)) ≡ d ∷ ds = decimal-digits_value own_on (d ∷ ds) all (omega arith) (λ e. absurd (omega (arith, e, up))) small in
    let text : decimal n ≡ d ∷ ds = ap decimal (sym valued) ∙ written in
    record { is = is ∙ ap (λ (x : List ℕ). x ++ rest) (sym text); range = (omega (arith, some, valued), most) }

pub part-takes : (bytes : List ℕ) (n : ℕ) (rest : List ℕ) → part_at bytes ≡ Some (n, rest) → TakesPart bytes n rest
unfolding part_at
part-takes [] n rest e = absurd cc
part-takes (b ∷ bytes) n rest e =
    let outer = chosen (leb 49 b && leb b 57) (if_part (digits_at 0 (b ∷ bytes))) (n, rest) e in
    let range = and_parts (leb 49 b) (leb b 57) outer.0 in
    let up : 49 ≤ b = leb-true 49 b range.0 in
    let down : b ≤ 57 = leb-true b 57 range.1 in
    let inner = chosen (leb (digits_at 0 (b ∷ bytes)).0 MAX_PART) (Some (digits_at 0 (b ∷ bytes))) (n, rest) outer.1 in
    let same : digits_at 0 (b ∷ bytes) ≡ (n, rest) = some_is (digits_at 0 (b ∷ bytes)) (n, rest) inner.1 in
    let t : TookDigits 0 (b ∷ bytes) n rest = subst (λ (x : ℕ × List ℕ). TookDigits 0 (b ∷ bytes) x.0 x.1) same (took 0 (b ∷ bytes)) in
    let most : n ≤ MAX_PART = subst (λ (x : ℕ × List ℕ). x.0 ≤ MAX_PART) same (leb-true _ MAX_PART inner.0) in
    part-took b bytes n rest t.ds (range_in b (omega (arith, up), down)) up most t.all t.is t.valued t.after

-- ---- the three numbers

pub record TakesNumbers (bytes : List ℕ) (x : Numbers) : Type 0 where
  pub is : bytes ≡ decimal x.t ++ 46 ∷ (decimal x.k ++ 46 ∷ (decimal x.n ++ x.rest))
  pub t : IsPart x.t
  pub k : IsPart x.k
  pub n : IsPart x.n

pub numbers-takes : (bytes : List ℕ) (x : Numbers) → numbers_at bytes ≡ Some x → TakesNumbers bytes x
unfolding numbers_at
numbers-takes bytes x e =
    let t = bind _ (part_at bytes) x e in
    let a = bind _ (after_byte 46 t.0.1) x t.2 in
    let k = bind _ (part_at a.0) x a.2 in
    let b = bind _ (after_byte 46 k.0.1) x k.2 in
    let n = bind _ (part_at b.0) x b.2 in
    let tt' = part-takes bytes t.0.0 t.0.1 t.1 in
    let kk = part-takes a.0 k.0.0 k.0.1 k.1 in
    let nn = part-takes b.0 n.0.0 n.0.1 n.1 in
    let one = byte-takes 46 t.0.1 a.0 a.1 in
    let two = byte-takes 46 k.0.1 b.0 b.1 in
    let whole : bytes ≡ decimal t.0.0 ++ 46 ∷ (decimal k.0.0 ++ 46 ∷ (decimal n.0.0 ++ n.0.1)) =
    tt'.is ∙ ap (λ (z : List ℕ). decimal t.0.0 ++ z) (one ∙ ap (λ (z : List ℕ). 46 ∷ z) (kk.is ∙ ap (λ (z : List ℕ). decimal k.0.0 ++ z) (two ∙ ap (λ (z : List ℕ). 46 ∷ z) nn.is))) in
    let made : TakesNumbers bytes (record { t = t.0.0; k = k.0.0; n = n.0.0; rest = n.0.1 }) = record { is = whole; t = tt'.range; k = kk.range; n = nn.range } in
    subst (λ (y : Numbers). TakesNumbers bytes y) (some_is (record { t = t.0.0; k = k.0.0; n = n.0.0; rest = n.0.1 }) x n.2) made

pub numbers-again : (t k n : ℕ) (rest : List ℕ) → IsPart t → IsPart k → IsPart n → IsAfterDigits rest
    → numbers_at (decimal t ++ 46 ∷ (decimal k ++ 46 ∷ (decimal n ++ rest))) ≡ Some (record { t = t; k = k; n = n; rest = rest })
unfolding numbers_at
numbers-again t k n rest it ik inn after =
    rw (part-again t (46 ∷ (decimal k ++ 46 ∷ (decimal n ++ rest))) it refl, part-again k (46 ∷ (decimal n ++ rest)) ik refl, part-again n rest inn after) refl
