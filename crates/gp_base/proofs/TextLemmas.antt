-- Lemmas of row texts: different rows have different texts. After the text of a cell the row ends or a comma follows, so the end of each
-- cell's text is determined, and different cells have different texts.
use Rattle.std.proofs.Common.{◌≡◌, ℕ, suc, ◌≤◌, Bool, true, false, cond, ◌||◌, ◌==◌, eqb, List, [], ◌∷◌, ◌++◌, length, drop, get_or, ℤ, pos, negsuc, refl, sym, ap, subst, ◌∙◌, append_assoc, codes, lit≤, arith, inl, inr}
use Rattle.std.specs.Int.{w64}
use Rattle.std.specs.Int.RustNames.{FitsSigned}
use Rattle.std.specs.Fmt.{decimal, signed_decimal}
use Rattle.std.specs.List.{AllByRecursion, flat_map, list_any}
use Rattle.std.specs.Str.Parse.{AllDigits}
use Rattle.std.proofs.lemmas.Bool.{cases_Bool, eqb-true, eqb-false}
use Rattle.std.proofs.lemmas.List.{length-append}
use Rattle.std.proofs.lemmas.Str.Parse.{digit_from_value}
use Rattle.std.proofs.lemmas.Fmt.{decimal_is_IsNumeral, decimal_nonempty, signed_decimal_injective}
use Rattle.gp_base.specs.declared.cell.Cell.{Cell}
use Rattle.gp_base.specs.declared.display.TheConstants.{QUOTE}
use Rattle.gp_base.specs.declared.cell.Cell.TheVariants.{Null, Int, Text, Id, Mark, Mono}
use Rattle.gp_base.specs.CellForms.{IsPlain, ArePlain}
use Rattle.gp_base.specs.Texts.{quoted_byte, cell_text, row_text}

-- the empty text, or one that begins with a comma
abbrev IsEnd : List ℕ → Type 0
IsEnd [] = Unit {0}
IsEnd (byte ∷ bytes) = byte ≡ 44

-- each byte is greater than a comma, as in numbers and NULL
abbrev AreHigh : List ℕ → Type 0
AreHigh bytes = AllByRecursion (λ byte. 45 ≤ byte) bytes

-- ---- numbers and NULL

-- the end of a text without commas is determined
high-determined : (xs ys r s : List ℕ) → AreHigh xs → AreHigh ys → IsEnd r → IsEnd s → xs ++ r ≡ ys ++ s → (xs ≡ ys) × (r ≡ s)
high-determined [] [] r s high others end last e = (refl, e)
high-determined [] (y ∷ ys) [] s high others end last e = absurd cc
high-determined [] (y ∷ ys) (b ∷ r) s high others end last e =
    let first : b ≡ y = cc in
    absurd (omega (arith, others.0))
high-determined (x ∷ xs) [] r [] high others end last e = absurd cc
high-determined (x ∷ xs) [] r (b ∷ s) high others end last e =
    let first : x ≡ b = cc in
    absurd (omega (arith, high.0))
high-determined (x ∷ xs) (y ∷ ys) r s high others end last e =
    let first : x ≡ y = cc in
    let parts = high-determined xs ys r s high.1 others.1 end last (ap (drop 1) e) in
    let later : xs ≡ ys = parts.0 in
    let whole : x ∷ xs ≡ y ∷ ys = cc in
    (whole, parts.1)

digits-high : (ds : List ℕ) → AllDigits 10 ds → AreHigh ds
digits-high [] digits = tt
digits-high (d ∷ ds) digits = (omega (arith, digit_from_value d digits.0), digits-high ds digits.1)

number-high : (number : ℤ) → FitsSigned w64 number → AreHigh (signed_decimal number)
number-high (pos n) fits = digits-high (decimal n) (decimal_is_IsNumeral n (omega (arith, fits.sfits))).0.1
number-high (negsuc n) fits = (lit≤ tt, digits-high (decimal (suc n)) (decimal_is_IsNumeral (suc n) (omega (arith, fits.sfits))).0.1)

null-high : AreHigh (codes "NULL")
null-high = (lit≤ tt, (lit≤ tt, (lit≤ tt, (lit≤ tt, tt))))

same-first : (x y : ℕ) (xs ys : List ℕ) → x ∷ xs ≡ y ∷ ys → x ≡ y
same-first x y xs ys e = cc

-- NULL is the text of no number
null-no_number : (number : ℤ) → FitsSigned w64 number → codes "NULL" ≡ signed_decimal number → ⊥
null-no_number (pos n) fits e =
    let digits : AllDigits 10 (codes "NULL") = subst (AllDigits 10) (sym e) (decimal_is_IsNumeral n (omega (arith, fits.sfits))).0.1 in
    omega (arith, digit_from_value 78 digits.0)
null-no_number (negsuc n) fits e = omega (arith, same-first 78 45 (codes "ULL") (decimal (suc n)) e)

-- ---- texts in quotes

-- a text of high bytes, and what may follow it, does not begin with a quote
high-no_quote : (xs r more : List ℕ) → AreHigh xs → IsEnd r → xs ++ r ≡ 39 ∷ more → ⊥
high-no_quote [] [] more high end e = cc
high-no_quote [] (b ∷ r) more high end e =
    let first : b ≡ 39 = cc in
    omega arith
high-no_quote (x ∷ xs) r more high end e =
    let first : x ≡ 39 = cc in
    omega (arith, high.0)

-- the closing quote is no byte of the text, since no second quote follows it
end-no_quoted : (byte : ℕ) (text r more : List ℕ) → IsEnd r → 39 ∷ r ≡ flat_map quoted_byte (byte ∷ text) ++ more → ⊥
end-no_quoted byte text [] more end e = elim (cases_Bool (eqb byte 39)) [
  | inl quote ↦
      let f = rw quote at e in
      let short : [] ≡ 39 ∷ (flat_map quoted_byte text ++ more) = ap (drop 1) f in
      cc
  | inr other ↦
      let f = rw other at e in
      let first : 39 ≡ byte = ap (λ (bytes : List ℕ). get_or bytes 0 0) f in
      eqb-false byte 39 other (sym first)
]
end-no_quoted byte text (b ∷ r) more end e = elim (cases_Bool (eqb byte 39)) [
  | inl quote ↦
      let f = rw quote at e in
      let second : b ≡ 39 = ap (λ (bytes : List ℕ). get_or bytes 1 0) f in
      omega arith
  | inr other ↦
      let f = rw other at e in
      let first : 39 ≡ byte = ap (λ (bytes : List ℕ). get_or bytes 0 0) f in
      eqb-false byte 39 other (sym first)
]

-- the end of a text in quotes is determined
quoted-determined : (t u r s : List ℕ) → IsEnd r → IsEnd s → flat_map quoted_byte t ++ 39 ∷ r ≡ flat_map quoted_byte u ++ 39 ∷ s → (t ≡ u) × (r ≡ s)
quoted-determined [] [] r s end last e = (refl, ap (drop 1) e)
quoted-determined [] (b ∷ u) r s end last e = absurd (end-no_quoted b u r (39 ∷ s) end e)
quoted-determined (a ∷ t) [] r s end last e = absurd (end-no_quoted a t s (39 ∷ r) last (sym e))
quoted-determined (a ∷ t) (b ∷ u) r s end last e = elim (cases_Bool (eqb a 39)) [
  | inl left ↦ elim (cases_Bool (eqb b 39)) [
    | inl right ↦
        let f = rw (left, right) at e in
        let parts = quoted-determined t u r s end last (ap (drop 2) f) in
        let later : t ≡ u = parts.0 in
        let first : a ≡ 39 = eqb-true a 39 left in
        let second : b ≡ 39 = eqb-true b 39 right in
        let whole : a ∷ t ≡ b ∷ u = cc in
        (whole, parts.1)
    | inr right ↦
        let f = rw (left, right) at e in
        let first : 39 ≡ b = ap (λ (bytes : List ℕ). get_or bytes 0 0) f in
        absurd (eqb-false b 39 right (sym first))
  ]
  | inr left ↦ elim (cases_Bool (eqb b 39)) [
    | inl right ↦
        let f = rw (left, right) at e in
        let first : a ≡ 39 = ap (λ (bytes : List ℕ). get_or bytes 0 0) f in
        absurd (eqb-false a 39 left first)
    | inr right ↦
        let f = rw (left, right) at e in
        let parts = quoted-determined t u r s end last (ap (drop 1) f) in
        let later : t ≡ u = parts.0 in
        let first : a ≡ b = ap (λ (bytes : List ℕ). get_or bytes 0 0) f in
        let whole : a ∷ t ≡ b ∷ u = cc in
        (whole, parts.1)
  ]
]

-- ---- cells

-- the end of a cell's text is determined, and so is the cell
cell-determined : (one other : Cell) (r s : List ℕ) → IsPlain one → IsPlain other → IsEnd r → IsEnd s → cell_text one ++ r ≡ cell_text other ++ s → (one ≡ other) × (r ≡ s)
cell-determined Null Null r s fits suits end last e = (refl, (high-determined (codes "NULL") (codes "NULL") r s null-high null-high end last e).1)
cell-determined Null (Int m) r s fits suits end last e = absurd (null-no_number m suits (high-determined (codes "NULL") (signed_decimal m) r s null-high (number-high m suits) end last e).0)
cell-determined Null (Text u) r s fits suits end last e = absurd (high-no_quote (codes "NULL") r _ null-high end e)
cell-determined (Int n) Null r s fits suits end last e = absurd (null-no_number n fits (sym (high-determined (signed_decimal n) (codes "NULL") r s (number-high n fits) null-high end last e).0))
cell-determined (Int n) (Int m) r s fits suits end last e =
    let parts = high-determined (signed_decimal n) (signed_decimal m) r s (number-high n fits) (number-high m suits) end last e in
    (ap Int (signed_decimal_injective n m fits.sfits suits.sfits parts.0), parts.1)
cell-determined (Int n) (Text u) r s fits suits end last e = absurd (high-no_quote (signed_decimal n) r _ (number-high n fits) end e)
cell-determined (Text t) Null r s fits suits end last e = absurd (high-no_quote (codes "NULL") s _ null-high last (sym e))
cell-determined (Text t) (Int m) r s fits suits end last e = absurd (high-no_quote (signed_decimal m) s _ (number-high m suits) last (sym e))
cell-determined (Text t) (Text u) r s fits suits end last e =
    let inside : flat_map quoted_byte t ++ 39 ∷ r ≡ flat_map quoted_byte u ++ 39 ∷ s =
    sym (append_assoc (flat_map quoted_byte t) (39 ∷ []) r) ∙ ap (drop 1) e ∙ append_assoc (flat_map quoted_byte u) (39 ∷ []) s in
    let parts = quoted-determined t u r s end last inside in
    (ap Text parts.0, parts.1)
cell-determined Null (Id id) r s fits suits end last e = absurd suits
cell-determined Null (Mark mark) r s fits suits end last e = absurd suits
cell-determined Null (Mono monomial) r s fits suits end last e = absurd suits
cell-determined (Int n) (Id id) r s fits suits end last e = absurd suits
cell-determined (Int n) (Mark mark) r s fits suits end last e = absurd suits
cell-determined (Int n) (Mono monomial) r s fits suits end last e = absurd suits
cell-determined (Text t) (Id id) r s fits suits end last e = absurd suits
cell-determined (Text t) (Mark mark) r s fits suits end last e = absurd suits
cell-determined (Text t) (Mono monomial) r s fits suits end last e = absurd suits
cell-determined (Id id) other r s fits suits end last e = absurd fits
cell-determined (Mark mark) other r s fits suits end last e = absurd fits
cell-determined (Mono monomial) other r s fits suits end last e = absurd fits

-- no cell has the empty text
number-some : (number : ℤ) (rest : List ℕ) → FitsSigned w64 number → [] ≡ signed_decimal number ++ rest → ⊥
number-some (pos n) rest fits e = omega (arith, decimal_nonempty n (omega (arith, fits.sfits)), length-append (decimal n) rest, ap length e)
number-some (negsuc n) rest fits e = cc

cell-some : (cell : Cell) (rest : List ℕ) → IsPlain cell → [] ≡ cell_text cell ++ rest → ⊥
cell-some Null rest fits e = cc
cell-some (Int number) rest fits e = number-some number rest fits e
cell-some (Text text) rest fits e = cc
cell-some (Id id) rest fits e = absurd fits
cell-some (Mark mark) rest fits e = absurd fits
cell-some (Mono monomial) rest fits e = absurd fits

-- ---- rows

-- the texts after the first cell
abbrev others_text : List Cell → List ℕ
others_text cells = flat_map (λ (other : Cell). codes ", " ++ cell_text other) cells

others-end : (cells : List Cell) → IsEnd (others_text cells)
others-end [] = tt
others-end (cell ∷ cells) = refl

others-injective : (one other : List Cell) → ArePlain one → ArePlain other → others_text one ≡ others_text other → one ≡ other
others-injective [] [] fits suits e = refl
others-injective [] (b ∷ more) fits suits e = absurd cc
others-injective (a ∷ cells) [] fits suits e = absurd cc
others-injective (a ∷ cells) (b ∷ more) fits suits e =
    let parts = cell-determined a b (others_text cells) (others_text more) fits.0 suits.0 (others-end cells) (others-end more) (ap (drop 2) e) in
    let first : a ≡ b = parts.0 in
    let later : cells ≡ more = others-injective cells more fits.1 suits.1 parts.1 in
    cc

-- rows with equal texts are equal
pub row_text-injective : (one other : List Cell) → ArePlain one → ArePlain other → row_text one ≡ row_text other → one ≡ other
row_text-injective [] [] fits suits e = refl
row_text-injective [] (b ∷ more) fits suits e = absurd (cell-some b (others_text more) suits.0 e)
row_text-injective (a ∷ cells) [] fits suits e = absurd (cell-some a (others_text cells) fits.0 (sym e))
row_text-injective (a ∷ cells) (b ∷ more) fits suits e =
    let parts = cell-determined a b (others_text cells) (others_text more) fits.0 suits.0 (others-end cells) (others-end more) e in
    let first : a ≡ b = parts.0 in
    let later : cells ≡ more = others-injective cells more fits.1 suits.1 parts.1 in
    cc

-- ---- texts without quotes

unquoted-next : (quote : Bool) (byte : ℕ) (text rest : List ℕ) (later : Bool) → (later ≡ false → rest ≡ text) → (quote || later) ≡ false → (cond quote (QUOTE ∷ QUOTE ∷ []) (byte ∷ []) ++ rest) ≡ byte ∷ text
unquoted-next true byte text rest later same none = absurd cc
unquoted-next false byte text rest later same none = ap (λ (more : List ℕ). byte ∷ more) (same none)

-- a text without a quote is written as it is
pub unquoted : (text : List ℕ) → list_any (λ byte. byte == QUOTE) text ≡ false → flat_map quoted_byte text ≡ text
unquoted [] none = refl
unquoted (byte ∷ text) none = unquoted-next (byte == QUOTE) byte text (flat_map quoted_byte text) (list_any (λ other. other == QUOTE) text) (unquoted text) none
