-- The cells of a row are read again from the row's text, and what is read is the text of its cells.
use Rattle.std.proofs.Common.{◌≡◌, ℕ, zero, suc, ◌-◌, ◌^◌, ◌<◌, ◌≤◌, Bool, true, false, cond, not, eqb, leb, ltb, ◌&&◌, List, [], ◌∷◌, ◌++◌, map, length, Option, Some, None, option_and_then, refl, sym, ap, subst, ◌∙◌, append_assoc, arith, inl, inr, ℤ, pos, negsuc, codes, lit≤}
use Rattle.std.specs.Option.{option_map}
use Rattle.std.specs.Str.{bytes_eq}
use Rattle.std.specs.Fmt.{decimal, signed_decimal}
use Rattle.std.specs.List.{flat_map, list_all, AllByRecursion}
use Rattle.std.proofs.lemmas.Bool.{cases_Bool, and_parts, and_from, ne_eqb, eqb-true, leb-true, le-leb, ltb-true, lt-ltb, false≢true}
use Rattle.std.proofs.lemmas.Slice.Eq.{bytes_eq-Decides}
use Rattle.gp_base.specs.declared.cell.Cell.{Cell}
use Rattle.gp_base.specs.declared.cell.Cell.TheVariants.{Null, Int, Text, Id, Mark, Mono}
use Rattle.gp_base.specs.Cells.{fits_number}
use Rattle.gp_base.specs.Texts.{quoted_byte, cell_text, row_text}
use Rattle.gp_dumpline.specs.Numbers.{number_of, after_byte}
use Rattle.gp_base.specs.Digits.{are_digits, is_digit}
use Rattle.gp_dumpline.specs.RowForms.{put, parts_of, unquoted, negative_of, integer_of, cell_of, further_cells, cells_in, cells_of}
use Rattle.gp_dumpline.specs.CellParts.{puts}
use Rattle.gp_dumpline.specs.Rows.{is_readable_cell}
use Rattle.gp_dumpline.proofs.NumberLaws.{digits_own, number-again, number-takes}
use Rattle.gp_dumpline.proofs.PartLaws.{bind, byte-takes}
use Rattle.gp_dumpline.proofs.CellLemmas.{puts-part, plain-unquoted}
use Rattle.std.proofs.lemmas.Option.{none-some, same_Some}

-- the texts of further cells, each behind a comma and a space
abbrev pub others_text : List Cell → List ℕ
others_text cells = flat_map (λ (other : Cell). codes ", " ++ cell_text other) cells

abbrev pub AreReadable : List Cell → Type 0
AreReadable cells = list_all is_readable_cell cells ≡ true

-- ---- a text is not cut

-- each byte is above a comma
abbrev AreHigh : List ℕ → Type 0
AreHigh bytes = AllByRecursion (λ byte. 45 ≤ byte) bytes

plain : (text rest : List ℕ) → AreHigh text → parts_of false (text ++ rest) ≡ puts text (parts_of false rest)
plain [] rest high = refl
plain (b ∷ text) rest high =
    let quote : eqb b 39 ≡ false = ne_eqb b 39 (λ e. absurd (omega (arith, high.0, e))) in
    let comma : eqb b 44 ≡ false = ne_eqb b 44 (λ e. absurd (omega (arith, high.0, e))) in
    rw (quote, comma) (ap (put b) (plain text rest high.1))

inside-byte : (b : ℕ) (bytes : List ℕ) → eqb b 39 ≡ false → parts_of true (b ∷ bytes) ≡ put b (parts_of true bytes)
inside-byte b bytes other = elim (cases_Bool (eqb b 44)) [
  | inl comma ↦ rw (other, comma) refl
  | inr no_comma ↦ rw (other, no_comma) refl
]

-- inside of quotes nothing is cut
quoted : (text rest : List ℕ) → parts_of true (flat_map quoted_byte text ++ 39 ∷ rest) ≡ puts (flat_map quoted_byte text ++ 39 ∷ []) (parts_of false rest)
quoted [] rest = refl
quoted (b ∷ text) rest = elim (cases_Bool (eqb b 39)) [
  | inl quote ↦ rw quote (ap (λ (x : List (List ℕ)). put 39 (put 39 x)) (quoted text rest))
  | inr other ↦
      let step : parts_of true (b ∷ (flat_map quoted_byte text ++ 39 ∷ rest)) ≡ puts (b ∷ (flat_map quoted_byte text ++ 39 ∷ [])) (parts_of false rest) =
      inside-byte b (flat_map quoted_byte text ++ 39 ∷ rest) other ∙ ap (λ (x : List (List ℕ)). put b x) (quoted text rest) in
      rw other step
]

-- ---- numbers

digits-high : (ds : List ℕ) → are_digits ds ≡ true → AreHigh ds
digits-high [] all = tt
digits-high (d ∷ ds) all =
    let p = and_parts (is_digit d) (are_digits ds) all in
    let q = and_parts (leb 48 d) (leb d 57) p.0 in
    (omega (arith, leb-true 48 d q.0), digits-high ds p.1)

pos-small : (n : ℕ) → fits_number (pos n) ≡ true → n < 2 ^ 63
pos-small n fits = ltb-true n (2 ^ 63) fits

neg-small : (n : ℕ) → fits_number (negsuc n) ≡ true → n < 2 ^ 63
neg-small n fits =
    let few : n ≤ 2 ^ 63 - 1 = leb-true n (2 ^ 63 - 1) (and_parts (leb n (2 ^ 63 - 1)) true fits).0 in
    omega (arith, few)

number-high : (number : ℤ) → fits_number number ≡ true → AreHigh (signed_decimal number)
number-high (pos n) fits = digits-high (decimal n) (digits_own n (omega (arith, pos-small n fits)))
number-high (negsuc n) fits = (lit≤ tt, digits-high (decimal (suc n)) (digits_own (suc n) (omega (arith, neg-small n fits))))

null-high : AreHigh (codes "NULL")
null-high = (lit≤ tt, (lit≤ tt, (lit≤ tt, (lit≤ tt, tt))))

-- ---- the parts of a row's text

cell-part : (cell : Cell) (rest : List ℕ) → is_readable_cell cell ≡ true → parts_of false (cell_text cell ++ rest) ≡ puts (cell_text cell) (parts_of false rest)
cell-part Null rest fits = plain (codes "NULL") rest null-high
cell-part (Int number) rest fits = plain (signed_decimal number) rest (number-high number fits)
cell-part (Text text) rest fits =
    ap (λ (x : List ℕ). put 39 (parts_of true x)) (append_assoc (flat_map quoted_byte text) (39 ∷ []) rest)
    ∙ ap (put 39) (quoted text rest)
cell-part (Id id) rest fits = absurd (false≢true fits)
cell-part (Mark mark) rest fits = absurd (false≢true fits)
cell-part (Mono monomial) rest fits = absurd (false≢true fits)

abbrev spaced : Cell → List ℕ
spaced cell = 32 ∷ cell_text cell

row-parts : (cell : Cell) (cells : List Cell) → is_readable_cell cell ≡ true → AreReadable cells → parts_of false (cell_text cell ++ others_text cells) ≡ cell_text cell ∷ map spaced cells
row-parts cell [] fits all = cell-part cell [] fits ∙ puts-part (cell_text cell) []
row-parts cell (next ∷ cells) fits all =
    let p = and_parts (is_readable_cell next) (list_all is_readable_cell cells) all in
    cell-part cell (others_text (next ∷ cells)) fits
    ∙ ap (λ (parts : List (List ℕ)). puts (cell_text cell) ([] ∷ put 32 parts)) (row-parts next cells p.0 p.1)
    ∙ puts-part (cell_text cell) (spaced next ∷ map spaced cells)

-- ---- a cell is read again

number-some : (n : ℕ) (ds : List ℕ) → number_of ds ≡ Some n → are_digits ds ≡ true → n < 2 ^ 63 → cell_of ds ≡ Some (Int (pos n))
unfolding cell_of
number-some n [] is all small = absurd cc
number-some n (d ∷ ds) is all small =
    let p = and_parts (is_digit d) (are_digits ds) all in
    let q = and_parts (leb 48 d) (leb d 57) p.0 in
    let up : 48 ≤ d = leb-true 48 d q.0 in
    let down : d ≤ 57 = leb-true d 57 q.1 in
    let quote : eqb d 39 ≡ false = ne_eqb d 39 (λ e. absurd (omega (arith, up, e))) in
    let minus : eqb d 45 ≡ false = ne_eqb d 45 (λ e. absurd (omega (arith, up, e))) in
    let null : eqb d 78 ≡ false = ne_eqb d 78 (λ e. absurd (omega (arith, down, e))) in
    rw (quote, null, minus, is, lt-ltb n (2 ^ 63) small) refl

minus-some : (n : ℕ) (ds : List ℕ) → number_of ds ≡ Some (suc n) → n < 2 ^ 63 → cell_of (45 ∷ ds) ≡ Some (Int (negsuc n))
unfolding cell_of
minus-some n ds is small = rw (is, lt-ltb n (2 ^ 63) small) refl

unquoted-again : (text : List ℕ) → unquoted (flat_map quoted_byte text ++ 39 ∷ []) ≡ Some text
unquoted-again [] = refl
unquoted-again (b ∷ text) = elim (cases_Bool (eqb b 39)) [
  | inl quote ↦
      let first : b ≡ 39 = eqb-true b 39 quote in
      let rest = ap (option_map (λ (rest : List ℕ). 39 ∷ rest)) (unquoted-again text) ∙ ap (λ (x : ℕ). Some (x ∷ text)) (sym first) in
      rw quote rest
  | inr other ↦
      let rest = plain-unquoted b (flat_map quoted_byte text ++ 39 ∷ []) other ∙ ap (option_map (λ (rest : List ℕ). b ∷ rest)) (unquoted-again text) in
      rw other rest
]

text-some : (text inside : List ℕ) → unquoted inside ≡ Some text → cell_of (39 ∷ inside) ≡ Some (Text text)
unfolding cell_of
text-some text inside is = ap (option_map (λ (x : List ℕ). Text x)) is

null-some : cell_of (codes "NULL") ≡ Some Null
unfolding cell_of
null-some = refl

pub cell-again : (cell : Cell) → is_readable_cell cell ≡ true → cell_of (cell_text cell) ≡ Some cell
cell-again Null fits = null-some
cell-again (Int (pos n)) fits = let small = pos-small n fits in number-some n (decimal n) (number-again n (omega (arith, small))) (digits_own n (omega (arith, small))) small
cell-again (Int (negsuc n)) fits = let small = neg-small n fits in minus-some n (decimal (suc n)) (number-again (suc n) (omega (arith, small))) small
cell-again (Text text) fits = text-some text (flat_map quoted_byte text ++ 39 ∷ []) (unquoted-again text)
cell-again (Id id) fits = absurd (false≢true fits)
cell-again (Mark mark) fits = absurd (false≢true fits)
cell-again (Mono monomial) fits = absurd (false≢true fits)

further-again : (cells : List Cell) → AreReadable cells → further_cells (map spaced cells) ≡ Some cells
further-again [] all = refl
further-again (cell ∷ cells) all =
    let p = and_parts (is_readable_cell cell) (list_all is_readable_cell cells) all in
    rw (cell-again cell p.0, further-again cells p.1) refl

pub cells-again : (cells : List Cell) → 1 ≤ length cells → AreReadable cells → cells_of (row_text cells) ≡ Some cells
cells-again [] some all = absurd (omega (arith, some))
cells-again (cell ∷ cells) some all =
    let p = and_parts (is_readable_cell cell) (list_all is_readable_cell cells) all in
    ap cells_in (row-parts cell cells p.0 p.1) ∙ rw (cell-again cell p.0, further-again cells p.1) refl

-- ---- only its text is read

none_is : {A : Type 0} (b : Bool) (x : Option A) (y : A) → cond b x None ≡ Some y → (b ≡ true) × (x ≡ Some y)
none_is true x y e = (refl, e)
none_is false x y e = absurd cc

mapped : {A B : Type 0} (f : A → B) (o : Option A) (y : B) → option_map f o ≡ Some y → (x : A) × (o ≡ Some x) × (f x ≡ y)
mapped f None y e = absurd cc
mapped f (Some x) y e = (x, refl, cc)

unquoted-takes : (bytes value : List ℕ) → unquoted bytes ≡ Some value → bytes ≡ flat_map quoted_byte value ++ 39 ∷ []
unquoted-takes [] value e = absurd (none-some value e)
unquoted-takes (b ∷ []) value e =
    let c = none_is (eqb b 39) (Some []) value e in
    let first : b ≡ 39 = eqb-true b 39 c.0 in
    let nothing : [] ≡ value = same_Some [] value c.1 in
    ap (λ (x : ℕ). x ∷ []) first ∙ ap (λ (v : List ℕ). flat_map quoted_byte v ++ 39 ∷ []) nothing
unquoted-takes (b ∷ c ∷ bytes) value e = elim (cases_Bool (eqb b 39)) [
  | inl quote ↦
      let f = rw quote at e in
      let two = none_is (eqb c 39) (option_map (λ (rest : List ℕ). 39 ∷ rest) (unquoted bytes)) value f in
      let m = mapped (λ (rest : List ℕ). 39 ∷ rest) (unquoted bytes) value two.1 in
      ap (λ (x : ℕ). x ∷ c ∷ bytes) (eqb-true b 39 quote)
      ∙ ap (λ (x : ℕ). 39 ∷ x ∷ bytes) (eqb-true c 39 two.0)
      ∙ ap (λ (x : List ℕ). 39 ∷ 39 ∷ x) (unquoted-takes bytes m.0 m.1)
      ∙ ap (λ (v : List ℕ). flat_map quoted_byte v ++ 39 ∷ []) m.2
  | inr other ↦
      let f = rw other at e in
      let m = mapped (λ (rest : List ℕ). b ∷ rest) (unquoted (c ∷ bytes)) value f in
      let plain : quoted_byte b ≡ b ∷ [] = rw other refl in
      ap (λ (x : List ℕ). b ∷ x) (unquoted-takes (c ∷ bytes) m.0 m.1)
      ∙ ap (λ (x : List ℕ). x ++ (flat_map quoted_byte m.0 ++ 39 ∷ [])) (sym plain)
      ∙ sym (append_assoc (quoted_byte b) (flat_map quoted_byte m.0) (39 ∷ []))
      ∙ ap (λ (v : List ℕ). flat_map quoted_byte v ++ 39 ∷ []) m.2
]

pub record TakesCell (text : List ℕ) (cell : Cell) : Type 0 where
  pub is : text ≡ cell_text cell
  pub readable : is_readable_cell cell ≡ true

record TakesInteger (text : List ℕ) (number : ℤ) : Type 0 where
  is : text ≡ signed_decimal number
  fits : fits_number number ≡ true

negative-takes : (n : ℕ) (digits : List ℕ) (number : ℤ) → number_of digits ≡ Some n → negative_of n ≡ Some number → TakesInteger (45 ∷ digits) number
negative-takes zero digits number is e = absurd (none-some number e)
negative-takes (suc n) digits number is e =
    let c = none_is (ltb n (2 ^ 63)) (Some (negsuc n)) number e in
    let small : n < 2 ^ 63 = ltb-true n (2 ^ 63) c.0 in
    let text : digits ≡ decimal (suc n) = number-takes digits (suc n) is (omega (arith, small)) in
    let fits : fits_number (negsuc n) ≡ true = and_from (leb n (2 ^ 63 - 1)) true (le-leb n (2 ^ 63 - 1) (omega (arith, small))) refl in
    let made : TakesInteger (45 ∷ digits) (negsuc n) = record { is = ap (λ (x : List ℕ). 45 ∷ x) text; fits = fits } in
    subst (TakesInteger (45 ∷ digits)) (same_Some (negsuc n) number c.1) made

positive-takes : (n : ℕ) (digits : List ℕ) (number : ℤ) → number_of digits ≡ Some n → cond (ltb n (2 ^ 63)) (Some (pos n)) None ≡ Some number → TakesInteger digits number
positive-takes n digits number is e =
    let c = none_is (ltb n (2 ^ 63)) (Some (pos n)) number e in
    let small : n < 2 ^ 63 = ltb-true n (2 ^ 63) c.0 in
    let text : digits ≡ decimal n = number-takes digits n is (omega (arith, small)) in
    let made : TakesInteger digits (pos n) = record { is = text; fits = c.0 } in
    subst (TakesInteger digits) (same_Some (pos n) number c.1) made

integer-takes : (text : List ℕ) (number : ℤ) → integer_of text ≡ Some number → TakesInteger text number
integer-takes [] number e = absurd (none-some number e)
integer-takes (b ∷ bytes) number e = elim (cases_Bool (eqb b 45)) [
  | inl minus ↦
      let f = rw minus at e in
      let n = bind negative_of (number_of bytes) number f in
      subst (λ (x : ℕ). TakesInteger (x ∷ bytes) number) (sym (eqb-true b 45 minus)) (negative-takes n.0 bytes number n.1 n.2)
  | inr other ↦
      let f = rw other at e in
      let n = bind (λ (k : ℕ). cond (ltb k (2 ^ 63)) (Some (pos k)) None) (number_of (b ∷ bytes)) number f in
      positive-takes n.0 (b ∷ bytes) number n.1 n.2
]

pub cell-takes : (text : List ℕ) (cell : Cell) → cell_of text ≡ Some cell → TakesCell text cell
unfolding cell_of
cell-takes [] cell e = absurd (none-some cell e)
cell-takes (b ∷ bytes) cell e = elim (cases_Bool (eqb b 39)) [
  | inl quote ↦
      let f = rw quote at e in
      let m = mapped (λ (x : List ℕ). Text x) (unquoted bytes) cell f in
      let made : TakesCell (b ∷ bytes) (Text m.0) = record { is = (λ i. eqb-true b 39 quote i ∷ unquoted-takes bytes m.0 m.1 i); readable = refl } in
      subst (TakesCell (b ∷ bytes)) m.2 made
  | inr other ↦ elim (cases_Bool (bytes_eq (b ∷ bytes) (codes "NULL"))) [
    | inl null ↦
        let f = rw (other, null) at e in
        let made : TakesCell (b ∷ bytes) Null = record { is = (bytes_eq-Decides (b ∷ bytes) (codes "NULL")).0 null; readable = refl } in
        subst (TakesCell (b ∷ bytes)) (same_Some Null cell f) made
    | inr no_null ↦
        let f = rw (other, no_null) at e in
        let m = mapped (λ (x : ℤ). Int x) (integer_of (b ∷ bytes)) cell f in
        let t = integer-takes (b ∷ bytes) m.0 m.1 in
        let made : TakesCell (b ∷ bytes) (Int m.0) = record { is = t.is; readable = t.fits } in
        subst (TakesCell (b ∷ bytes)) m.2 made
  ]
]

-- the parts behind the first, each behind a comma
abbrev behind_commas : List (List ℕ) → List ℕ
behind_commas parts = flat_map (λ (part : List ℕ). 44 ∷ part) parts

abbrev rejoined : List (List ℕ) → List ℕ
rejoined [] = []
rejoined (part ∷ parts) = part ++ behind_commas parts

put-rejoined : (b : ℕ) (parts : List (List ℕ)) → rejoined (put b parts) ≡ b ∷ rejoined parts
put-rejoined b [] = refl
put-rejoined b (part ∷ parts) = refl

put-some : (b : ℕ) (parts : List (List ℕ)) → 1 ≤ length (put b parts)
put-some b [] = omega arith
put-some b (part ∷ parts) = omega arith

parts-some : (inside : Bool) (bytes : List ℕ) → 1 ≤ length (parts_of inside bytes)
parts-some inside [] = omega arith
parts-some inside (b ∷ bytes) = by (eqb b 39) (eqb b 44 && not inside)
  where
    by : (quote comma : Bool) → 1 ≤ length (cond quote (put b (parts_of (not inside) bytes)) (cond comma ([] ∷ parts_of inside bytes) (put b (parts_of inside bytes))))
    by true comma = put-some b (parts_of (not inside) bytes)
    by false true = omega arith
    by false false = put-some b (parts_of inside bytes)

commas-rejoined : (parts : List (List ℕ)) → 1 ≤ length parts → behind_commas parts ≡ 44 ∷ rejoined parts
commas-rejoined [] some = absurd (omega (arith, some))
commas-rejoined (part ∷ parts) some = refl

parts-rejoined : (inside : Bool) (bytes : List ℕ) → rejoined (parts_of inside bytes) ≡ bytes
parts-rejoined inside [] = refl
parts-rejoined inside (b ∷ bytes) = by (eqb b 39) (eqb b 44 && not inside) (λ both. (and_parts (eqb b 44) (not inside) both).0) (parts-rejoined (not inside) bytes) (parts-rejoined inside bytes)
  where
    by : (quote comma : Bool) → (comma ≡ true → eqb b 44 ≡ true) → rejoined (parts_of (not inside) bytes) ≡ bytes → rejoined (parts_of inside bytes) ≡ bytes
        → rejoined (cond quote (put b (parts_of (not inside) bytes)) (cond comma ([] ∷ parts_of inside bytes) (put b (parts_of inside bytes)))) ≡ b ∷ bytes
    by true comma is other same = put-rejoined b (parts_of (not inside) bytes) ∙ ap (λ (x : List ℕ). b ∷ x) other
    by false true is other same = commas-rejoined (parts_of inside bytes) (parts-some inside bytes) ∙ ap (λ (x : List ℕ). 44 ∷ x) same ∙ ap (λ (x : ℕ). x ∷ bytes) (sym (eqb-true b 44 (is refl)))
    by false false is other same = put-rejoined b (parts_of inside bytes) ∙ ap (λ (x : List ℕ). b ∷ x) same

record TakesFurther (parts : List (List ℕ)) (cells : List Cell) : Type 0 where
  is : behind_commas parts ≡ others_text cells
  readable : AreReadable cells

further-takes : (parts : List (List ℕ)) (cells : List Cell) → further_cells parts ≡ Some cells → TakesFurther parts cells
further-takes [] cells e = subst (TakesFurther []) (same_Some [] cells e) (record { is = refl; readable = refl })
further-takes (part ∷ parts) cells e =
    let c = bind (λ (cell : Cell). option_map (λ (cells : List Cell). cell ∷ cells) (further_cells parts)) (option_and_then cell_of (after_byte 32 part)) cells e in
    let inside = bind cell_of (after_byte 32 part) c.0 c.1 in
    let m = mapped (λ (cells : List Cell). c.0 ∷ cells) (further_cells parts) cells c.2 in
    let first = cell-takes inside.0 c.0 inside.2 in
    let others = further-takes parts m.0 m.1 in
    let text : 44 ∷ part ≡ codes ", " ++ cell_text c.0 = ap (λ (x : List ℕ). 44 ∷ x) (byte-takes 32 part inside.0 inside.1 ∙ ap (λ (x : List ℕ). 32 ∷ x) first.is) in
    let made : TakesFurther (part ∷ parts) (c.0 ∷ m.0) = record { is = (λ i. text i ++ others.is i); readable = and_from (is_readable_cell c.0) (list_all is_readable_cell m.0) first.readable others.readable } in
    subst (TakesFurther (part ∷ parts)) m.2 made

pub record TakesCells (text : List ℕ) (cells : List Cell) : Type 0 where
  pub is : text ≡ row_text cells
  pub some : 1 ≤ length cells
  pub readable : list_all is_readable_cell cells ≡ true

parts-takes : (parts : List (List ℕ)) (cells : List Cell) → cells_in parts ≡ Some cells → TakesCells (rejoined parts) cells
parts-takes [] cells e = absurd (none-some cells e)
parts-takes (part ∷ parts) cells e =
    let c = bind (λ (cell : Cell). option_map (λ (cells : List Cell). cell ∷ cells) (further_cells parts)) (cell_of part) cells e in
    let m = mapped (λ (cells : List Cell). c.0 ∷ cells) (further_cells parts) cells c.2 in
    let first = cell-takes part c.0 c.1 in
    let others = further-takes parts m.0 m.1 in
    let made : TakesCells (rejoined (part ∷ parts)) (c.0 ∷ m.0) = record { is = (λ i. first.is i ++ others.is i); some = omega arith; readable = and_from (is_readable_cell c.0) (list_all is_readable_cell m.0) first.readable others.readable } in
    subst (TakesCells (rejoined (part ∷ parts))) m.2 made

pub cells-takes : (text : List ℕ) (cells : List Cell) → cells_of text ≡ Some cells → TakesCells text cells
cells-takes text cells e = subst (λ (x : List ℕ). TakesCells x cells) (parts-rejoined false text) (parts-takes (parts_of false text) cells e)
