-- The lines of a dump are UTF-8 and have no line feed, where their texts are those of users.
use Rattle.std.proofs.Common.{◌≡◌, ℕ, suc, ◌^◌, ◌<◌, ◌≤◌, ◌-◌, Bool, true, false, not, eqb, leb, ◌&&◌, List, [], ◌∷◌, ◌++◌, length, Option, Some, None, refl, sym, ap, subst, ◌∙◌, arith, inl, inr, codes, lit<, ℤ, pos, negsuc}
use Rattle.std.specs.Char.{is_ascii_control}
use Rattle.std.specs.Fmt.{decimal, signed_decimal}
use Rattle.std.specs.List.{flat_map, list_all, list_any}
use Rattle.std.specs.Str.{IsUtf8, is_utf8}
use Rattle.std.specs.Str.Lossy.{utf8_valid_len}
use Rattle.std.proofs.lemmas.Bool.{cases_Bool, false≢true, and_parts, leb-true, ltb-true, eqb-true, ne_eqb, not-true, or_parts}
use Rattle.std.proofs.lemmas.List.{append-nil}
use Rattle.std.proofs.lemmas.Str.{IsUtf8-append, IsUtf8-nil, is_utf8-from_IsUtf8}
use Rattle.gp_base.specs.declared.cell.Cell.{Cell}
use Rattle.gp_base.specs.declared.cell.Cell.TheVariants.{Null, Int, Text, Id, Mark, Mono}
use Rattle.gp_base.specs.declared.text.TheConstants.{MAX_TEXT_LENGTH}
use Rattle.gp_base.specs.Cells.{is_user_text, fits_number}
use Rattle.gp_base.specs.UserCells.{is_user_cell}
use Rattle.gp_base.specs.Identities.{identity_text}
use Rattle.gp_base.specs.Texts.{quoted_byte, cell_text, row_text}
use Rattle.gp_versions.specs.declared.span.Span.{Span}
use Rattle.gp_grammar.proofs.Utf8Lemmas.{ascii-cons}
use Rattle.gp_base.specs.Digits.{are_digits, is_digit}
use Rattle.gp_dumpline.specs.Forms.{IsVersion, HasForm}
use Rattle.gp_dumpline.specs.Texts.{to_text, span_text}
use Rattle.gp_dumpline.proofs.NumberLaws.{digits_own}
use Rattle.gp_dumpline.proofs.PartLaws.{IsFree, free-append}
use Rattle.gp_dumpline.proofs.IdentityTexts.{AreInside, identity-inside}
use Rattle.gp_dumpline.proofs.QuotedUtf8.{quoted-utf8, valid-utf8}

-- a text that is UTF-8 and one line
pub record IsLine (text : List ℕ) : Type 0 where
  pub utf8 : IsUtf8 text
  pub free : IsFree 10 text

pub line-append : (xs ys : List ℕ) → IsLine xs → IsLine ys → IsLine (xs ++ ys)
line-append xs ys a b = record { utf8 = IsUtf8-append xs ys a.utf8 b.utf8; free = free-append 10 xs ys a.free b.free }

pub line-nil : IsLine []
line-nil = record { utf8 = IsUtf8-nil; free = tt }

pub line-cons : (b : ℕ) (bytes : List ℕ) → b < 128 → eqb b 10 ≡ false → IsLine bytes → IsLine (b ∷ bytes)
line-cons b bytes low other l = record { utf8 = ascii-cons b bytes low l.utf8; free = (other, l.free) }

-- a byte that is no line feed, as a test
abbrev pub is_plain : ℕ → Bool
is_plain byte = (not (eqb byte 10)) && (leb byte 127)

plain-parts : (b : ℕ) → is_plain b ≡ true → (b < 128) × (eqb b 10 ≡ false)
plain-parts b h =
    let p = and_parts (not (eqb b 10)) (leb b 127) h in
    (omega (arith, leb-true b 127 p.1), other (eqb b 10) p.0)
  where
    other : (test : Bool) → not test ≡ true → test ≡ false
    other true e = absurd (false≢true e)
    other false e = refl

pub words-line : (words rest : List ℕ) → list_all is_plain words ≡ true → IsLine rest → IsLine (words ++ rest)
words-line [] rest all l = l
words-line (b ∷ words) rest all l =
    let p = and_parts (is_plain b) (list_all is_plain words) all in
    let q = plain-parts b p.0 in
    line-cons b (words ++ rest) q.0 q.1 (words-line words rest p.1 l)

pub words-alone : (words : List ℕ) → list_all is_plain words ≡ true → IsLine words
words-alone words all = subst IsLine (append-nil words) (words-line words [] all line-nil)

digits-line : (ds rest : List ℕ) → are_digits ds ≡ true → IsLine rest → IsLine (ds ++ rest)
digits-line [] rest all l = l
digits-line (d ∷ ds) rest all l =
    let p = and_parts (is_digit d) (are_digits ds) all in
    let q = and_parts (leb 48 d) (leb d 57) p.0 in
    let up : 48 ≤ d = leb-true 48 d q.0 in
    let down : d ≤ 57 = leb-true d 57 q.1 in
    line-cons d (ds ++ rest) (omega (arith, down)) (ne_eqb d 10 (λ e. absurd (omega (arith, up, e)))) (digits-line ds rest p.1 l)

pub number-line : (n : ℕ) (rest : List ℕ) → n < 2 ^ 64 → IsLine rest → IsLine (decimal n ++ rest)
number-line n rest small l = digits-line (decimal n) rest (digits_own n small) l

-- ---- identities and versions

inside-line : (bytes rest : List ℕ) → AreInside bytes → IsLine rest → IsLine (bytes ++ rest)
inside-line [] rest are l = l
inside-line (b ∷ bytes) rest are l = line-cons b (bytes ++ rest) (omega (arith, are.0.1)) (ne_eqb b 10 (λ e. absurd (omega (arith, are.0.0, e)))) (inside-line bytes rest are.1 l)

to-line : (to : Option ℕ) (rest : List ℕ) → IsVersion to → IsLine rest → IsLine (to_text to ++ rest)
to-line None rest is l = words-line (codes "-") rest refl l
to-line (Some n) rest is l = number-line n rest (omega arith) l

-- ---- cells

quoted-free : (text : List ℕ) → IsFree 10 text → IsFree 10 (flat_map quoted_byte text)
quoted-free [] free = tt
quoted-free (b ∷ text) free = elim (cases_Bool (eqb b 39)) [
  | inl quote ↦ rw quote (refl, (refl, quoted-free text free.1))
  | inr other ↦ rw other (free.0, quoted-free text free.1)
]

control-free : (text : List ℕ) → list_any is_ascii_control text ≡ false → IsFree 10 text
control-free [] none = tt
control-free (b ∷ text) none =
    let p = or_parts (is_ascii_control b) (list_any is_ascii_control text) none in
    (ne_eqb b 10 (λ e. absurd (false≢true (sym p.0 ∙ ap is_ascii_control e))), control-free text p.1)

user-line : (text : List ℕ) → is_user_text text ≡ true → IsLine (flat_map quoted_byte text)
user-line text is =
    let p = and_parts (eqb (utf8_valid_len text) (length text)) (leb (length text) MAX_TEXT_LENGTH && not (list_any is_ascii_control text)) is in
    let q = and_parts (leb (length text) MAX_TEXT_LENGTH) (not (list_any is_ascii_control text)) p.1 in
    let utf8 = valid-utf8 text (eqb-true (utf8_valid_len text) (length text) p.0) in
    record { utf8 = quoted-utf8 text utf8; free = quoted-free text (control-free text (not-true (list_any is_ascii_control text) q.1)) }

integer-line : (number : ℤ) (rest : List ℕ) → fits_number number ≡ true → IsLine rest → IsLine (signed_decimal number ++ rest)
integer-line (pos n) rest fits l = number-line n rest (omega (arith, ltb-true n (2 ^ 63) fits)) l
integer-line (negsuc n) rest fits l =
    let few : n ≤ 2 ^ 63 - 1 = leb-true n (2 ^ 63 - 1) (and_parts (leb n (2 ^ 63 - 1)) true fits).0 in
    line-cons 45 (decimal (suc n) ++ rest) (lit< tt) refl (number-line (suc n) rest (omega (arith, few)) l)

cell-line : (cell : Cell) (rest : List ℕ) → is_user_cell cell ≡ true → IsLine rest → IsLine (cell_text cell ++ rest)
cell-line Null rest is l = words-line (codes "NULL") rest refl l
cell-line (Int number) rest is l = integer-line number rest is l
cell-line (Text text) rest is l =
    let whole : IsLine (39 ∷ (flat_map quoted_byte text ++ 39 ∷ [])) =
    line-cons 39 _ (lit< tt) refl (line-append (flat_map quoted_byte text) (39 ∷ []) (user-line text is) (words-alone (39 ∷ []) refl)) in
    line-append (39 ∷ (flat_map quoted_byte text ++ 39 ∷ [])) rest whole l
cell-line (Id id) rest is l = absurd (false≢true is)
cell-line (Mark mark) rest is l = absurd (false≢true is)
cell-line (Mono monomial) rest is l = absurd (false≢true is)

others-line : (cells : List Cell) → list_all is_user_cell cells ≡ true → IsLine (flat_map (λ (other : Cell). codes ", " ++ cell_text other) cells)
others-line [] all = line-nil
others-line (cell ∷ cells) all =
    let p = and_parts (is_user_cell cell) (list_all is_user_cell cells) all in
    line-cons 44 _ (lit< tt) refl (line-cons 32 _ (lit< tt) refl (cell-line cell (flat_map (λ (other : Cell). codes ", " ++ cell_text other) cells) p.0 (others-line cells p.1)))

pub row-line : (cells : List Cell) → list_all is_user_cell cells ≡ true → IsLine (row_text cells)
row-line [] all = line-nil
row-line (cell ∷ cells) all =
    let p = and_parts (is_user_cell cell) (list_all is_user_cell cells) all in
    cell-line cell (flat_map (λ (other : Cell). codes ", " ++ cell_text other) cells) p.0 (others-line cells p.1)

-- ---- row lines

pub span-line : (span : Span) → HasForm span → list_all is_user_cell span.row ≡ true → IsLine (span_text span)
span-line span is all =
    inside-line (identity_text span.id) _ (identity-inside span.id is.identity)
    (line-cons 32 _ (lit< tt) refl (number-line span.from _ (omega (arith, is.from))
    (line-cons 32 _ (lit< tt) refl (to-line span.to _ is.to
    (line-cons 32 _ (lit< tt) refl (line-append (row_text span.row) [] (row-line span.row all) line-nil))))))

-- ---- as tests

pub free-tested : (text : List ℕ) → IsFree 10 text → list_any (λ byte. eqb byte 10) text ≡ false
free-tested [] free = refl
free-tested (b ∷ text) free = rw free.0 (free-tested text free.1)

pub tested-free : (text : List ℕ) → list_any (λ byte. eqb byte 10) text ≡ false → IsFree 10 text
tested-free [] none = tt
tested-free (b ∷ text) none = elim (cases_Bool (eqb b 10)) [
  | inl feed ↦ let f = rw feed at none in absurd (false≢true (sym f))
  | inr other ↦ let f = rw other at none in (other, tested-free text f)
]

pub line-tested : (text : List ℕ) → IsLine text → (is_utf8 text ≡ true) × (list_any (λ byte. eqb byte 10) text ≡ false)
line-tested text l = (is_utf8-from_IsUtf8 text l.utf8, free-tested text l.free)
