-- A text in UTF-8 stays one where each quote is written twice, and the valid length of a text tells whether it is UTF-8.
use Rattle.std.proofs.Common.{◌≡◌, ℕ, zero, suc, ◌<◌, true, false, eqb, List, [], ◌∷◌, ◌++◌, length, take, get_or, refl, sym, ap, subst, ◌∙◌, append_assoc, append-nil, arith, inl, inr, lit<}
use Rattle.std.specs.List.{flat_map}
use Rattle.std.specs.Str.{IsUtf8, chars, is_utf8}
use Rattle.std.specs.Str.Lossy.{valid_len_up_to, utf8_valid_len}
use Rattle.std.proofs.lemmas.List.{take_all}
use Rattle.std.proofs.lemmas.Str.{IsUtf8-from_is_utf8, inside_one, encode_ascii, encodes-chars, scalars-chars, IsUtf8-append, IsUtf8-nil, IsUtf8-from_ascii, IsUtf8-encode}
use Rattle.std.proofs.lemmas.Bool.{cases_Bool, eqb-true, eqb-false, ne_eqb, and_parts}
use Rattle.std.specs.Char.{IsScalar}
use lib.Utf8.{scalar, scalars, encodes, encode}
use Rattle.gp_base.specs.Texts.{quoted_byte}

-- bytes without a quote stay as they are
unchanged : (bytes : List ℕ) → ((k : ℕ) → k < length bytes → get_or bytes k 0 ≡ 39 → ⊥) → flat_map quoted_byte bytes ≡ bytes
unchanged [] none = refl
unchanged (b ∷ bytes) none =
    let other : eqb b 39 ≡ false = ne_eqb b 39 (λ e. none 0 (omega arith) e) in
    rw other (ap (λ (x : List ℕ). b ∷ x) (unchanged bytes (λ k within e. none (suc k) (omega (arith, within)) e)))

-- one character
quoted-char : (c : ℕ) → (eqb c 39 ≡ false) → flat_map quoted_byte (encode c) ≡ encode c
quoted-char c other =
    unchanged (encode c) (λ k within e.
    let same : c ≡ get_or (encode c) k 0 = inside_one c [] (encode c) k (sym (append-nil (encode c))) within (omega (arith, e)) in
    absurd (eqb-false c 39 other (same ∙ e)))

flat-append : (xs ys : List ℕ) → flat_map quoted_byte (xs ++ ys) ≡ flat_map quoted_byte xs ++ flat_map quoted_byte ys
flat-append [] ys = refl
flat-append (x ∷ xs) ys = ap (λ (z : List ℕ). quoted_byte x ++ z) (flat-append xs ys) ∙ sym (append_assoc (quoted_byte x) (flat_map quoted_byte xs) (flat_map quoted_byte ys))

two-ascii : (i : ℕ) → get_or (39 ∷ 39 ∷ []) i 0 < 128
two-ascii zero = lit< tt
two-ascii (suc zero) = lit< tt
two-ascii (suc (suc i)) = lit< tt

quoted-encoded : (c : ℕ) → IsScalar c → IsUtf8 (flat_map quoted_byte (encode c))
quoted-encoded c scalar = elim (cases_Bool (eqb c 39)) [
  | inl quote ↦ subst (λ (x : ℕ). IsUtf8 (flat_map quoted_byte (encode x))) (sym (eqb-true c 39 quote)) (subst (λ (bytes : List ℕ). IsUtf8 (flat_map quoted_byte bytes)) (sym (encode_ascii 39 (lit< tt))) (IsUtf8-from_ascii (39 ∷ 39 ∷ []) two-ascii))
  | inr other ↦ subst IsUtf8 (sym (quoted-char c other)) (IsUtf8-encode c scalar)
]

quoted-chars : (cs : List ℕ) → scalars cs ≡ true → IsUtf8 (flat_map quoted_byte (encodes cs))
quoted-chars [] all = IsUtf8-nil
quoted-chars (c ∷ cs) all =
    let parts = and_parts (scalar c) (scalars cs) all in
    subst IsUtf8 (sym (flat-append (encode c) (encodes cs))) (IsUtf8-append (flat_map quoted_byte (encode c)) (flat_map quoted_byte (encodes cs)) (quoted-encoded c parts.0) (quoted-chars cs parts.1))

pub quoted-utf8 : (text : List ℕ) → IsUtf8 text → IsUtf8 (flat_map quoted_byte text)
quoted-utf8 text utf8 = subst (λ (x : List ℕ). IsUtf8 (flat_map quoted_byte x)) (encodes-chars text utf8) (quoted-chars (chars text) (scalars-chars text utf8))

-- ---- the length of the valid front

front-utf8 : (bytes : List ℕ) (most : ℕ) → IsUtf8 (take (valid_len_up_to bytes most) bytes)
front-utf8 bytes zero = IsUtf8-nil
front-utf8 bytes (suc most) = elim (cases_Bool (is_utf8 (take (suc most) bytes))) [
  | inl valid ↦ rw valid (IsUtf8-from_is_utf8 (take (suc most) bytes) valid)
  | inr other ↦ rw other (front-utf8 bytes most)
]

pub valid-utf8 : (bytes : List ℕ) → utf8_valid_len bytes ≡ length bytes → IsUtf8 bytes
unfolding utf8_valid_len
valid-utf8 bytes whole = subst IsUtf8 (ap (λ (n : ℕ). take n bytes) whole ∙ take_all (length bytes) bytes (omega arith)) (front-utf8 bytes (length bytes))
