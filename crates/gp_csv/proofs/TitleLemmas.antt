-- Titles that are names are read as headings without types.
use Rattle.std.proofs.Common.{◌≡◌, ℕ, ◌+◌, ◌<◌, ◌≤◌, Bool, true, false, not, eqb, ltb, leb, ◌&&◌, List, [], ◌∷◌, ◌++◌, length, map, append_assoc, append-nil, Some, Ok, refl, sym, ap, ◌∙◌, arith}
use Rattle.std.specs.Char.{to_ascii_lowercase}
use Rattle.std.specs.List.{AllByRecursion, IsDistinct, list_all}
use Rattle.std.specs.Str.{IsUtf8, bytes_eq, is_utf8, str_to_ascii_lowercase}
use Rattle.std.proofs.lemmas.Bool.{and_parts, le-ltb, or_from, or_parts}
use Rattle.std.proofs.lemmas.Bool.Decides.{nat_tests}
use Rattle.std.proofs.lemmas.List.{drop_all, take_all}
use Rattle.std.proofs.lemmas.Str.{IsUtf8-nil, is_utf8-from_IsUtf8}
use Rattle.gp_base.specs.Names.{is_lower_letter, is_name, is_name_byte, is_reserved}
use Rattle.gp_base.specs.declared.name.TheConstants.{MAX_NAME_LENGTH}
use Rattle.gp_grammar.specs.declared.limits.TheConstants.{MAX_COLUMNS}
use Rattle.gp_csv.specs.Headings.{header_of, heading_of, headings_from, is_taken, name_len}
use Rattle.gp_csv.specs.declared.heading.Heading.{Heading}
use Rattle.gp_grammar.proofs.Utf8Lemmas.{ascii-cons}
use Rattle.gp_csv.proofs.ReadAgain.{plain}

-- ---- bytes of names

abbrev AreNameBytes : List ℕ → Type 0
AreNameBytes bytes = list_all is_name_byte bytes ≡ true

name-bytes : (name : List ℕ) → is_name name ≡ true → AreNameBytes name
name-bytes [] is = absurd cc
name-bytes (b ∷ bytes) is =
    let a = and_parts ((is_lower_letter b && list_all is_name_byte bytes) && leb (length (b ∷ bytes)) MAX_NAME_LENGTH) (not (is_reserved (b ∷ bytes))) is in
    let c = and_parts (is_lower_letter b && list_all is_name_byte bytes) (leb (length (b ∷ bytes)) MAX_NAME_LENGTH) a.0 in
    let d = and_parts (is_lower_letter b) (list_all is_name_byte bytes) c.0 in
    rw d.0 d.1

no_capital : (b : ℕ) → is_name_byte b ≡ true → ltb b 65 ≡ false → ltb b 91 ≡ true → ⊥
no_capital b is high low = grind (arith, nat_tests)

lower-byte : (b : ℕ) → is_name_byte b ≡ true → to_ascii_lowercase b ≡ b
lower-byte b is = by (ltb b 65) refl (ltb b 91) refl
  where
    by : (low : Bool) → ltb b 65 ≡ low → (mid : Bool) → ltb b 91 ≡ mid → to_ascii_lowercase b ≡ b
    by true e mid f = rw e refl
    by false e true f = absurd (no_capital b is e f)
    by false e false f = rw (e, f) refl

no_space : (b : ℕ) → is_name_byte b ≡ true → eqb b 32 ≡ false
no_space b is = grind (arith, nat_tests)

lower-bytes : (bytes : List ℕ) → AreNameBytes bytes → str_to_ascii_lowercase bytes ≡ bytes
lower-bytes [] all = refl
lower-bytes (b ∷ bytes) all =
    let p = and_parts (is_name_byte b) (list_all is_name_byte bytes) all in
    λ i. lower-byte b p.0 i ∷ lower-bytes bytes p.1 i

whole-name : (bytes : List ℕ) → AreNameBytes bytes → name_len bytes ≡ length bytes
whole-name [] all = refl
whole-name (b ∷ bytes) all =
    let p = and_parts (is_name_byte b) (list_all is_name_byte bytes) all in
    let rest : name_len bytes ≡ length bytes = whole-name bytes p.1 in
    rw (no_space b p.0) (omega (arith, rest))

-- ---- headings

name-heading : (name : List ℕ) → is_name name ≡ true → heading_of name ≡ Some (plain name)
unfolding heading_of
name-heading name is =
    let all = name-bytes name is in
    let lower = lower-bytes name all in
    let len = whole-name name all in
    rw (len, take_all (length name) name (omega arith), drop_all (length name) name (omega arith), lower, is) refl

abbrev AreNew : List Heading → List (List ℕ) → Type 0
AreNew headings names = AllByRecursion (λ (name : List ℕ). is_taken name headings ≡ false) names

taken-more : (name : List ℕ) (headings : List Heading) (heading : Heading) → is_taken name headings ≡ false → bytes_eq heading.name name ≡ false → is_taken name (headings ++ heading ∷ []) ≡ false
taken-more name [] heading new other = or_from (bytes_eq heading.name name) false other refl
taken-more name (first ∷ headings) heading new other =
    let p = or_parts (bytes_eq first.name name) (is_taken name headings) new in
    or_from (bytes_eq first.name name) (is_taken name (headings ++ heading ∷ [])) p.0 (taken-more name headings heading p.1 other)

still-new : (headings : List Heading) (first : List ℕ) (names : List (List ℕ)) → AreNew headings names → AllByRecursion (λ (name : List ℕ). bytes_eq first name ≡ false) names
    → AreNew (headings ++ plain first ∷ []) names
still-new headings first [] new others = tt
still-new headings first (name ∷ names) new others = (taken-more name headings (plain first) new.0 others.0, still-new headings first names new.1 others.1)

headings-all : (headings : List Heading) (names : List (List ℕ)) → list_all is_name names ≡ true → AreNew headings names → IsDistinct bytes_eq names
    → headings_from headings names ≡ Some (headings ++ map plain names)
unfolding IsDistinct
headings-all headings [] all new different = ap (λ (h : List Heading). Some h) (sym (append-nil headings))
headings-all headings (name ∷ names) all new different =
    let p = and_parts (is_name name) (list_all is_name names) all in
    rw (name-heading name p.0, new.0)
    (headings-all (headings ++ plain name ∷ []) names p.1 (still-new headings name names new.1 different.0) different.1
    ∙ ap (λ (h : List Heading). Some h) (append_assoc headings (plain name ∷ []) (map plain names)))

none-taken : (names : List (List ℕ)) → AreNew [] names
none-taken [] = tt
none-taken (name ∷ names) = (refl, none-taken names)

byte-low : (b : ℕ) → is_name_byte b ≡ true → b < 128
byte-low b is = grind (arith, nat_tests)

bytes-utf8 : (bytes : List ℕ) → AreNameBytes bytes → IsUtf8 bytes
bytes-utf8 [] all = IsUtf8-nil
bytes-utf8 (b ∷ bytes) all =
    let p = and_parts (is_name_byte b) (list_all is_name_byte bytes) all in
    ascii-cons b bytes (byte-low b p.0) (bytes-utf8 bytes p.1)

names-utf8 : (names : List (List ℕ)) → list_all is_name names ≡ true → list_all is_utf8 names ≡ true
names-utf8 [] all = refl
names-utf8 (name ∷ names) all =
    let p = and_parts (is_name name) (list_all is_name names) all in
    rw (is_utf8-from_IsUtf8 name (bytes-utf8 name (name-bytes name p.0))) (names-utf8 names p.1)

pub header-all : (names : List (List ℕ)) → length names ≤ MAX_COLUMNS → list_all is_name names ≡ true → IsDistinct bytes_eq names → header_of names ≡ Ok (map plain names)
unfolding header_of
header-all names few all different =
    rw (names-utf8 names all, le-ltb MAX_COLUMNS (length names) few, headings-all [] names all (none-taken names) different) refl
