-- Words: the look-up of reserved words, and that a word that is not reserved is a name in lower case.
use Rattle.std.proofs.Common.{◌≡◌, ℕ, ◌-◌, ◌≤◌, Bool, true, false, cond, not, ◌&&◌, ◌||◌, leb, List, [], ◌∷◌, length, take, drop, map, get_or, Some, None, refl, sym, ap, subst, arith, ◌∙◌, slice_index, nat_eq}
use Rattle.std.proofs.lemmas.Bool.{eq-eqb, le-leb}
use Rattle.std.proofs.lemmas.Bool.Decides.{nat_tests}
use Rattle.std.proofs.lemmas.Grind.{common_steps}
use Rattle.std.proofs.lemmas.List.{length-map}
use Rattle.std.proofs.lemmas.List.Folds.{length-prefix_len}
use Rattle.std.proofs.lemmas.List.Sums.{take_while-cons}
use Rattle.std.specs.Char.{is_ascii_alphabetic, to_ascii_lowercase}
use Rattle.std.specs.List.{filter, find, list_all, list_any, prefix_len, take_while}
use Rattle.std.specs.Cmp.Lexicographic.{same_text}
use Rattle.std.specs.Str.{bytes_eq, str_eq_ignore_ascii_case, str_to_ascii_lowercase}
use Rattle.gp_base.specs.declared.name.TheConstants.{MAX_NAME_LENGTH}
use Rattle.gp_base.specs.Names.{is_lower_letter, is_name_byte, is_name, is_reserved, reserved_words}
use Rattle.gp_lexer.specs.declared.lexeme.Symbol.{Symbol}
use Rattle.gp_lexer.specs.Lexemes.{symbol_text}
use Rattle.gp_lexer.specs.Lexing.{is_word_byte, reserved_symbols, reserved_word}

take-others : {X : Type 0} (x : X) (xs : List X) → take (length (x ∷ xs) - 1) (drop 1 (x ∷ xs)) ≡ xs
take-others x xs = grind (arith, common_steps)

-- the first item that passes is among the others, if the first one does not
pub find-others : {X : Type 0} (p : X → Bool) (d : X) (xs : List X) → 1 ≤ length xs → p (get_or xs 0 d) ≡ false
    → find p xs ≡ find p (take (length xs - 1) (drop 1 xs))
find-others p d [] h e = absurd (omega arith)
find-others p d (x ∷ xs) h e = rw e (ap (find p) (sym (take-others x xs)))

-- ---- the reserved words with the length of the word

-- the first item that passes is among those that pass another test, if each that passes the one passes the other
find-filter : {X : Type 0} (p q : X → Bool) → ((x : X) → p x ≡ true → q x ≡ true) → (xs : List X) → find p (filter q xs) ≡ find p xs
find-filter p q h [] = refl
find-filter p q h (x ∷ xs) = by (q x) refl (p x) refl (find-filter p q h xs)
  where
    by : (t : Bool) → q x ≡ t → (u : Bool) → p x ≡ u → find p (filter q xs) ≡ find p xs → find p (cond t (x ∷ filter q xs) (filter q xs)) ≡ cond u (Some x) (find p xs)
    by true e true f others = rw f refl
    by true e false f others = rw f others
    by false e true f others = let g = h x f in absurd cc
    by false e false f others = others

same-length : (word : List ℕ) (symbol : Symbol) → str_eq_ignore_ascii_case (symbol_text symbol) word ≡ true → nat_eq (length (symbol_text symbol)) (length word) ≡ true
same-length word symbol h =
    let same : map to_ascii_lowercase (symbol_text symbol) ≡ map to_ascii_lowercase word = same_text (map to_ascii_lowercase (symbol_text symbol)) (map to_ascii_lowercase word) (sym h) in
    let lengths : length (symbol_text symbol) ≡ length word = sym (length-map (symbol_text symbol) to_ascii_lowercase) ∙ ap length same ∙ length-map word to_ascii_lowercase in
    eq-eqb (length (symbol_text symbol)) (length word) lengths

pub reserved-with-length : (word : List ℕ)
    → find (λ symbol. str_eq_ignore_ascii_case (symbol_text symbol) word) (filter (λ symbol. nat_eq (length (symbol_text symbol)) (length word)) reserved_symbols) ≡ reserved_word word
unfolding reserved_word
reserved-with-length word =
    find-filter (λ symbol. str_eq_ignore_ascii_case (symbol_text symbol) word) (λ symbol. nat_eq (length (symbol_text symbol)) (length word)) (same-length word) reserved_symbols

-- ---- a word that is not reserved

lower-letter : (b : ℕ) → is_ascii_alphabetic b ≡ true → is_lower_letter (to_ascii_lowercase b) ≡ true
lower-letter b h = grind (arith, nat_tests)

name-byte : (b : ℕ) → is_word_byte b ≡ true → is_name_byte (to_ascii_lowercase b) ≡ true
name-byte b h = grind (arith, nat_tests)

pub letter-word : (b : ℕ) → is_ascii_alphabetic b ≡ true → is_word_byte b ≡ true
letter-word b h = grind (arith, nat_tests)

name-bytes : (bytes : List ℕ) → list_all is_name_byte (map to_ascii_lowercase (take_while is_word_byte bytes)) ≡ true
name-bytes [] = refl
name-bytes (b ∷ bytes) =
    ap (λ word. list_all is_name_byte (map to_ascii_lowercase word)) (take_while-cons is_word_byte b bytes) ∙ by (is_word_byte b) refl (name-bytes bytes)
  where
    by : (test : Bool) → is_word_byte b ≡ test → list_all is_name_byte (map to_ascii_lowercase (take_while is_word_byte bytes)) ≡ true
        → list_all is_name_byte (map to_ascii_lowercase (cond test (b ∷ take_while is_word_byte bytes) [])) ≡ true
    by true h others = let first : is_name_byte (to_ascii_lowercase b) ≡ true = name-byte b h in rw (first, others) refl
    by false h others = refl

not-among : (word : List ℕ) (symbols : List Symbol) → find (λ symbol. str_eq_ignore_ascii_case (symbol_text symbol) word) symbols ≡ None
    → list_any (λ other. bytes_eq other (str_to_ascii_lowercase word)) (map (λ symbol. str_to_ascii_lowercase (symbol_text symbol)) symbols) ≡ false
not-among word [] h = refl
not-among word (x ∷ xs) h = by (str_eq_ignore_ascii_case (symbol_text x) word) h (λ none. not-among word xs none)
  where
    by : (test : Bool) → cond test (Some x) (find (λ symbol. str_eq_ignore_ascii_case (symbol_text symbol) word) xs) ≡ None
        → (find (λ symbol. str_eq_ignore_ascii_case (symbol_text symbol) word) xs ≡ None
        → list_any (λ other. bytes_eq other (str_to_ascii_lowercase word)) (map (λ symbol. str_to_ascii_lowercase (symbol_text symbol)) xs) ≡ false)
        → (test || list_any (λ other. bytes_eq other (str_to_ascii_lowercase word)) (map (λ symbol. str_to_ascii_lowercase (symbol_text symbol)) xs)) ≡ false
    by true none others = absurd cc
    by false none others = others none

pub same-words : reserved_words ≡ map (λ symbol. str_to_ascii_lowercase (symbol_text symbol)) reserved_symbols
unfolding symbol_text
same-words = refl

not-reserved : (word : List ℕ) → reserved_word word ≡ None → is_reserved (str_to_ascii_lowercase word) ≡ false
unfolding reserved_word
not-reserved word h = ap (list_any (λ other. bytes_eq other (str_to_ascii_lowercase word))) same-words ∙ not-among word reserved_symbols h

all-hold : (p q r s : Bool) → p ≡ true → q ≡ true → r ≡ true → s ≡ false → (p && q && r && not s) ≡ true
all-hold p q r s a b c d = rw (a, b, c, d) refl

name-of : (b : ℕ) (others : List ℕ) → is_ascii_alphabetic b ≡ true → list_all is_name_byte (map to_ascii_lowercase others) ≡ true
    → length (b ∷ others) ≤ MAX_NAME_LENGTH → is_reserved (str_to_ascii_lowercase (b ∷ others)) ≡ false → is_name (str_to_ascii_lowercase (b ∷ others)) ≡ true
name-of b others letter bytes short free =
    let first : is_lower_letter (to_ascii_lowercase b) ≡ true = lower-letter b letter in
    let size : length (to_ascii_lowercase b ∷ map to_ascii_lowercase others) ≤ MAX_NAME_LENGTH = simp length-map (omega arith) in
    let fits : leb (length (to_ascii_lowercase b ∷ map to_ascii_lowercase others)) MAX_NAME_LENGTH ≡ true = le-leb _ _ size in
    all-hold _ _ _ _ first bytes fits free

pub word-name : (bytes : List ℕ) → is_ascii_alphabetic (slice_index bytes 0) ≡ true → prefix_len is_word_byte bytes ≤ MAX_NAME_LENGTH
    → reserved_word (take_while is_word_byte bytes) ≡ None → is_name (str_to_ascii_lowercase (take_while is_word_byte bytes)) ≡ true
word-name [] letter short free = absurd cc
word-name (b ∷ bytes) letter short free =
    let word : take_while is_word_byte (b ∷ bytes) ≡ b ∷ take_while is_word_byte bytes = take_while-cons is_word_byte b bytes ∙ ap (λ test. cond test (b ∷ take_while is_word_byte bytes) []) (letter-word b letter) in
    let size : length (take_while is_word_byte (b ∷ bytes)) ≡ prefix_len is_word_byte (b ∷ bytes) = length-prefix_len is_word_byte (b ∷ bytes) in
    let whole : length (b ∷ take_while is_word_byte bytes) ≤ MAX_NAME_LENGTH = omega (arith, ap length word) in
    subst (λ w. is_name (str_to_ascii_lowercase w) ≡ true) (sym word)
    (name-of b (take_while is_word_byte bytes) letter (name-bytes bytes) whole (ap (λ w. is_reserved (str_to_ascii_lowercase w)) (sym word) ∙ not-reserved (take_while is_word_byte (b ∷ bytes)) free))
