-- The texts in a line of UTF-8 are UTF-8, and so is the layout of lexemes with such texts.
use Rattle.gp_grammar.proofs.Prelude.{◌≡◌, ℕ, zero, suc, ◌+◌, ◌<◌, Bool, true, false, cond, eqb, ltb, List, [], ◌∷◌, ◌++◌, length, Option, Some, None, Ok, Err, refl, sym, ap, subst, ◌∙◌, arith, append_assoc, is_ascii_control, decimal, AllByRecursion, flat_map, list_all, IsUtf8, digits_value, append-nil, ltb-true, nat_tests, Symbol, Lexeme, Sign, Word, Number, Big, Text, is_lower_letter, is_name_byte, is_name, quoted_byte, spelled, IsProper, AreProper, has_space, Page, empty_page, spaced, put, laid_out, Lexed}
use Rattle.std.proofs.Common.{◌^◌, leb, nat_eq, take, drop, lit≤}
use Rattle.std.specs.Prelude.{◌&&◌}
use Rattle.std.specs.Char.{is_ascii_alphabetic, is_ascii_digit}
use Rattle.std.specs.List.{prefix_len, starts_with}
use Rattle.std.specs.Option.{option_map, option_map_or}
use Rattle.std.specs.Str.{IsAscii}
use Rattle.std.proofs.lemmas.Fmt.{IsAscii-decimal}
use Rattle.std.proofs.lemmas.Bool.Decides.{Decides-eqb}
use Rattle.std.proofs.lemmas.Slice.Eq.{starts_is}
use Rattle.std.proofs.lemmas.Str.{IsUtf8-append, IsUtf8-nil, IsUtf8-from_ascii}
use Rattle.gp_base.specs.declared.name.TheConstants.{MAX_NAME_LENGTH}
use Rattle.gp_lexer.specs.declared.lexeme.Symbol.TheVariants as s
use Rattle.gp_base.specs.declared.text.TheConstants.{MAX_TEXT_LENGTH}
use Rattle.gp_lexer.specs.Lexemes.{symbol_text}
use Rattle.gp_lexer.specs.Layout.{written}
use Rattle.gp_lexer.specs.Lexing.{Scanned, Quoted, is_word_byte, is_blank, word_lexeme, word_at, number_lexeme, number_at, with_byte, quoted_text, quoted_text_after_quote, text_lexeme, signs, sign_among, sign_at, lexeme_at, with_lexeme, lexed_at, column_of, lexed_from, lexed}
use Rattle.gp_base.proofs.SmallLemmas.{left_true, right_true}
use Rattle.gp_lexer.proofs.Utf8Lemmas.{after-utf8, cut-utf8}

-- ---- UTF-8 around ASCII bytes

one-ascii : (q : ℕ) → q < 128 → IsAscii (q ∷ [])
one-ascii q h zero = h
one-ascii q h (suc i) = omega arith

pub ascii-cons : (q : ℕ) (b : List ℕ) → q < 128 → IsUtf8 b → IsUtf8 (q ∷ b)
ascii-cons q b h u = IsUtf8-append (q ∷ []) b (IsUtf8-from_ascii (q ∷ []) (one-ascii q h)) u

ascii-prefix : (a b : List ℕ) → AllByRecursion (λ c. c < 128) a → IsUtf8 (a ++ b) → IsUtf8 b
ascii-prefix [] b h u = u
ascii-prefix (c ∷ a) b h u = ascii-prefix a b h.1 (cut-utf8 [] c (a ++ b) h.0 u).1

-- ---- the lexemes of a line

-- the value of a text lexeme is UTF-8
pub HasUtf8 : Lexeme → Type 0
HasUtf8 (Text bytes) = IsUtf8 bytes
HasUtf8 _ = Unit {0}

pub symbols-utf8 : (symbol : Symbol) → HasUtf8 (Sign symbol)
unfolding HasUtf8
symbols-utf8 symbol = tt

pub big-utf8 : HasUtf8 Big
unfolding HasUtf8
big-utf8 = tt

IsQuoted : List ℕ → Quoted → Type 0
IsQuoted prefix None = Unit {0}
IsQuoted prefix (Some text) = IsUtf8 (prefix ++ text.0) × IsUtf8 text.1

with_byte-quoted : (prefix : List ℕ) (byte : ℕ) (text : Quoted) → IsQuoted (prefix ++ byte ∷ []) text → IsQuoted prefix (with_byte byte text)
unfolding IsQuoted
with_byte-quoted prefix byte None h = tt
with_byte-quoted prefix byte (Some text) h = (subst IsUtf8 (append_assoc prefix (byte ∷ []) text.0) h.0, h.1)

quote-quoted : (prefix : List ℕ) (text : Quoted) → IsUtf8 prefix → IsQuoted [] text → IsQuoted prefix (with_byte 39 text)
unfolding IsQuoted
quote-quoted prefix None u h = tt
quote-quoted prefix (Some text) u h = (IsUtf8-append prefix (39 ∷ text.0) u (ascii-cons 39 text.0 (omega arith) h.0), h.1)

quoted-cases : (prefix : List ℕ) (byte : ℕ) (bytes : List ℕ) (t : Bool) → eqb byte 39 ≡ t → (c : Bool) → IsUtf8 (prefix ++ (byte ∷ bytes))
    → (IsUtf8 prefix → IsUtf8 bytes → IsQuoted prefix (quoted_text_after_quote bytes)) → (IsUtf8 ((prefix ++ byte ∷ []) ++ bytes) → IsQuoted (prefix ++ byte ∷ []) (quoted_text bytes))
    → IsQuoted prefix (cond t (quoted_text_after_quote bytes) (cond c None (with_byte byte (quoted_text bytes))))
unfolding IsQuoted
quoted-cases prefix byte bytes true e c u after text =
    let q : byte ≡ 39 = (Decides-eqb byte 39).0 e in
    let w : IsUtf8 prefix × IsUtf8 bytes = cut-utf8 prefix byte bytes (omega arith) u in
    after w.0 w.1
quoted-cases prefix byte bytes false e true u after text = tt
quoted-cases prefix byte bytes false e false u after text =
    with_byte-quoted prefix byte (quoted_text bytes) (text (subst IsUtf8 (sym (append_assoc prefix (byte ∷ []) bytes)) u))

after-cases : (prefix : List ℕ) (byte : ℕ) (bytes : List ℕ) (t : Bool) → eqb byte 39 ≡ t → IsUtf8 prefix → IsUtf8 (byte ∷ bytes) → (IsUtf8 bytes → IsQuoted [] (quoted_text bytes))
    → IsQuoted prefix (cond t (with_byte 39 (quoted_text bytes)) (Some ([], byte ∷ bytes)))
unfolding IsQuoted
after-cases prefix byte bytes true e u v text =
    let q : byte ≡ 39 = (Decides-eqb byte 39).0 e in
    quote-quoted prefix (quoted_text bytes) u (text (cut-utf8 [] byte bytes (omega arith) v).1)
after-cases prefix byte bytes false e u v text = (subst IsUtf8 (sym (append-nil prefix)) u, v)

record Quotes (bytes : List ℕ) : Type 0 where
  text : (prefix : List ℕ) → IsUtf8 (prefix ++ bytes) → IsQuoted prefix (quoted_text bytes)
  after : (prefix : List ℕ) → IsUtf8 prefix → IsUtf8 bytes → IsQuoted prefix (quoted_text_after_quote bytes)

quotes : (bytes : List ℕ) → Quotes bytes
unfolding IsQuoted
quotes [] = record { text = λ prefix u. tt; after = λ prefix u v. (subst IsUtf8 (sym (append-nil prefix)) u, IsUtf8-nil) }
quotes (byte ∷ bytes) =
    let others : Quotes bytes = quotes bytes in
    record {
      text = λ prefix u. quoted-cases prefix byte bytes (eqb byte 39) refl (is_ascii_control byte) u (λ v w. others.after prefix v w) (λ v. others.text (prefix ++ byte ∷ []) v);
      after = λ prefix u v. after-cases prefix byte bytes (eqb byte 39) refl u v (λ w. others.text [] w);
    }

IsScanned : Scanned → Type 0
IsScanned None = Unit {0}
IsScanned (Some found) = HasUtf8 found.0 × IsUtf8 found.1

text-scanned : (text : Quoted) → IsQuoted [] text → IsScanned (text_lexeme text)
unfolding IsScanned IsQuoted HasUtf8
text-scanned None h = tt
text-scanned (Some text) h = by (leb (length text.0) MAX_TEXT_LENGTH)
  where
    by : (test : Bool) → IsScanned (cond test (Some (Text text.0, text.1)) None)
    by true = (h.0, h.1)
    by false = tt

word-plain : (word : Option Symbol) (name : List ℕ) → HasUtf8 (option_map_or Sign word (Word name))
unfolding HasUtf8
word-plain None name = tt
word-plain (Some symbol) name = tt

-- a byte that passes one of these tests is ASCII
digit-ascii : (c : ℕ) → is_ascii_digit c ≡ true → c < 128
digit-ascii c e = grind (arith, nat_tests)

word_byte-ascii : (c : ℕ) → is_word_byte c ≡ true → c < 128
word_byte-ascii c e = grind (arith, nat_tests)

word-scanned : (bytes : List ℕ) → IsUtf8 bytes → IsScanned (word_at bytes)
unfolding word_at IsScanned HasUtf8
word-scanned bytes u = by (leb (prefix_len is_word_byte bytes) MAX_NAME_LENGTH)
  where
    by : (test : Bool) → IsScanned (cond test (Some (word_lexeme (take (prefix_len is_word_byte bytes) bytes), drop (prefix_len is_word_byte bytes) bytes)) None)
    by true = (word-plain _ _, after-utf8 is_word_byte word_byte-ascii bytes u)
    by false = tt

number-plain : (n : ℕ) (rest : List ℕ) → IsUtf8 rest → IsScanned (option_map (λ lexeme. (lexeme, rest)) (number_lexeme n))
unfolding IsScanned HasUtf8
number-plain n rest u = by (ltb n (2 ^ 63)) (eqb n (2 ^ 63))
  where
    by : (a b : Bool) → IsScanned (option_map (λ lexeme. (lexeme, rest)) (cond a (Some (Number n)) (cond b (Some Big) None)))
    by true b = (tt, u)
    by false true = (tt, u)
    by false false = tt

number-scanned : (bytes : List ℕ) → IsUtf8 bytes → IsScanned (number_at bytes)
unfolding number_at
number-scanned bytes u = number-plain (digits_value 10 (take (prefix_len is_ascii_digit bytes) bytes)) (drop (prefix_len is_ascii_digit bytes) bytes) (after-utf8 is_ascii_digit digit-ascii bytes u)

sign-scanned : (list : List (List ℕ × Symbol)) → AllByRecursion (λ sign. AllByRecursion (λ c. c < 128) sign.0) list → (bytes : List ℕ) → IsUtf8 bytes → IsScanned (sign_among list bytes)
unfolding IsScanned HasUtf8
sign-scanned [] h bytes u = tt
sign-scanned (x ∷ list) h bytes u = by (starts_with nat_eq bytes x.0) refl (sign-scanned list h.1 bytes u)
  where
    by : (test : Bool) → starts_with nat_eq bytes x.0 ≡ test → IsScanned (sign_among list bytes) → IsScanned (cond test (Some (Sign x.1, drop (length x.0) bytes)) (sign_among list bytes))
    by true e others = (tt, ascii-prefix x.0 (drop (length x.0) bytes) h.0 (subst IsUtf8 ((starts_is Decides-eqb bytes x.0 (starts_with nat_eq bytes x.0) refl).0 e) u))
    by false e others = others

signs-ascii : AllByRecursion (λ (sign : List ℕ × Symbol). AllByRecursion (λ c. c < 128) sign.0) signs
signs-ascii = ((lit≤ tt, tt), ((lit≤ tt, tt), ((lit≤ tt, tt), ((lit≤ tt, tt), ((lit≤ tt, tt), ((lit≤ tt, tt), ((lit≤ tt, tt), ((lit≤ tt, tt), ((lit≤ tt, tt), ((lit≤ tt, tt), ((lit≤ tt, (lit≤ tt, tt)), ((lit≤ tt, (lit≤ tt, tt)), ((lit≤ tt, tt), ((lit≤ tt, (lit≤ tt, tt)), ((lit≤ tt, tt), ((lit≤ tt, (lit≤ tt, tt)), tt))))))))))))))))

lexeme-scanned : (bytes : List ℕ) → IsUtf8 bytes → IsScanned (lexeme_at bytes)
unfolding lexeme_at sign_at IsScanned
lexeme-scanned [] u = tt
lexeme-scanned (b ∷ bytes) u = by (is_ascii_alphabetic b) (is_ascii_digit b) (eqb b 39) refl
  where
    by : (k n q : Bool) → eqb b 39 ≡ q
        → IsScanned (cond k (word_at (b ∷ bytes)) (cond n (number_at (b ∷ bytes)) (cond q (text_lexeme (quoted_text bytes)) (sign_at (b ∷ bytes)))))
    by true n q e = word-scanned (b ∷ bytes) u
    by false true q e = number-scanned (b ∷ bytes) u
    by false false true e =
        let m : b ≡ 39 = (Decides-eqb b 39).0 e in
        text-scanned (quoted_text bytes) ((quotes bytes).text [] (cut-utf8 [] b bytes (omega arith) u).1)
    by false false false e = sign-scanned signs signs-ascii (b ∷ bytes) u

abbrev pub AllHaveUtf8 : List Lexeme → Type 0
AllHaveUtf8 = AllByRecursion HasUtf8

IsLexed : Lexed → Type 0
IsLexed (Err column) = Unit {0}
IsLexed (Ok found) = AllHaveUtf8 found.0

with_lexeme-lexed : (lexeme : Lexeme) (column : ℕ) (others : Lexed) → HasUtf8 lexeme → IsLexed others → IsLexed (with_lexeme lexeme column others)
unfolding IsLexed
with_lexeme-lexed lexeme column (Ok others) h k = (h, k)
with_lexeme-lexed lexeme column (Err fault) h k = tt

lexed_at-lexed : (column : ℕ) (found : Scanned) (others : List ℕ → Lexed) → IsScanned found → ((rest : List ℕ) → IsUtf8 rest → IsLexed (others rest)) → IsLexed (lexed_at column found others)
unfolding IsLexed IsScanned
lexed_at-lexed column None others h k = tt
lexed_at-lexed column (Some found) others h k = with_lexeme-lexed found.0 column (others found.1) h.0 (k found.1 h.1)

blank-ascii : (c : ℕ) → is_blank c ≡ true → c < 128
blank-ascii c e = grind (arith, nat_tests)

lexed_from-lexed : (bound : ℕ) (line bytes : List ℕ) → IsUtf8 bytes → IsLexed (lexed_from bound line bytes)
unfolding lexed_from IsLexed
lexed_from-lexed bound line [] u = tt
lexed_from-lexed zero line (b ∷ bytes) u = tt
lexed_from-lexed (suc bound) line (b ∷ bytes) u = by (is_blank b) refl (λ rest v. lexed_from-lexed bound line rest v)
  where
    by : (t : Bool) → is_blank b ≡ t → ((rest : List ℕ) → IsUtf8 rest → IsLexed (lexed_from bound line rest))
        → IsLexed (cond t (lexed_from bound line bytes) (lexed_at (column_of line (b ∷ bytes)) (lexeme_at (b ∷ bytes)) (λ rest. lexed_from bound line rest)))
    by true e k = k bytes (cut-utf8 [] b bytes (blank-ascii b e) u).1
    by false e k = lexed_at-lexed (column_of line (b ∷ bytes)) (lexeme_at (b ∷ bytes)) (λ rest. lexed_from bound line rest) (lexeme-scanned (b ∷ bytes) u) k

-- the texts in a line of UTF-8 are UTF-8
pub lexed-utf8 : (line : List ℕ) (lexemes : List Lexeme) (columns : List ℕ) → IsUtf8 line → lexed line ≡ Ok (lexemes, columns) → AllHaveUtf8 lexemes
unfolding lexed IsLexed
lexed-utf8 line lexemes columns u e = subst IsLexed e (lexed_from-lexed (length line) line line u)

-- ---- the layout of lexemes

prefix-ascii : (a b : List ℕ) → list_all (λ c. ltb c 128) a ≡ true → IsUtf8 b → IsUtf8 (a ++ b)
prefix-ascii [] b h u = u
prefix-ascii (c ∷ a) b h u = by (ltb c 128) (list_all (λ c. ltb c 128) a) refl h (λ k. prefix-ascii a b k u)
  where
    by : (x y : Bool) → ltb c 128 ≡ x → x && y ≡ true → (y ≡ true → IsUtf8 (a ++ b)) → IsUtf8 (c ∷ (a ++ b))
    by true true e d k = ascii-cons c (a ++ b) (ltb-true c 128 e) (k refl)
    by true false e d k = cc
    by false y e d k = cc

ascii-utf8 : (a : List ℕ) → list_all (λ c. ltb c 128) a ≡ true → IsUtf8 a
ascii-utf8 a h = subst IsUtf8 (append-nil a) (prefix-ascii a [] h IsUtf8-nil)

symbol-ascii : (symbol : Symbol) → list_all (λ c. ltb c 128) (symbol_text symbol) ≡ true
unfolding symbol_text
symbol-ascii s.All = refl
symbol-ascii _ = refl

symbol-utf8 : (symbol : Symbol) → IsUtf8 (symbol_text symbol)
symbol-utf8 symbol = ascii-utf8 (symbol_text symbol) (symbol-ascii symbol)

name_byte-ascii : (c : ℕ) → is_name_byte c ≡ true → ltb c 128 ≡ true
name_byte-ascii c e = grind (arith, nat_tests)

names-ascii : (bytes : List ℕ) → list_all is_name_byte bytes ≡ true → list_all (λ c. ltb c 128) bytes ≡ true
names-ascii [] h = refl
names-ascii (c ∷ bytes) h = by (is_name_byte c) (list_all is_name_byte bytes) refl h (λ k. names-ascii bytes k)
  where
    by : (x y : Bool) → is_name_byte c ≡ x → x && y ≡ true → (y ≡ true → list_all (λ c. ltb c 128) bytes ≡ true) → ltb c 128 && list_all (λ c. ltb c 128) bytes ≡ true
    by true true e d k = ap (λ z. z && list_all (λ c. ltb c 128) bytes) (name_byte-ascii c e) ∙ k refl
    by true false e d k = cc
    by false y e d k = cc

letter-ascii : (c : ℕ) → is_lower_letter c ≡ true → c < 128
letter-ascii c e = grind (arith, nat_tests)

word-utf8 : (word : List ℕ) → is_name word ≡ true → IsUtf8 word
word-utf8 [] h = IsUtf8-nil
word-utf8 (c ∷ bytes) h =
    let x : (is_lower_letter c && list_all is_name_byte bytes) ≡ true = left_true _ _ (left_true _ _ h) in
    ascii-cons c bytes (letter-ascii c (left_true _ _ x)) (ascii-utf8 bytes (names-ascii bytes (right_true _ _ x)))

quoted_bytes-utf8 : (prefix bytes : List ℕ) → IsUtf8 (prefix ++ bytes) → IsUtf8 (prefix ++ flat_map quoted_byte bytes)
quoted_bytes-utf8 prefix [] u = u
quoted_bytes-utf8 prefix (b ∷ bytes) u = by (eqb b 39) refl (λ v. quoted_bytes-utf8 [] bytes v) (λ v. quoted_bytes-utf8 (prefix ++ b ∷ []) bytes v)
  where
    by : (t : Bool) → eqb b 39 ≡ t → (IsUtf8 bytes → IsUtf8 (flat_map quoted_byte bytes)) → (IsUtf8 ((prefix ++ b ∷ []) ++ bytes) → IsUtf8 ((prefix ++ b ∷ []) ++ flat_map quoted_byte bytes))
        → IsUtf8 (prefix ++ (cond t (39 ∷ 39 ∷ []) (b ∷ []) ++ flat_map quoted_byte bytes))
    by true e k m =
        let q : b ≡ 39 = (Decides-eqb b 39).0 e in
        let w : IsUtf8 prefix × IsUtf8 bytes = cut-utf8 prefix b bytes (omega arith) u in
        IsUtf8-append prefix (39 ∷ 39 ∷ flat_map quoted_byte bytes) w.0
        (ascii-cons 39 (39 ∷ flat_map quoted_byte bytes) (omega arith) (ascii-cons 39 (flat_map quoted_byte bytes) (omega arith) (k w.1)))
    by false e k m = subst IsUtf8 (append_assoc prefix (b ∷ []) (flat_map quoted_byte bytes)) (m (subst IsUtf8 (sym (append_assoc prefix (b ∷ []) bytes)) u))

spelled-utf8 : (lexeme : Lexeme) → IsProper lexeme → HasUtf8 lexeme → IsUtf8 (spelled lexeme)
unfolding HasUtf8
spelled-utf8 (Sign symbol) h u = symbol-utf8 symbol
spelled-utf8 (Word word) h u = word-utf8 word h
spelled-utf8 (Number n) h u = IsUtf8-from_ascii (decimal n) (IsAscii-decimal n (omega arith))
spelled-utf8 Big h u = ascii-utf8 _ refl
spelled-utf8 (Text text) h u =
    ascii-cons 39 (flat_map quoted_byte text ++ 39 ∷ []) (omega arith)
    (IsUtf8-append (flat_map quoted_byte text) (39 ∷ []) (quoted_bytes-utf8 [] text u) (ascii-cons 39 [] (omega arith) IsUtf8-nil))

spaced-utf8 : (space : Bool) (text : List ℕ) → IsUtf8 text → IsUtf8 (spaced space text)
spaced-utf8 true text u = ascii-cons 32 text (omega arith) u
spaced-utf8 false text u = u

written-utf8 : (lexemes : List Lexeme) (page : Page) → IsUtf8 page.text → AreProper lexemes → AllHaveUtf8 lexemes → IsUtf8 (written page lexemes).text
unfolding written
written-utf8 [] page u h k = u
written-utf8 (lexeme ∷ lexemes) page u h k = written-utf8 lexemes (put page lexeme)
    (IsUtf8-append page.text (spaced (has_space page.gap lexeme) (spelled lexeme)) u (spaced-utf8 (has_space page.gap lexeme) (spelled lexeme) (spelled-utf8 lexeme h.0 k.0))) h.1 k.1

-- the layout of proper lexemes whose texts are UTF-8 is UTF-8
pub laid_out-utf8 : (lexemes : List Lexeme) → AreProper lexemes → AllHaveUtf8 lexemes → IsUtf8 (laid_out lexemes)
laid_out-utf8 lexemes h k = written-utf8 lexemes empty_page IsUtf8-nil h k
