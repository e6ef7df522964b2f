-- A lexeme that is spelled is read as that lexeme, if the byte after it does not go on with it.
use Rattle.std.proofs.Common.{◌≡◌, ℕ, ◌<◌, ◌≤◌, ◌^◌, Bool, true, false, cond, not, ◌&&◌, ◌||◌, eqb, ltb, leb, List, [], ◌∷◌, ◌++◌, length, map, take, drop, Some, None, codes, refl, sym, ap, arith, ◌∙◌, append_assoc, lit≤}
use Rattle.std.proofs.Math.Seq.{take-append_seam, drop-append_seam}
use Rattle.std.proofs.lemmas.Bool.{eqb-true, lt-ltb, le-leb, and_parts, or_parts}
use Rattle.std.proofs.lemmas.Bool.Decides.{nat_tests}
use Rattle.std.proofs.lemmas.Fmt.{decimal_is_IsNumeral}
use Rattle.std.proofs.lemmas.Str.Parse.{digit_from_value}
use Rattle.std.specs.Char.{digit_value, is_ascii_alphabetic, is_ascii_control, is_ascii_digit, to_ascii_lowercase}
use Rattle.std.specs.Fmt.{decimal}
use Rattle.std.specs.List.{find, flat_map, list_all, list_any, prefix_len}
use Rattle.std.specs.Option.{option_map, option_map_or}
use Rattle.std.specs.Str.{bytes_eq, str_eq_ignore_ascii_case, str_to_ascii_lowercase}
use Rattle.std.specs.Str.Parse.{AllDigits, digits_value}
use Rattle.gp_base.specs.declared.name.TheConstants.{MAX_NAME_LENGTH}
use Rattle.gp_base.specs.Names.{is_lower_letter, is_name_byte, is_name, is_reserved}
use Rattle.gp_base.specs.Texts.{quoted_byte}
use Rattle.gp_lexer.specs.declared.lexeme.Symbol.{Symbol}
use Rattle.gp_lexer.specs.declared.lexeme.Symbol.TheVariants as s
use Rattle.gp_lexer.specs.declared.lexeme.Lexeme.{Lexeme}
use Rattle.gp_lexer.specs.declared.lexeme.Lexeme.TheVariants.{Symbol as Sign, Word, Number, Big, Text}
use Rattle.gp_base.specs.declared.text.TheConstants.{MAX_TEXT_LENGTH}
use Rattle.gp_lexer.specs.declared.lexeme.TheConstants.{QUOTE}
use Rattle.gp_lexer.specs.Lexemes.{symbol_text, spelled}
use Rattle.gp_lexer.specs.ProperLexemes.{IsProper}
use Rattle.gp_lexer.specs.Lexing.{Quoted, is_word_byte, reserved_symbols, reserved_word, word_lexeme, word_at, number_lexeme, number_at, with_byte, quoted_text, quoted_text_after_quote, text_lexeme, sign_at, is_blank, lexeme_at}
use Rattle.gp_lexer.proofs.WordLemmas.{same-words}

-- the lexeme, spelled with these bytes after it, is read as it with these bytes after it
pub record Lexes (lexeme : Lexeme) (rest : List ℕ) : Type 0 where
  pub first : ℕ
  pub others : List ℕ
  pub spelling : spelled lexeme ≡ first ∷ others
  pub seen : is_blank first ≡ false
  pub is : lexeme_at (first ∷ (others ++ rest)) ≡ Some (lexeme, rest)

-- the first of the bytes, if there is one, fails the test
abbrev pub Ends : (ℕ → Bool) → List ℕ → Type 0
Ends test [] = Unit {0}
Ends test (b ∷ bytes) = test b ≡ false

prefix-len : (test : ℕ → Bool) (bytes rest : List ℕ) → list_all test bytes ≡ true → Ends test rest → prefix_len test (bytes ++ rest) ≡ length bytes
prefix-len test [] [] all ends = refl
prefix-len test [] (b ∷ rest) all ends = rw ends refl
prefix-len test (b ∷ bytes) rest all ends =
    let parts = and_parts (test b) (list_all test bytes) all in
    let first : test b ≡ true = parts.0 in
    let others : prefix_len test (bytes ++ rest) ≡ length bytes = prefix-len test bytes rest parts.1 ends in
    rw first (omega arith)

-- ---- words

word-read : (word rest : List ℕ) → list_all is_word_byte word ≡ true → Ends is_word_byte rest → leb (length word) MAX_NAME_LENGTH ≡ true
    → word_at (word ++ rest) ≡ Some (word_lexeme word, rest)
unfolding word_at
word-read word rest all ends short =
    let count : prefix_len is_word_byte (word ++ rest) ≡ length word = prefix-len is_word_byte word rest all ends in
    let before : take (length word) (word ++ rest) ≡ word = take-append_seam word rest in
    let after : drop (length word) (word ++ rest) ≡ rest = drop-append_seam word rest in
    rw count (rw short (rw (before, after) refl))

letter-seen : (b : ℕ) → is_ascii_alphabetic b ≡ true → is_blank b ≡ false
letter-seen b h = grind (arith, nat_tests)

reserved-lexes : (symbol : Symbol) (b : ℕ) (others rest : List ℕ) → symbol_text symbol ≡ b ∷ others → is_ascii_alphabetic b ≡ true
    → list_all is_word_byte (b ∷ others) ≡ true → leb (length (b ∷ others)) MAX_NAME_LENGTH ≡ true → reserved_word (b ∷ others) ≡ Some symbol
    → Ends is_word_byte rest → Lexes (Sign symbol) rest
unfolding lexeme_at
reserved-lexes symbol b others rest text letter all short reserved ends = record {
  first = b;
  others = others;
  spelling = text;
  seen = letter-seen b letter;
  is = rw letter (word-read (b ∷ others) rest all ends short ∙ ap (λ found. Some (option_map_or Sign found (Word (str_to_ascii_lowercase (b ∷ others))), rest)) reserved);
}

lower-letter-is : (b : ℕ) → is_lower_letter b ≡ true → is_ascii_alphabetic b ≡ true
lower-letter-is b h = grind (arith, nat_tests)

pub letter-name : (b : ℕ) → is_lower_letter b ≡ true → is_name_byte b ≡ true
letter-name b h = rw h refl

name-byte-is : (b : ℕ) → is_name_byte b ≡ true → is_word_byte b ≡ true
name-byte-is b h = grind (arith, nat_tests)

name-byte-lower : (b : ℕ) → is_name_byte b ≡ true → to_ascii_lowercase b ≡ b
name-byte-lower b h = grind (arith, nat_tests)

words-are : (bytes : List ℕ) → list_all is_name_byte bytes ≡ true → list_all is_word_byte bytes ≡ true
words-are [] h = refl
words-are (b ∷ bytes) h =
    let parts = and_parts (is_name_byte b) (list_all is_name_byte bytes) h in
    let first : is_word_byte b ≡ true = name-byte-is b parts.0 in
    rw first (words-are bytes parts.1)

lower-same : (bytes : List ℕ) → list_all is_name_byte bytes ≡ true → map to_ascii_lowercase bytes ≡ bytes
lower-same [] h = refl
lower-same (b ∷ bytes) h =
    let parts = and_parts (is_name_byte b) (list_all is_name_byte bytes) h in
    let first : to_ascii_lowercase b ≡ b = name-byte-lower b parts.0 in
    let others : map to_ascii_lowercase bytes ≡ bytes = lower-same bytes parts.1 in
    cc

none-among : (word : List ℕ) (symbols : List Symbol)
    → list_any (λ other. bytes_eq other (str_to_ascii_lowercase word)) (map (λ symbol. str_to_ascii_lowercase (symbol_text symbol)) symbols) ≡ false
    → find (λ symbol. str_eq_ignore_ascii_case (symbol_text symbol) word) symbols ≡ None
none-among word [] h = refl
none-among word (x ∷ xs) h = by (str_eq_ignore_ascii_case (symbol_text x) word) h (λ none. none-among word xs none)
  where
    by : (test : Bool) → (test || list_any (λ other. bytes_eq other (str_to_ascii_lowercase word)) (map (λ symbol. str_to_ascii_lowercase (symbol_text symbol)) xs)) ≡ false
        → (list_any (λ other. bytes_eq other (str_to_ascii_lowercase word)) (map (λ symbol. str_to_ascii_lowercase (symbol_text symbol)) xs) ≡ false
        → find (λ symbol. str_eq_ignore_ascii_case (symbol_text symbol) word) xs ≡ None)
        → cond test (Some x) (find (λ symbol. str_eq_ignore_ascii_case (symbol_text symbol) word) xs) ≡ None
    by true any others = absurd cc
    by false any others = others any

unreserved : (word : List ℕ) → str_to_ascii_lowercase word ≡ word → is_reserved word ≡ false → reserved_word word ≡ None
unfolding reserved_word
unreserved word lower free =
    none-among word reserved_symbols (ap (list_any (λ other. bytes_eq other (str_to_ascii_lowercase word))) (sym same-words) ∙ ap is_reserved lower ∙ free)

pub record NameParts (b : ℕ) (others : List ℕ) : Type 0 where
  pub letter : is_lower_letter b ≡ true
  pub bytes : list_all is_name_byte others ≡ true
  pub short : leb (length (b ∷ others)) MAX_NAME_LENGTH ≡ true
  pub free : is_reserved (b ∷ others) ≡ false

four : (p q r s : Bool) → (p && q && r && not s) ≡ true → (p ≡ true) × (q ≡ true) × (r ≡ true) × (s ≡ false)
four true true true false h = (refl, refl, refl, refl)
four false q r s h = absurd cc
four true false r s h = absurd cc
four true true false s h = absurd cc
four true true true true h = absurd cc

pub name-parts : (b : ℕ) (others : List ℕ) → is_name (b ∷ others) ≡ true → NameParts b others
name-parts b others h =
    let parts = four (is_lower_letter b) (list_all is_name_byte others) (leb (length (b ∷ others)) MAX_NAME_LENGTH) (is_reserved (b ∷ others)) h in
    record { letter = parts.0; bytes = parts.1; short = parts.2; free = parts.3 }

name-lexes : (word rest : List ℕ) → is_name word ≡ true → Ends is_word_byte rest → Lexes (Word word) rest
unfolding lexeme_at
name-lexes [] rest h ends = absurd cc
name-lexes (b ∷ others) rest h ends =
    let parts = name-parts b others h in
    let all : list_all is_name_byte (b ∷ others) ≡ true = ap (λ test. test && list_all is_name_byte others) (letter-name b parts.letter) ∙ parts.bytes in
    let lower : str_to_ascii_lowercase (b ∷ others) ≡ b ∷ others = lower-same (b ∷ others) all in
    by (lower-letter-is b parts.letter) (words-are (b ∷ others) all) parts.short (unreserved (b ∷ others) lower parts.free) lower
  where
    by : is_ascii_alphabetic b ≡ true → list_all is_word_byte (b ∷ others) ≡ true → leb (length (b ∷ others)) MAX_NAME_LENGTH ≡ true
        → reserved_word (b ∷ others) ≡ None → str_to_ascii_lowercase (b ∷ others) ≡ b ∷ others → Lexes (Word (b ∷ others)) rest
    by letter words short free lower = record {
      first = b;
      others = others;
      spelling = refl;
      seen = letter-seen b letter;
      is = rw letter (word-read (b ∷ others) rest words ends short ∙ ap (λ found. Some (option_map_or Sign found (Word (str_to_ascii_lowercase (b ∷ others))), rest)) free
          ∙ ap (λ name. Some (Word name, rest)) lower);
    }

-- ---- numbers

is-digit : (d : ℕ) → digit_value d < 10 → is_ascii_digit d ≡ true
is-digit d h = let range = digit_from_value d h in grind (arith, nat_tests)

pub are-digits : (ds : List ℕ) → AllDigits 10 ds → list_all is_ascii_digit ds ≡ true
are-digits [] h = refl
are-digits (d ∷ ds) h = let first : is_ascii_digit d ≡ true = is-digit d h.0 in rw first (are-digits ds h.1)

no-letter : (d : ℕ) → is_ascii_digit d ≡ true → is_ascii_alphabetic d ≡ false
no-letter d h = grind (arith, nat_tests)

digit-seen : (d : ℕ) → is_ascii_digit d ≡ true → is_blank d ≡ false
digit-seen d h = grind (arith, nat_tests)

number-read : (ds rest : List ℕ) → list_all is_ascii_digit ds ≡ true → Ends is_ascii_digit rest
    → number_at (ds ++ rest) ≡ option_map (λ lexeme. (lexeme, rest)) (number_lexeme (digits_value 10 ds))
unfolding number_at
number-read ds rest all ends =
    let count : prefix_len is_ascii_digit (ds ++ rest) ≡ length ds = prefix-len is_ascii_digit ds rest all ends in
    let before : take (length ds) (ds ++ rest) ≡ ds = take-append_seam ds rest in
    let after : drop (length ds) (ds ++ rest) ≡ rest = drop-append_seam ds rest in
    rw count (rw (before, after) refl)

digits-lex : (lexeme : Lexeme) (ds rest : List ℕ) → spelled lexeme ≡ ds → 0 < length ds → list_all is_ascii_digit ds ≡ true
    → number_lexeme (digits_value 10 ds) ≡ Some lexeme → Ends is_ascii_digit rest → Lexes lexeme rest
unfolding lexeme_at
digits-lex lexeme [] rest text some all value ends = absurd (omega arith)
digits-lex lexeme (d ∷ ds) rest text some all value ends =
    let digit : is_ascii_digit d ≡ true = (and_parts (is_ascii_digit d) (list_all is_ascii_digit ds) all).0 in
    let letter : is_ascii_alphabetic d ≡ false = no-letter d digit in
    record {
      first = d;
      others = ds;
      spelling = text;
      seen = digit-seen d digit;
      is = rw letter (rw digit (number-read (d ∷ ds) rest all ends ∙ ap (option_map (λ found. (found, rest))) value));
    }

small-number : (n : ℕ) → n < 2 ^ 63 → number_lexeme n ≡ Some (Number n)
small-number n small = let test : ltb n (2 ^ 63) ≡ true = lt-ltb n (2 ^ 63) small in rw test refl

number-lexes : (n : ℕ) (rest : List ℕ) → n < 2 ^ 63 → Ends is_ascii_digit rest → Lexes (Number n) rest
number-lexes n rest small ends =
    let numeral = decimal_is_IsNumeral n (omega arith) in
    digits-lex (Number n) (decimal n) rest refl numeral.0.0 (are-digits (decimal n) numeral.0.1) (ap number_lexeme numeral.1 ∙ small-number n small) ends

big-lexes : (rest : List ℕ) → Ends is_ascii_digit rest → Lexes Big rest
big-lexes rest ends = digits-lex Big (codes "9223372036854775808") rest refl (lit≤ tt) refl refl ends

-- ---- texts

quoted-byte : (b : ℕ) (t : Bool) → eqb b QUOTE ≡ t → is_ascii_control b ≡ false → (bytes : List ℕ) (text : Quoted) → quoted_text bytes ≡ text
    → quoted_text (cond t (QUOTE ∷ QUOTE ∷ []) (b ∷ []) ++ bytes) ≡ with_byte b text
quoted-byte b true e plain bytes text h = let is : b ≡ QUOTE = eqb-true b QUOTE e in ap (with_byte QUOTE) h ∙ ap (λ byte. with_byte byte text) (sym is)
quoted-byte b false e plain bytes text h = rw e (rw plain (ap (with_byte b) h))

closed : (rest : List ℕ) → Ends (λ b. eqb b QUOTE) rest → quoted_text_after_quote rest ≡ Some ([], rest)
closed [] ends = refl
closed (b ∷ rest) ends = rw ends refl

text-read : (text rest : List ℕ) → list_any is_ascii_control text ≡ false → Ends (λ b. eqb b QUOTE) rest
    → quoted_text (flat_map quoted_byte text ++ (QUOTE ∷ rest)) ≡ Some (text, rest)
text-read [] rest plain ends = closed rest ends
text-read (b ∷ text) rest plain ends =
    let parts = or_parts (is_ascii_control b) (list_any is_ascii_control text) plain in
    ap quoted_text (append_assoc (quoted_byte b) (flat_map quoted_byte text) (QUOTE ∷ rest))
    ∙ quoted-byte b (eqb b QUOTE) refl parts.0 (flat_map quoted_byte text ++ (QUOTE ∷ rest)) (Some (text, rest)) (text-read text rest parts.1 ends)

text-lexes : (text rest : List ℕ) → length text ≤ MAX_TEXT_LENGTH → list_any is_ascii_control text ≡ false → Ends (λ b. eqb b QUOTE) rest → Lexes (Text text) rest
unfolding lexeme_at
text-lexes text rest short plain ends = record {
  first = QUOTE;
  others = flat_map quoted_byte text ++ QUOTE ∷ [];
  spelling = refl;
  seen = refl;
  is =
      let small : leb (length text) MAX_TEXT_LENGTH ≡ true = le-leb (length text) MAX_TEXT_LENGTH short in
      ap text_lexeme (ap quoted_text (append_assoc (flat_map quoted_byte text) (QUOTE ∷ []) rest) ∙ text-read text rest plain ends) ∙ (rw small refl);
}

-- ---- the byte after a lexeme

-- the byte is one that the canonical spacing writes after a lexeme that could go on: a space, `)`, `,` or `.`
abbrev is_end : ℕ → Bool
is_end b = (eqb b 32 || eqb b 41) || (eqb b 44 || eqb b 46)

-- no lexeme goes on with these bytes
abbrev pub Follows : List ℕ → Type 0
Follows [] = Unit {0}
Follows (b ∷ bytes) = is_end b ≡ true

word-ends : (rest : List ℕ) → Follows rest → Ends is_word_byte rest
word-ends [] h = tt
word-ends (b ∷ rest) h = by b h
  where
    by : (b : ℕ) → is_end b ≡ true → is_word_byte b ≡ false
    by b h = grind (arith, nat_tests)

digit-ends : (rest : List ℕ) → Follows rest → Ends is_ascii_digit rest
digit-ends [] h = tt
digit-ends (b ∷ rest) h = by b h
  where
    by : (b : ℕ) → is_end b ≡ true → is_ascii_digit b ≡ false
    by b h = grind (arith, nat_tests)

quote-ends : (rest : List ℕ) → Follows rest → Ends (λ b. eqb b QUOTE) rest
quote-ends [] h = tt
quote-ends (b ∷ rest) h = by b h
  where
    by : (b : ℕ) → is_end b ≡ true → eqb b QUOTE ≡ false
    by b h = grind (arith, nat_tests)

-- no sign of two bytes ends with such a byte
no-sign : (b k : ℕ) → is_end b ≡ true → 46 < k → eqb k b ≡ false
no-sign b k h above = grind (arith, nat_tests)

-- ---- symbols

less-read : (rest : List ℕ) → Follows rest → sign_at (60 ∷ rest) ≡ Some (Sign s.Lt, rest)
unfolding sign_at
less-read [] h = refl
less-read (b ∷ rest) h =
    let greater : eqb 62 b ≡ false = no-sign b 62 h (lit≤ tt) in
    let equal : eqb 61 b ≡ false = no-sign b 61 h (lit≤ tt) in
    rw greater (rw equal refl)

greater-read : (rest : List ℕ) → Follows rest → sign_at (62 ∷ rest) ≡ Some (Sign s.Gt, rest)
unfolding sign_at
greater-read [] h = refl
greater-read (b ∷ rest) h = let equal : eqb 61 b ≡ false = no-sign b 61 h (lit≤ tt) in rw equal refl

pub open-lexes : (rest : List ℕ) → Lexes (Sign s.Open) rest
unfolding lexeme_at sign_at symbol_text
open-lexes rest = record { first = 40; others = []; spelling = refl; seen = refl; is = refl }

pub dot-lexes : (rest : List ℕ) → Lexes (Sign s.Dot) rest
unfolding lexeme_at sign_at symbol_text
dot-lexes rest = record { first = 46; others = []; spelling = refl; seen = refl; is = refl }

pub minus-lexes : (rest : List ℕ) → Lexes (Sign s.Minus) rest
unfolding lexeme_at sign_at symbol_text
minus-lexes rest = record { first = 45; others = []; spelling = refl; seen = refl; is = refl }

symbol-lexes : (symbol : Symbol) (rest : List ℕ) → Follows rest → Lexes (Sign symbol) rest
unfolding lexeme_at sign_at reserved_word symbol_text
symbol-lexes s.All rest h = reserved-lexes s.All 65 (codes "LL") rest refl refl refl refl refl (word-ends rest h)
symbol-lexes s.And rest h = reserved-lexes s.And 65 (codes "ND") rest refl refl refl refl refl (word-ends rest h)
symbol-lexes s.As rest h = reserved-lexes s.As 65 (codes "S") rest refl refl refl refl refl (word-ends rest h)
symbol-lexes s.Begin rest h = reserved-lexes s.Begin 66 (codes "EGIN") rest refl refl refl refl refl (word-ends rest h)
symbol-lexes s.Case rest h = reserved-lexes s.Case 67 (codes "ASE") rest refl refl refl refl refl (word-ends rest h)
symbol-lexes s.Commit rest h = reserved-lexes s.Commit 67 (codes "OMMIT") rest refl refl refl refl refl (word-ends rest h)
symbol-lexes s.Create rest h = reserved-lexes s.Create 67 (codes "REATE") rest refl refl refl refl refl (word-ends rest h)
symbol-lexes s.Delete rest h = reserved-lexes s.Delete 68 (codes "ELETE") rest refl refl refl refl refl (word-ends rest h)
symbol-lexes s.Else rest h = reserved-lexes s.Else 69 (codes "LSE") rest refl refl refl refl refl (word-ends rest h)
symbol-lexes s.End rest h = reserved-lexes s.End 69 (codes "ND") rest refl refl refl refl refl (word-ends rest h)
symbol-lexes s.From rest h = reserved-lexes s.From 70 (codes "ROM") rest refl refl refl refl refl (word-ends rest h)
symbol-lexes s.Insert rest h = reserved-lexes s.Insert 73 (codes "NSERT") rest refl refl refl refl refl (word-ends rest h)
symbol-lexes s.Int rest h = reserved-lexes s.Int 73 (codes "NT") rest refl refl refl refl refl (word-ends rest h)
symbol-lexes s.Into rest h = reserved-lexes s.Into 73 (codes "NTO") rest refl refl refl refl refl (word-ends rest h)
symbol-lexes s.Is rest h = reserved-lexes s.Is 73 (codes "S") rest refl refl refl refl refl (word-ends rest h)
symbol-lexes s.Not rest h = reserved-lexes s.Not 78 (codes "OT") rest refl refl refl refl refl (word-ends rest h)
symbol-lexes s.Null rest h = reserved-lexes s.Null 78 (codes "ULL") rest refl refl refl refl refl (word-ends rest h)
symbol-lexes s.Or rest h = reserved-lexes s.Or 79 (codes "R") rest refl refl refl refl refl (word-ends rest h)
symbol-lexes s.Rollback rest h = reserved-lexes s.Rollback 82 (codes "OLLBACK") rest refl refl refl refl refl (word-ends rest h)
symbol-lexes s.Select rest h = reserved-lexes s.Select 83 (codes "ELECT") rest refl refl refl refl refl (word-ends rest h)
symbol-lexes s.Set rest h = reserved-lexes s.Set 83 (codes "ET") rest refl refl refl refl refl (word-ends rest h)
symbol-lexes s.Table rest h = reserved-lexes s.Table 84 (codes "ABLE") rest refl refl refl refl refl (word-ends rest h)
symbol-lexes s.Text rest h = reserved-lexes s.Text 84 (codes "EXT") rest refl refl refl refl refl (word-ends rest h)
symbol-lexes s.Then rest h = reserved-lexes s.Then 84 (codes "HEN") rest refl refl refl refl refl (word-ends rest h)
symbol-lexes s.True rest h = reserved-lexes s.True 84 (codes "RUE") rest refl refl refl refl refl (word-ends rest h)
symbol-lexes s.Union rest h = reserved-lexes s.Union 85 (codes "NION") rest refl refl refl refl refl (word-ends rest h)
symbol-lexes s.Update rest h = reserved-lexes s.Update 85 (codes "PDATE") rest refl refl refl refl refl (word-ends rest h)
symbol-lexes s.Values rest h = reserved-lexes s.Values 86 (codes "ALUES") rest refl refl refl refl refl (word-ends rest h)
symbol-lexes s.When rest h = reserved-lexes s.When 87 (codes "HEN") rest refl refl refl refl refl (word-ends rest h)
symbol-lexes s.Where rest h = reserved-lexes s.Where 87 (codes "HERE") rest refl refl refl refl refl (word-ends rest h)
symbol-lexes s.Open rest h = open-lexes rest
symbol-lexes s.Close rest h = record { first = 41; others = []; spelling = refl; seen = refl; is = refl }
symbol-lexes s.Comma rest h = record { first = 44; others = []; spelling = refl; seen = refl; is = refl }
symbol-lexes s.Dot rest h = dot-lexes rest
symbol-lexes s.Colon rest h = record { first = 58; others = []; spelling = refl; seen = refl; is = refl }
symbol-lexes s.Semicolon rest h = record { first = 59; others = []; spelling = refl; seen = refl; is = refl }
symbol-lexes s.Plus rest h = record { first = 43; others = []; spelling = refl; seen = refl; is = refl }
symbol-lexes s.Minus rest h = minus-lexes rest
symbol-lexes s.Star rest h = record { first = 42; others = []; spelling = refl; seen = refl; is = refl }
symbol-lexes s.Eq rest h = record { first = 61; others = []; spelling = refl; seen = refl; is = refl }
symbol-lexes s.Ne rest h = record { first = 60; others = 62 ∷ []; spelling = refl; seen = refl; is = refl }
symbol-lexes s.Lt rest h = record { first = 60; others = []; spelling = refl; seen = refl; is = less-read rest h }
symbol-lexes s.Le rest h = record { first = 60; others = 61 ∷ []; spelling = refl; seen = refl; is = refl }
symbol-lexes s.Gt rest h = record { first = 62; others = []; spelling = refl; seen = refl; is = greater-read rest h }
symbol-lexes s.Ge rest h = record { first = 62; others = 61 ∷ []; spelling = refl; seen = refl; is = refl }

pub lexes : (lexeme : Lexeme) (rest : List ℕ) → IsProper lexeme → Follows rest → Lexes lexeme rest
lexes (Sign symbol) rest proper h = symbol-lexes symbol rest h
lexes (Word word) rest proper h = name-lexes word rest proper (word-ends rest h)
lexes (Number n) rest proper h = number-lexes n rest proper (digit-ends rest h)
lexes Big rest proper h = big-lexes rest (digit-ends rest h)
lexes (Text text) rest proper h = text-lexes text rest proper.0 proper.1 (quote-ends rest h)
