-- The canonical text of lexemes has no control character, and it is UTF-8 if its texts are. All other lexemes are spelled in graphic
-- ASCII characters.
use Rattle.std.proofs.Common.{◌≡◌, ℕ, ◌<◌, ◌^◌, Bool, true, false, cond, ◌&&◌, eqb, List, [], ◌∷◌, ◌++◌, codes, refl, sym, ap, subst, arith, ◌∙◌, append_assoc, lit≤}
use Rattle.std.proofs.lemmas.Bool.{eqb-true, and_parts, or_parts}
use Rattle.std.proofs.lemmas.Bool.Decides.{nat_tests}
use Rattle.std.proofs.lemmas.Fmt.{decimal_is_IsNumeral}
use Rattle.std.proofs.lemmas.List.Folds.{list_any-append}
use Rattle.std.proofs.lemmas.Str.{IsUtf8-nil, IsUtf8-append, IsUtf8-from_ascii}
use Rattle.std.proofs.lemmas.Str.Ascii.{IsAscii-cons, IsAscii-nil}
use Rattle.std.specs.Char.{is_ascii_control, is_ascii_digit, is_ascii_graphic}
use Rattle.std.specs.Fmt.{decimal}
use Rattle.std.specs.List.{flat_map, list_all, list_any}
use Rattle.std.specs.Str.{IsAscii, IsUtf8}
use Rattle.gp_base.specs.Names.{is_name_byte, is_name}
use Rattle.gp_base.specs.Texts.{quoted_byte}
use Rattle.gp_lexer.specs.declared.gap.Gap.{Gap}
use Rattle.gp_lexer.specs.declared.gap.Gap.TheVariants.{Start}
use Rattle.gp_lexer.specs.declared.lexeme.Symbol.{Symbol}
use Rattle.gp_lexer.specs.declared.lexeme.Symbol.TheVariants as s
use Rattle.gp_lexer.specs.declared.lexeme.Lexeme.{Lexeme}
use Rattle.gp_lexer.specs.declared.lexeme.Lexeme.TheVariants.{Symbol as Sign, Word, Number, Big, Text}
use Rattle.gp_lexer.specs.declared.lexeme.TheConstants.{QUOTE}
use Rattle.gp_lexer.specs.Layout.{has_space, next_gap, empty_page, spaced, laid_out}
use Rattle.gp_lexer.specs.Lexemes.{symbol_text, spelled}
use Rattle.gp_lexer.specs.ProperLexemes.{IsProper, AreProper, HasUtf8Text, HaveUtf8Texts}
use Rattle.gp_lexer.proofs.LayoutLemmas.{added, written-added}
use Rattle.gp_lexer.proofs.SpellingLemmas.{letter-name, name-parts, are-digits}
use Rattle.gp_lexer.proofs.Utf8Lemmas.{cut-utf8}

-- ---- graphic ASCII characters

graphic-plain : (b : ℕ) → is_ascii_graphic b ≡ true → is_ascii_control b ≡ false
graphic-plain b h = grind (arith, nat_tests)

graphic-low : (b : ℕ) → is_ascii_graphic b ≡ true → b < 128
graphic-low b h = grind (arith, nat_tests)

graphic-name : (b : ℕ) → is_name_byte b ≡ true → is_ascii_graphic b ≡ true
graphic-name b h = grind (arith, nat_tests)

graphic-digit : (b : ℕ) → is_ascii_digit b ≡ true → is_ascii_graphic b ≡ true
graphic-digit b h = grind (arith, nat_tests)

all-graphic : (test : ℕ → Bool) → ((b : ℕ) → test b ≡ true → is_ascii_graphic b ≡ true) → (bytes : List ℕ) → list_all test bytes ≡ true → list_all is_ascii_graphic bytes ≡ true
all-graphic test each [] h = refl
all-graphic test each (b ∷ bytes) h =
    let parts = and_parts (test b) (list_all test bytes) h in
    let first : is_ascii_graphic b ≡ true = each b parts.0 in
    rw first (all-graphic test each bytes parts.1)

all-plain : (bytes : List ℕ) → list_all is_ascii_graphic bytes ≡ true → list_any is_ascii_control bytes ≡ false
all-plain [] h = refl
all-plain (b ∷ bytes) h =
    let parts = and_parts (is_ascii_graphic b) (list_all is_ascii_graphic bytes) h in
    let first : is_ascii_control b ≡ false = graphic-plain b parts.0 in
    rw first (all-plain bytes parts.1)

all-ascii : (bytes : List ℕ) → list_all is_ascii_graphic bytes ≡ true → IsAscii bytes
all-ascii [] h = IsAscii-nil
all-ascii (b ∷ bytes) h =
    let parts = and_parts (is_ascii_graphic b) (list_all is_ascii_graphic bytes) h in
    IsAscii-cons b bytes (graphic-low b parts.0) (all-ascii bytes parts.1)

all-utf8 : (bytes : List ℕ) → list_all is_ascii_graphic bytes ≡ true → IsUtf8 bytes
all-utf8 bytes h = IsUtf8-from_ascii bytes (all-ascii bytes h)

-- ---- lexemes that are no texts

symbol-graphic : (symbol : Symbol) → list_all is_ascii_graphic (symbol_text symbol) ≡ true
unfolding symbol_text
symbol-graphic s.All = refl
symbol-graphic s.And = refl
symbol-graphic s.As = refl
symbol-graphic s.Begin = refl
symbol-graphic s.Case = refl
symbol-graphic s.Commit = refl
symbol-graphic s.Create = refl
symbol-graphic s.Delete = refl
symbol-graphic s.Else = refl
symbol-graphic s.End = refl
symbol-graphic s.From = refl
symbol-graphic s.Insert = refl
symbol-graphic s.Int = refl
symbol-graphic s.Into = refl
symbol-graphic s.Is = refl
symbol-graphic s.Not = refl
symbol-graphic s.Null = refl
symbol-graphic s.Or = refl
symbol-graphic s.Rollback = refl
symbol-graphic s.Select = refl
symbol-graphic s.Set = refl
symbol-graphic s.Table = refl
symbol-graphic s.Text = refl
symbol-graphic s.Then = refl
symbol-graphic s.True = refl
symbol-graphic s.Union = refl
symbol-graphic s.Update = refl
symbol-graphic s.Values = refl
symbol-graphic s.When = refl
symbol-graphic s.Where = refl
symbol-graphic s.Open = refl
symbol-graphic s.Close = refl
symbol-graphic s.Comma = refl
symbol-graphic s.Dot = refl
symbol-graphic s.Colon = refl
symbol-graphic s.Semicolon = refl
symbol-graphic s.Plus = refl
symbol-graphic s.Minus = refl
symbol-graphic s.Star = refl
symbol-graphic s.Eq = refl
symbol-graphic s.Ne = refl
symbol-graphic s.Lt = refl
symbol-graphic s.Le = refl
symbol-graphic s.Gt = refl
symbol-graphic s.Ge = refl

word-graphic : (word : List ℕ) → is_name word ≡ true → list_all is_ascii_graphic word ≡ true
word-graphic [] h = absurd cc
word-graphic (b ∷ others) h =
    let parts = name-parts b others h in
    let all : list_all is_name_byte (b ∷ others) ≡ true = ap (λ test. test && list_all is_name_byte others) (letter-name b parts.letter) ∙ parts.bytes in
    all-graphic is_name_byte graphic-name (b ∷ others) all

number-graphic : (n : ℕ) → n < 2 ^ 63 → list_all is_ascii_graphic (decimal n) ≡ true
number-graphic n small = all-graphic is_ascii_digit graphic-digit (decimal n) (are-digits (decimal n) (decimal_is_IsNumeral n (omega arith)).0.1)

-- ---- control characters

both-plain : (xs ys : List ℕ) → list_any is_ascii_control xs ≡ false → list_any is_ascii_control ys ≡ false → list_any is_ascii_control (xs ++ ys) ≡ false
both-plain xs ys h i = list_any-append is_ascii_control xs ys ∙ (rw (h, i) refl)

quoted-plain : (text : List ℕ) → list_any is_ascii_control text ≡ false → list_any is_ascii_control (flat_map quoted_byte text) ≡ false
quoted-plain [] h = refl
quoted-plain (b ∷ text) h =
    let parts = or_parts (is_ascii_control b) (list_any is_ascii_control text) h in
    both-plain (quoted_byte b) (flat_map quoted_byte text) (by (eqb b QUOTE) parts.0) (quoted-plain text parts.1)
  where
    by : (t : Bool) → is_ascii_control b ≡ false → list_any is_ascii_control (cond t (QUOTE ∷ QUOTE ∷ []) (b ∷ [])) ≡ false
    by true plain = refl
    by false plain = rw plain refl

spelled-plain : (lexeme : Lexeme) → IsProper lexeme → list_any is_ascii_control (spelled lexeme) ≡ false
spelled-plain (Sign symbol) h = all-plain (symbol_text symbol) (symbol-graphic symbol)
spelled-plain (Word word) h = all-plain word (word-graphic word h)
spelled-plain (Number n) h = all-plain (decimal n) (number-graphic n h)
spelled-plain Big h = refl
spelled-plain (Text text) h = both-plain (flat_map quoted_byte text) (QUOTE ∷ []) (quoted-plain text h.1) refl

added-plain : (gap : Gap) (lexemes : List Lexeme) → AreProper lexemes → list_any is_ascii_control (added gap lexemes) ≡ false
added-plain gap [] h = refl
added-plain gap (lexeme ∷ lexemes) h =
    both-plain (spaced (has_space gap lexeme) (spelled lexeme)) (added (next_gap gap lexeme) lexemes) (by (has_space gap lexeme)) (added-plain (next_gap gap lexeme) lexemes h.1)
  where
    by : (space : Bool) → list_any is_ascii_control (spaced space (spelled lexeme)) ≡ false
    by true = spelled-plain lexeme h.0
    by false = spelled-plain lexeme h.0

pub laid_out-plain : (lexemes : List Lexeme) → AreProper lexemes → list_any is_ascii_control (laid_out lexemes) ≡ false
laid_out-plain lexemes h = ap (list_any is_ascii_control) (written-added empty_page lexemes) ∙ added-plain Start lexemes h

-- ---- UTF-8

quote-utf8 : IsUtf8 (QUOTE ∷ [])
quote-utf8 = all-utf8 (QUOTE ∷ []) refl

-- a text that is UTF-8 behind others is UTF-8 behind them with its quotes doubled
quoted-utf8 : (text front : List ℕ) → IsUtf8 (front ++ text) → IsUtf8 (front ++ flat_map quoted_byte text)
quoted-utf8 [] front h = h
quoted-utf8 (b ∷ text) front h = by (eqb b QUOTE) refl (λ more. quoted-utf8 text more)
  where
    by : (t : Bool) → eqb b QUOTE ≡ t → ((more : List ℕ) → IsUtf8 (more ++ text) → IsUtf8 (more ++ flat_map quoted_byte text))
        → IsUtf8 (front ++ (cond t (QUOTE ∷ QUOTE ∷ []) (b ∷ []) ++ flat_map quoted_byte text))
    by true e others =
        let parts = cut-utf8 front QUOTE text (lit≤ tt) (subst (λ byte. IsUtf8 (front ++ (byte ∷ text))) (eqb-true b QUOTE e) h) in
        let more : IsUtf8 (front ++ (QUOTE ∷ QUOTE ∷ [])) = IsUtf8-append front (QUOTE ∷ QUOTE ∷ []) parts.0 (all-utf8 (QUOTE ∷ QUOTE ∷ []) refl) in
        subst IsUtf8 (append_assoc front (QUOTE ∷ QUOTE ∷ []) (flat_map quoted_byte text)) (others (front ++ (QUOTE ∷ QUOTE ∷ [])) (IsUtf8-append (front ++ (QUOTE ∷ QUOTE ∷ [])) text more parts.1))
    by false e others =
        subst IsUtf8 (append_assoc front (b ∷ []) (flat_map quoted_byte text)) (others (front ++ b ∷ []) (subst IsUtf8 (sym (append_assoc front (b ∷ []) text)) h))

spelled-utf8 : (lexeme : Lexeme) → IsProper lexeme → HasUtf8Text lexeme → IsUtf8 (spelled lexeme)
spelled-utf8 (Sign symbol) h text = all-utf8 (symbol_text symbol) (symbol-graphic symbol)
spelled-utf8 (Word word) h text = all-utf8 word (word-graphic word h)
spelled-utf8 (Number n) h text = all-utf8 (decimal n) (number-graphic n h)
spelled-utf8 Big h text = all-utf8 (codes "9223372036854775808") refl
spelled-utf8 (Text bytes) h text =
    IsUtf8-append (QUOTE ∷ []) (flat_map quoted_byte bytes ++ QUOTE ∷ []) quote-utf8 (IsUtf8-append (flat_map quoted_byte bytes) (QUOTE ∷ []) (quoted-utf8 bytes [] text) quote-utf8)

added-utf8 : (gap : Gap) (lexemes : List Lexeme) → AreProper lexemes → HaveUtf8Texts lexemes → IsUtf8 (added gap lexemes)
added-utf8 gap [] h texts = IsUtf8-nil
added-utf8 gap (lexeme ∷ lexemes) h texts =
    IsUtf8-append (spaced (has_space gap lexeme) (spelled lexeme)) (added (next_gap gap lexeme) lexemes) (by (has_space gap lexeme)) (added-utf8 (next_gap gap lexeme) lexemes h.1 texts.1)
  where
    space : IsUtf8 (32 ∷ [])
    space = IsUtf8-from_ascii (32 ∷ []) (IsAscii-cons 32 [] (lit≤ tt) IsAscii-nil)

    by : (space : Bool) → IsUtf8 (spaced space (spelled lexeme))
    by true = IsUtf8-append (32 ∷ []) (spelled lexeme) space (spelled-utf8 lexeme h.0 texts.0)
    by false = spelled-utf8 lexeme h.0 texts.0

pub laid_out-utf8 : (lexemes : List Lexeme) → AreProper lexemes → HaveUtf8Texts lexemes → IsUtf8 (laid_out lexemes)
laid_out-utf8 lexemes h texts = subst IsUtf8 (sym (written-added empty_page lexemes)) (added-utf8 Start lexemes h texts)
