-- The layout of proper lexemes has no line feed.
use Rattle.gp_grammar.proofs.Prelude.{◌≡◌, ℕ, ◌<◌, Bool, true, false, cond, eqb, List, [], ◌∷◌, ◌++◌, refl, arith, is_ascii_control, decimal, flat_map, list_all, digits_value, nat_tests, is_lower_letter, is_name_byte, is_name, quoted_byte, Symbol, Lexeme, Sign, Word, Number, Big, Text, spelled, IsProper, AreProper, has_space, Page, empty_page, spaced, put, laid_out, or_parts}
use Rattle.std.proofs.Common.{◌^◌}
use Rattle.std.specs.Char.{digit_value}
use Rattle.std.specs.List.{list_any}
use Rattle.std.specs.Str.Parse.{AllDigits}
use Rattle.std.proofs.lemmas.Fmt.{digits_decimal}
use Rattle.std.proofs.lemmas.Str.Parse.{IsNumeralModel}
use Rattle.gp_lexer.specs.declared.lexeme.Symbol.TheVariants as s
use Rattle.gp_lexer.specs.Lexemes.{symbol_text}
use Rattle.gp_lexer.specs.Layout.{written}
use Rattle.std.proofs.lemmas.Bool.{and_parts, or_from}

-- a byte list has a line feed
abbrev pub has_line_feed : List ℕ → Bool
has_line_feed = list_any (λ b. eqb b 10)

both : (a b : List ℕ) → has_line_feed a ≡ false → has_line_feed b ≡ false → has_line_feed (a ++ b) ≡ false
both [] b h k = k
both (c ∷ a) b h k =
    let w : (eqb c 10 ≡ false) × (has_line_feed a ≡ false) = or_parts (eqb c 10) (has_line_feed a) h in
    or_from (eqb c 10) (has_line_feed (a ++ b)) w.0 (both a b w.1 k)

symbol-plain : (symbol : Symbol) → has_line_feed (symbol_text symbol) ≡ false
unfolding symbol_text
symbol-plain s.All = refl
symbol-plain _ = refl

name_byte-plain : (c : ℕ) → is_name_byte c ≡ true → eqb c 10 ≡ false
name_byte-plain c e = grind (arith, nat_tests)

letter-plain : (c : ℕ) → is_lower_letter c ≡ true → eqb c 10 ≡ false
letter-plain c e = grind (arith, nat_tests)

names-plain : (bytes : List ℕ) → list_all is_name_byte bytes ≡ true → has_line_feed bytes ≡ false
names-plain [] h = refl
names-plain (c ∷ bytes) h =
    let w : (is_name_byte c ≡ true) × (list_all is_name_byte bytes ≡ true) = and_parts _ _ h in
    or_from (eqb c 10) (has_line_feed bytes) (name_byte-plain c w.0) (names-plain bytes w.1)

word-plain : (word : List ℕ) → is_name word ≡ true → has_line_feed word ≡ false
word-plain [] h = refl
word-plain (c ∷ bytes) h =
    let x : (is_lower_letter c ≡ true) × (list_all is_name_byte bytes ≡ true) = and_parts _ _ (and_parts _ _ (and_parts _ _ h).0).0 in
    or_from (eqb c 10) (has_line_feed bytes) (letter-plain c x.0) (names-plain bytes x.1)

digit-plain : (c : ℕ) → digit_value c < 10 → eqb c 10 ≡ false
digit-plain c h = grind (arith, nat_tests)

digits-plain : (bytes : List ℕ) → AllDigits 10 bytes → has_line_feed bytes ≡ false
digits-plain [] h = refl
digits-plain (c ∷ bytes) h = or_from (eqb c 10) (has_line_feed bytes) (digit-plain c h.0) (digits-plain bytes h.1)

decimal-digits : (n : ℕ) → n < 2 ^ 64 → AllDigits 10 (decimal n)
decimal-digits n h =
    let own : IsNumeralModel (AllDigits 10) (digits_value 10) = record { to = λ ds d. d; from = λ ds d. d; same = λ ds d. refl } in
    digits_decimal own n h

control-plain : (c : ℕ) → is_ascii_control c ≡ false → eqb c 10 ≡ false
control-plain c e = grind (arith, nat_tests)

quoted-plain : (c : ℕ) → eqb c 10 ≡ false → has_line_feed (quoted_byte c) ≡ false
quoted-plain c e = by (eqb c 39)
  where
    by : (t : Bool) → has_line_feed (cond t (39 ∷ 39 ∷ []) (c ∷ [])) ≡ false
    by true = refl
    by false = or_from (eqb c 10) false e refl

text-plain : (text : List ℕ) → list_any is_ascii_control text ≡ false → has_line_feed (flat_map quoted_byte text) ≡ false
text-plain [] h = refl
text-plain (c ∷ text) h =
    let w : (is_ascii_control c ≡ false) × (list_any is_ascii_control text ≡ false) = or_parts _ _ h in
    both (quoted_byte c) (flat_map quoted_byte text) (quoted-plain c (control-plain c w.0)) (text-plain text w.1)

spelled-plain : (lexeme : Lexeme) → IsProper lexeme → has_line_feed (spelled lexeme) ≡ false
spelled-plain (Sign symbol) h = symbol-plain symbol
spelled-plain (Word word) h = word-plain word h
spelled-plain (Number n) h = digits-plain (decimal n) (decimal-digits n (omega arith))
spelled-plain Big h = refl
spelled-plain (Text text) h = both (flat_map quoted_byte text) (39 ∷ []) (text-plain text h.1) refl

spaced-plain : (space : Bool) (text : List ℕ) → has_line_feed text ≡ false → has_line_feed (spaced space text) ≡ false
spaced-plain true text h = h
spaced-plain false text h = h

written-plain : (lexemes : List Lexeme) (page : Page) → has_line_feed page.text ≡ false → AreProper lexemes → has_line_feed (written page lexemes).text ≡ false
unfolding written
written-plain [] page u h = u
written-plain (lexeme ∷ lexemes) page u h = written-plain lexemes (put page lexeme)
    (both page.text (spaced (has_space page.gap lexeme) (spelled lexeme)) u (spaced-plain (has_space page.gap lexeme) (spelled lexeme) (spelled-plain lexeme h.0))) h.1

-- the layout of proper lexemes is one line
pub laid_out-plain : (lexemes : List Lexeme) → AreProper lexemes → has_line_feed (laid_out lexemes) ≡ false
laid_out-plain lexemes h = written-plain lexemes empty_page refl h
