-- The texts of a UTF-8 line are UTF-8. Bytes below 128 stand between characters, so a UTF-8 text can be cut before and after each.
use Rattle.std.proofs.Common.{◌≡◌, ℕ, zero, suc, ◌<◌, ◌^◌, Bool, true, false, cond, eqb, ltb, leb, List, [], ◌∷◌, ◌++◌, length, drop, get_or, Option, Some, None, Ok, Err, refl, sym, subst, arith, append_assoc, length-append, lit≤, nat_eq}
use Rattle.std.proofs.Math.Seq.{get_or-append_seam, take-append_seam, drop-append_seam}
use Rattle.std.proofs.lemmas.Bool.{eqb-true}
use Rattle.std.proofs.lemmas.Bool.Decides.{Decides-eqb, nat_tests}
use Rattle.std.proofs.lemmas.List.{append-nil, take-append-drop}
use Rattle.std.proofs.lemmas.List.Sums.{take_while-cons}
use Rattle.std.proofs.lemmas.Slice.Eq.{starts_is}
use Rattle.std.proofs.lemmas.Str.{IsUtf8-append, IsUtf8-drop, IsUtf8-take, IsUtf8-from_ascii, IsCharBoundary-after_ascii, IsCharBoundary-before_ascii}
use Rattle.std.proofs.lemmas.Str.Ascii.{IsAscii-cons, IsAscii-nil}
use Rattle.std.specs.Char.{is_ascii_alphabetic, is_ascii_control, is_ascii_digit}
use Rattle.std.specs.List.{AllByRecursion, prefix_len, starts_with, take_while}
use Rattle.std.specs.Option.{option_map, option_map_or}
use Rattle.std.specs.Result.{result_ok}
use Rattle.std.specs.Str.{IsUtf8, str_to_ascii_lowercase}
use Rattle.std.specs.Str.Parse.{digits_value}
use Rattle.gp_base.specs.declared.name.TheConstants.{MAX_NAME_LENGTH}
use Rattle.gp_lexer.specs.declared.lexeme.Symbol.{Symbol}
use Rattle.gp_lexer.specs.declared.lexeme.Lexeme.{Lexeme}
use Rattle.gp_lexer.specs.declared.lexeme.Lexeme.TheVariants.{Symbol as Sign, Word, Number, Big, Text}
use Rattle.gp_base.specs.declared.text.TheConstants.{MAX_TEXT_LENGTH}
use Rattle.gp_lexer.specs.declared.lexeme.TheConstants.{QUOTE}
use Rattle.gp_lexer.specs.ProperLexemes.{HasUtf8Text, HaveUtf8Texts}
use Rattle.gp_lexer.specs.Lexing.{Scanned, Quoted, is_word_byte, reserved_word, word_lexeme, word_at, number_at, with_byte, quoted_text, quoted_text_after_quote, text_lexeme, signs, sign_among, sign_at, is_blank, lexeme_at, Lexed, with_lexeme, lexed_at, column_of, lexed_from, lexed}
use Rattle.gp_lexer.specs.LexResults.{lexemes_of}
use Rattle.gp_lexer.proofs.TextLemmas.{with_bytes, with_bytes-with_byte, with_bytes-nil}

-- ---- cutting at bytes below 128

tail-utf8 : (b : ℕ) (bytes : List ℕ) → b < 128 → IsUtf8 (b ∷ bytes) → IsUtf8 bytes
tail-utf8 b bytes low h = IsUtf8-drop (b ∷ bytes) 1 h (IsCharBoundary-after_ascii (b ∷ bytes) 0 h (omega arith) low)

pub cut-utf8 : (front : List ℕ) (b : ℕ) (bytes : List ℕ) → b < 128 → IsUtf8 (front ++ (b ∷ bytes)) → IsUtf8 front × IsUtf8 bytes
cut-utf8 front b bytes low h =
    let byte : get_or (front ++ (b ∷ bytes)) (length front) 0 ≡ b = get_or-append_seam front b bytes 0 in
    let inside : length front < length (front ++ (b ∷ bytes)) = simp length-append (omega arith) in
    let boundary = IsCharBoundary-before_ascii (front ++ (b ∷ bytes)) (length front) inside (omega arith) in (
      subst IsUtf8 (take-append_seam front (b ∷ bytes)) (IsUtf8-take (front ++ (b ∷ bytes)) (length front) h boundary),
      tail-utf8 b bytes low (subst IsUtf8 (drop-append_seam front (b ∷ bytes)) (IsUtf8-drop (front ++ (b ∷ bytes)) (length front) h boundary)),
    )

abbrev AreLow : List ℕ → Type 0
AreLow = AllByRecursion (λ b. b < 128)

behind-utf8 : (front bytes : List ℕ) → AreLow front → IsUtf8 (front ++ bytes) → IsUtf8 bytes
behind-utf8 [] bytes low h = h
behind-utf8 (b ∷ front) bytes low h = behind-utf8 front bytes low.1 (tail-utf8 b (front ++ bytes) low.0 h)

passing-low : (test : ℕ → Bool) → ((b : ℕ) → test b ≡ true → b < 128) → (bytes : List ℕ) → AreLow (take_while test bytes)
passing-low test low [] = tt
passing-low test low (b ∷ bytes) = subst AreLow (sym (take_while-cons test b bytes)) (by (test b) refl (passing-low test low bytes))
  where
    by : (t : Bool) → test b ≡ t → AreLow (take_while test bytes) → AreLow (cond t (b ∷ take_while test bytes) [])
    by true e others = (low b e, others)
    by false e others = tt

pub after-utf8 : (test : ℕ → Bool) → ((b : ℕ) → test b ≡ true → b < 128) → (bytes : List ℕ) → IsUtf8 bytes → IsUtf8 (drop (prefix_len test bytes) bytes)
after-utf8 test low bytes h =
    behind-utf8 (take_while test bytes) (drop (prefix_len test bytes) bytes) (passing-low test low bytes) (subst IsUtf8 (sym (take-append-drop (prefix_len test bytes) bytes)) h)

-- ---- lexemes

-- the lexeme and the bytes after it, if there are any, are UTF-8
abbrev HoldsUtf8 : Scanned → Type 0
HoldsUtf8 None = Unit {0}
HoldsUtf8 (Some found) = HasUtf8Text found.0 × IsUtf8 found.1

word-low : (b : ℕ) → is_word_byte b ≡ true → b < 128
word-low b h = grind (arith, nat_tests)

digit-low : (b : ℕ) → is_ascii_digit b ≡ true → b < 128
digit-low b h = grind (arith, nat_tests)

no-text : (found : Option Symbol) (name : List ℕ) → HasUtf8Text (option_map_or Sign found (Word name))
no-text None name = tt
no-text (Some symbol) name = tt

word-utf8 : (bytes : List ℕ) → IsUtf8 bytes → HoldsUtf8 (word_at bytes)
unfolding word_at
word-utf8 bytes h = by (leb (prefix_len is_word_byte bytes) MAX_NAME_LENGTH) (after-utf8 is_word_byte word-low bytes h)
  where
    by : (short : Bool) → IsUtf8 (drop (prefix_len is_word_byte bytes) bytes)
        → HoldsUtf8 (cond short (Some (word_lexeme (take_while is_word_byte bytes), drop (prefix_len is_word_byte bytes) bytes)) None)
    by true rest = (no-text (reserved_word (take_while is_word_byte bytes)) (str_to_ascii_lowercase (take_while is_word_byte bytes)), rest)
    by false rest = tt

number-utf8 : (bytes : List ℕ) → IsUtf8 bytes → HoldsUtf8 (number_at bytes)
unfolding number_at
number-utf8 bytes h =
    let value = digits_value 10 (take_while is_ascii_digit bytes) in
    by value (ltb value (2 ^ 63)) (eqb value (2 ^ 63)) (after-utf8 is_ascii_digit digit-low bytes h)
  where
    by : (value : ℕ) (small big : Bool) → IsUtf8 (drop (prefix_len is_ascii_digit bytes) bytes)
        → HoldsUtf8 (option_map (λ lexeme. (lexeme, drop (prefix_len is_ascii_digit bytes) bytes)) (cond small (Some (Number value)) (cond big (Some Big) None)))
    by value true big rest = (tt, rest)
    by value false true rest = (tt, rest)
    by value false false rest = tt

sign-utf8 : (signs : List (List ℕ × Symbol)) → AllByRecursion (λ sign. AreLow sign.0) signs → (bytes : List ℕ) → IsUtf8 bytes → HoldsUtf8 (sign_among signs bytes)
sign-utf8 [] low bytes h = tt
sign-utf8 (x ∷ xs) low bytes h = by (starts_with nat_eq bytes x.0) refl (sign-utf8 xs low.1 bytes h)
  where
    by : (test : Bool) → starts_with nat_eq bytes x.0 ≡ test → HoldsUtf8 (sign_among xs bytes)
        → HoldsUtf8 (cond test (Some (Sign x.1, drop (length x.0) bytes)) (sign_among xs bytes))
    by true e others =
        let split : bytes ≡ x.0 ++ drop (length x.0) bytes = (starts_is Decides-eqb bytes x.0 true (sym e)).0 refl in
        (tt, behind-utf8 x.0 (drop (length x.0) bytes) low.0 (subst IsUtf8 split h))
    by false e others = others

signs-low : AllByRecursion (λ (sign : List ℕ × Symbol). AreLow sign.0) signs
signs-low = (
  (lit≤ tt, tt),
  (
    (lit≤ tt, tt),
    (
      (lit≤ tt, tt),
      (
        (lit≤ tt, tt),
        (
          (lit≤ tt, tt),
          (
            (lit≤ tt, tt),
            (
              (lit≤ tt, tt),
              (
                (lit≤ tt, tt),
                (
                  (lit≤ tt, tt),
                  (
                    (lit≤ tt, tt),
                    ((lit≤ tt, (lit≤ tt, tt)), ((lit≤ tt, (lit≤ tt, tt)), ((lit≤ tt, tt), ((lit≤ tt, (lit≤ tt, tt)), ((lit≤ tt, tt), ((lit≤ tt, (lit≤ tt, tt)), tt)))))),
                  ),
                ),
              ),
            ),
          ),
        ),
      ),
    ),
  ),
)

-- ---- texts

abbrev HoldsUtf8Parts : Quoted → Type 0
HoldsUtf8Parts None = Unit {0}
HoldsUtf8Parts (Some text) = IsUtf8 text.0 × IsUtf8 text.1

quote-utf8 : IsUtf8 (QUOTE ∷ [])
quote-utf8 = IsUtf8-from_ascii (QUOTE ∷ []) (IsAscii-cons QUOTE [] (lit≤ tt) IsAscii-nil)

-- what the bytes are read as, where the value so far and they are UTF-8 in a row
abbrev TextUtf8 : List ℕ → Type 0
TextUtf8 bytes = (front : List ℕ) → IsUtf8 (front ++ bytes) → HoldsUtf8Parts (with_bytes front (quoted_text bytes))

abbrev AfterUtf8 : List ℕ → Type 0
AfterUtf8 bytes = (front : List ℕ) → IsUtf8 (front ++ (QUOTE ∷ bytes)) → HoldsUtf8Parts (with_bytes front (quoted_text_after_quote bytes))

one-more : (b : ℕ) (bytes front : List ℕ) → TextUtf8 bytes → IsUtf8 ((front ++ b ∷ []) ++ bytes) → HoldsUtf8Parts (with_bytes front (with_byte b (quoted_text bytes)))
one-more b bytes front text h = subst HoldsUtf8Parts (sym (with_bytes-with_byte front b (quoted_text bytes))) (text (front ++ b ∷ []) h)

text-cases : (b : ℕ) (bytes : List ℕ) (t u : Bool) → eqb b QUOTE ≡ t → TextUtf8 bytes → AfterUtf8 bytes → (front : List ℕ) → IsUtf8 (front ++ (b ∷ bytes))
    → HoldsUtf8Parts (with_bytes front (cond t (quoted_text_after_quote bytes) (cond u None (with_byte b (quoted_text bytes)))))
text-cases b bytes true u e text after front h = after front (subst (λ byte. IsUtf8 (front ++ (byte ∷ bytes))) (eqb-true b QUOTE e) h)
text-cases b bytes false true e text after front h = tt
text-cases b bytes false false e text after front h = one-more b bytes front text (subst IsUtf8 (sym (append_assoc front (b ∷ []) bytes)) h)

closed-utf8 : (front bytes : List ℕ) → IsUtf8 (front ++ (QUOTE ∷ bytes)) → IsUtf8 (front ++ []) × IsUtf8 bytes
closed-utf8 front bytes h = let parts = cut-utf8 front QUOTE bytes (lit≤ tt) h in (subst IsUtf8 (sym (append-nil front)) parts.0, parts.1)

after-cases : (b : ℕ) (bytes : List ℕ) (t : Bool) → eqb b QUOTE ≡ t → TextUtf8 bytes → (front : List ℕ) → IsUtf8 (front ++ (QUOTE ∷ (b ∷ bytes)))
    → HoldsUtf8Parts (with_bytes front (cond t (with_byte QUOTE (quoted_text bytes)) (Some ([], b ∷ bytes))))
after-cases b bytes true e text front h =
    let parts = cut-utf8 front QUOTE (b ∷ bytes) (lit≤ tt) h in
    let is : b ≡ QUOTE = eqb-true b QUOTE e in
    let rest : IsUtf8 bytes = tail-utf8 b bytes (omega arith) parts.1 in
    one-more QUOTE bytes front text (IsUtf8-append (front ++ QUOTE ∷ []) bytes (IsUtf8-append front (QUOTE ∷ []) parts.0 quote-utf8) rest)
after-cases b bytes false e text front h = closed-utf8 front (b ∷ bytes) h

both-utf8 : (bytes : List ℕ) → TextUtf8 bytes × AfterUtf8 bytes
both-utf8 [] = ((λ front h. tt), (λ front h. closed-utf8 front [] h))
both-utf8 (b ∷ bytes) =
    let others = both-utf8 bytes in
    ((λ front h. text-cases b bytes (eqb b QUOTE) (is_ascii_control b) refl others.0 others.1 front h), (λ front h. after-cases b bytes (eqb b QUOTE) refl others.0 front h))

text-utf8 : (bytes : List ℕ) → IsUtf8 bytes → HoldsUtf8Parts (quoted_text bytes)
text-utf8 bytes h = subst HoldsUtf8Parts (with_bytes-nil (quoted_text bytes)) ((both-utf8 bytes).0 [] h)

text_lexeme-utf8 : (text : Quoted) → HoldsUtf8Parts text → HoldsUtf8 (text_lexeme text)
text_lexeme-utf8 None h = tt
text_lexeme-utf8 (Some text) h = by (leb (length text.0) MAX_TEXT_LENGTH)
  where
    by : (short : Bool) → HoldsUtf8 (cond short (Some (Text text.0, text.1)) None)
    by true = h
    by false = tt

-- ---- the line

lexeme-utf8 : (b : ℕ) (bytes : List ℕ) → IsUtf8 (b ∷ bytes) → HoldsUtf8 (lexeme_at (b ∷ bytes))
unfolding lexeme_at sign_at
lexeme-utf8 b bytes h = by (is_ascii_alphabetic b) (is_ascii_digit b) (eqb b QUOTE) refl
  where
    by : (t u v : Bool) → eqb b QUOTE ≡ v → HoldsUtf8 (cond t (word_at (b ∷ bytes)) (cond u (number_at (b ∷ bytes)) (cond v (text_lexeme (quoted_text bytes)) (sign_at (b ∷ bytes)))))
    by true u v e = word-utf8 (b ∷ bytes) h
    by false true v e = number-utf8 (b ∷ bytes) h
    by false false true e = let is : b ≡ QUOTE = eqb-true b QUOTE e in text_lexeme-utf8 (quoted_text bytes) (text-utf8 bytes (tail-utf8 b bytes (omega arith) h))
    by false false false e = sign-utf8 signs signs-low (b ∷ bytes) h

abbrev HoldUtf8 : Lexed → Type 0
HoldUtf8 (Ok found) = HaveUtf8Texts found.0
HoldUtf8 (Err fault) = Unit {0}

with_lexeme-utf8 : (lexeme : Lexeme) (column : ℕ) (line : Lexed) → HasUtf8Text lexeme → HoldUtf8 line → HoldUtf8 (with_lexeme lexeme column line)
with_lexeme-utf8 lexeme column (Ok found) text h = (text, h)
with_lexeme-utf8 lexeme column (Err fault) text h = tt

lexed_at-utf8 : (column : ℕ) (found : Scanned) (others : List ℕ → Lexed) → HoldsUtf8 found → ((rest : List ℕ) → IsUtf8 rest → HoldUtf8 (others rest)) → HoldUtf8 (lexed_at column found others)
lexed_at-utf8 column None others text h = tt
lexed_at-utf8 column (Some found) others text h = with_lexeme-utf8 found.0 column (others found.1) text.0 (h found.1 text.1)

blank-low : (b : ℕ) → is_blank b ≡ true → b < 128
blank-low b h = grind (arith, nat_tests)

lexed_from-utf8 : (bound : ℕ) (line bytes : List ℕ) → IsUtf8 bytes → HoldUtf8 (lexed_from bound line bytes)
unfolding lexed_from
lexed_from-utf8 zero line [] h = tt
lexed_from-utf8 (suc bound) line [] h = tt
lexed_from-utf8 zero line (b ∷ bytes) h = tt
lexed_from-utf8 (suc bound) line (b ∷ bytes) h = by (is_blank b) refl (λ rest utf8. lexed_from-utf8 bound line rest utf8)
  where
    by : (blank : Bool) → is_blank b ≡ blank → ((rest : List ℕ) → IsUtf8 rest → HoldUtf8 (lexed_from bound line rest))
        → HoldUtf8 (cond blank (lexed_from bound line bytes) (lexed_at (column_of line (b ∷ bytes)) (lexeme_at (b ∷ bytes)) (λ rest. lexed_from bound line rest)))
    by true e others = others bytes (tail-utf8 b bytes (blank-low b e) h)
    by false e others = lexed_at-utf8 (column_of line (b ∷ bytes)) (lexeme_at (b ∷ bytes)) (λ rest. lexed_from bound line rest) (lexeme-utf8 b bytes h) others

found-utf8 : (line : Lexed) (lexemes : List Lexeme) → HoldUtf8 line → option_map (λ found. found.0) (result_ok line) ≡ Some lexemes → HaveUtf8Texts lexemes
found-utf8 (Ok found) lexemes h e = let same : found.0 ≡ lexemes = cc in subst HaveUtf8Texts same h
found-utf8 (Err fault) lexemes h e = absurd cc

pub texts-utf8 : (line : List ℕ) (lexemes : List Lexeme) → IsUtf8 line → lexemes_of line ≡ Some lexemes → HaveUtf8Texts lexemes
unfolding lexed
texts-utf8 line lexemes h e = found-utf8 (lexed line) lexemes (lexed_from-utf8 (length line) line line h) e
