-- Each lexeme takes one byte or more.
use Rattle.std.proofs.Common.{◌≡◌, ℕ, ◌≤◌, Bool, true, false, cond, eqb, leb, List, [], ◌∷◌, length, take, drop, Option, Some, None, refl, arith, length-drop, lit≤, nat_eq}
use Rattle.std.specs.Char.{is_ascii_alphabetic, is_ascii_control, is_ascii_digit}
use Rattle.std.specs.List.{AllByRecursion, prefix_len, starts_with}
use Rattle.std.specs.Option.{option_map}
use Rattle.std.specs.Str.Parse.{digits_value}
use Rattle.gp_base.specs.declared.name.TheConstants.{MAX_NAME_LENGTH}
use Rattle.gp_lexer.specs.declared.lexeme.Symbol.{Symbol}
use Rattle.gp_lexer.specs.declared.lexeme.Lexeme.{Lexeme}
use Rattle.gp_lexer.specs.declared.lexeme.Lexeme.TheVariants.{Symbol as Sign, Text}
use Rattle.gp_base.specs.declared.text.TheConstants.{MAX_TEXT_LENGTH}
use Rattle.gp_lexer.specs.declared.lexeme.TheConstants.{QUOTE}
use Rattle.gp_lexer.specs.Lexing.{Scanned, Quoted, is_word_byte, word_lexeme, word_at, number_lexeme, number_at, with_byte, quoted_text, quoted_text_after_quote, text_lexeme, signs, sign_among, sign_at, lexeme_at}
use Rattle.gp_lexer.proofs.WordLemmas.{letter-word}

-- the rest, if there is one, has at most this many bytes
abbrev pub RestAtMost : ℕ → Scanned → Type 0
RestAtMost n None = Unit {0}
RestAtMost n (Some found) = length found.1 ≤ n

abbrev TextAtMost : ℕ → Quoted → Type 0
TextAtMost n None = Unit {0}
TextAtMost n (Some text) = length text.1 ≤ n

-- what is left after the bytes from the front on that pass a test, if the first one does
drop-shorter : (test : ℕ → Bool) (b : ℕ) (bytes : List ℕ) → test b ≡ true → length (drop (prefix_len test (b ∷ bytes)) (b ∷ bytes)) ≤ length bytes
drop-shorter test b bytes h = rw h (simp length-drop (omega arith))

word-shorter : (b : ℕ) (bytes : List ℕ) → is_ascii_alphabetic b ≡ true → RestAtMost (length bytes) (word_at (b ∷ bytes))
unfolding word_at
word-shorter b bytes h = by (leb (prefix_len is_word_byte (b ∷ bytes)) MAX_NAME_LENGTH) (drop-shorter is_word_byte b bytes (letter-word b h))
  where
    by : (test : Bool) → length (drop (prefix_len is_word_byte (b ∷ bytes)) (b ∷ bytes)) ≤ length bytes
        → RestAtMost (length bytes) (cond test (Some (word_lexeme (take (prefix_len is_word_byte (b ∷ bytes)) (b ∷ bytes)), drop (prefix_len is_word_byte (b ∷ bytes)) (b ∷ bytes))) None)
    by true h = h
    by false h = tt

number-shorter : (b : ℕ) (bytes : List ℕ) → is_ascii_digit b ≡ true → RestAtMost (length bytes) (number_at (b ∷ bytes))
unfolding number_at
number-shorter b bytes h = by (number_lexeme (digits_value 10 (take (prefix_len is_ascii_digit (b ∷ bytes)) (b ∷ bytes)))) (drop-shorter is_ascii_digit b bytes h)
  where
    by : (found : Option Lexeme) → length (drop (prefix_len is_ascii_digit (b ∷ bytes)) (b ∷ bytes)) ≤ length bytes
        → RestAtMost (length bytes) (option_map (λ lexeme. (lexeme, drop (prefix_len is_ascii_digit (b ∷ bytes)) (b ∷ bytes))) found)
    by None h = tt
    by (Some lexeme) h = h

more : (n m : ℕ) (text : Quoted) → n ≤ m → TextAtMost n text → TextAtMost m text
more n m None less h = tt
more n m (Some text) less h = omega (arith, h)

with_byte-more : (byte n m : ℕ) (text : Quoted) → n ≤ m → TextAtMost n text → TextAtMost m (with_byte byte text)
with_byte-more byte n m None less h = tt
with_byte-more byte n m (Some text) less h = omega (arith, h)

text-cases : (b : ℕ) (bytes : List ℕ) (t u : Bool) → TextAtMost (length bytes) (quoted_text bytes) → TextAtMost (length bytes) (quoted_text_after_quote bytes)
    → TextAtMost (length (b ∷ bytes)) (cond t (quoted_text_after_quote bytes) (cond u None (with_byte b (quoted_text bytes))))
text-cases b bytes true u text after = more (length bytes) (length (b ∷ bytes)) (quoted_text_after_quote bytes) (omega arith) after
text-cases b bytes false true text after = tt
text-cases b bytes false false text after = with_byte-more b (length bytes) (length (b ∷ bytes)) (quoted_text bytes) (omega arith) text

after-cases : (b : ℕ) (bytes : List ℕ) (t : Bool) → TextAtMost (length bytes) (quoted_text bytes)
    → TextAtMost (length (b ∷ bytes)) (cond t (with_byte QUOTE (quoted_text bytes)) (Some ([], b ∷ bytes)))
after-cases b bytes true text = with_byte-more QUOTE (length bytes) (length (b ∷ bytes)) (quoted_text bytes) (omega arith) text
after-cases b bytes false text = omega arith

both-shorter : (bytes : List ℕ) → TextAtMost (length bytes) (quoted_text bytes) × TextAtMost (length bytes) (quoted_text_after_quote bytes)
both-shorter [] = (tt, lit≤ tt)
both-shorter (b ∷ bytes) =
    let others = both-shorter bytes in
    (text-cases b bytes (eqb b QUOTE) (is_ascii_control b) others.0 others.1, after-cases b bytes (eqb b QUOTE) others.0)

text_lexeme-shorter : (n : ℕ) (text : Quoted) → TextAtMost n text → RestAtMost n (text_lexeme text)
text_lexeme-shorter n None h = tt
text_lexeme-shorter n (Some text) h = by (leb (length text.0) MAX_TEXT_LENGTH)
  where
    by : (test : Bool) → RestAtMost n (cond test (Some (Text text.0, text.1)) None)
    by true = h
    by false = tt

sign-shorter : (signs : List (List ℕ × Symbol)) → AllByRecursion (λ sign. 1 ≤ length sign.0) signs → (b : ℕ) (bytes : List ℕ) → RestAtMost (length bytes) (sign_among signs (b ∷ bytes))
sign-shorter [] h b bytes = tt
sign-shorter (x ∷ xs) h b bytes = by (starts_with nat_eq (b ∷ bytes) x.0) (sign-shorter xs h.1 b bytes)
  where
    rest : length (drop (length x.0) (b ∷ bytes)) ≤ length bytes
    rest = simp length-drop (omega (arith, h.0))

    by : (test : Bool) → RestAtMost (length bytes) (sign_among xs (b ∷ bytes))
        → RestAtMost (length bytes) (cond test (Some (Sign x.1, drop (length x.0) (b ∷ bytes))) (sign_among xs (b ∷ bytes)))
    by true others = rest
    by false others = others

signs-long : AllByRecursion (λ (sign : List ℕ × Symbol). 1 ≤ length sign.0) signs
signs-long = (lit≤ tt, (lit≤ tt, (lit≤ tt, (lit≤ tt, (lit≤ tt, (lit≤ tt, (lit≤ tt, (lit≤ tt, (lit≤ tt, (lit≤ tt, (lit≤ tt, (lit≤ tt, (lit≤ tt, (lit≤ tt, (lit≤ tt, (lit≤ tt, tt))))))))))))))))

-- the bytes after a lexeme are fewer than those from it on
pub lexeme-shorter : (b : ℕ) (bytes : List ℕ) → RestAtMost (length bytes) (lexeme_at (b ∷ bytes))
unfolding lexeme_at sign_at
lexeme-shorter b bytes = by (is_ascii_alphabetic b) refl (is_ascii_digit b) refl (eqb b QUOTE)
  where
    by : (t : Bool) → is_ascii_alphabetic b ≡ t → (u : Bool) → is_ascii_digit b ≡ u → (v : Bool)
        → RestAtMost (length bytes) (cond t (word_at (b ∷ bytes)) (cond u (number_at (b ∷ bytes)) (cond v (text_lexeme (quoted_text bytes)) (sign_at (b ∷ bytes)))))
    by true e u f v = word-shorter b bytes e
    by false e true f v = number-shorter b bytes f
    by false e false f true = text_lexeme-shorter (length bytes) (quoted_text bytes) (both-shorter bytes).0
    by false e false f false = sign-shorter signs signs-long b bytes
