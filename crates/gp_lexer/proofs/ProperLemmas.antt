-- The lexemes that are read are proper.
use Rattle.std.proofs.Common.{◌≡◌, ℕ, zero, suc, ◌^◌, Bool, true, false, cond, eqb, ltb, leb, List, [], ◌∷◌, length, take, drop, Option, Some, None, Ok, Err, refl, subst, nat_eq}
use Rattle.std.proofs.lemmas.Bool.{leb-true, ltb-true}
use Rattle.std.specs.Char.{is_ascii_alphabetic, is_ascii_control, is_ascii_digit}
use Rattle.std.specs.List.{list_any, prefix_len, starts_with, take_while}
use Rattle.std.specs.Option.{option_map, option_map_or}
use Rattle.std.specs.Result.{result_ok}
use Rattle.std.specs.Str.{str_to_ascii_lowercase}
use Rattle.std.specs.Str.Parse.{digits_value}
use Rattle.gp_base.specs.declared.name.TheConstants.{MAX_NAME_LENGTH}
use Rattle.gp_base.specs.Names.{is_name}
use Rattle.gp_lexer.specs.declared.lexeme.Symbol.{Symbol}
use Rattle.gp_lexer.specs.declared.lexeme.Lexeme.{Lexeme}
use Rattle.gp_lexer.specs.declared.lexeme.Lexeme.TheVariants.{Symbol as Sign, Word, Number, Big, Text}
use Rattle.gp_base.specs.declared.text.TheConstants.{MAX_TEXT_LENGTH}
use Rattle.gp_lexer.specs.declared.lexeme.TheConstants.{QUOTE}
use Rattle.gp_lexer.specs.ProperLexemes.{IsProper, AreProper}
use Rattle.gp_lexer.specs.Lexing.{Scanned, Quoted, is_word_byte, reserved_word, word_lexeme, word_at, number_at, with_byte, quoted_text, quoted_text_after_quote, text_lexeme, signs, sign_among, sign_at, is_blank, lexeme_at, Lexed, with_lexeme, lexed_at, column_of, lexed_from, lexed}
use Rattle.gp_lexer.specs.LexResults.{lexemes_of}
use Rattle.gp_lexer.proofs.WordLemmas.{word-name}

-- the lexeme, if there is one, is proper
abbrev HoldsProper : Scanned → Type 0
HoldsProper None = Unit {0}
HoldsProper (Some found) = IsProper found.0

symbol-or-name : (found : Option Symbol) (name : List ℕ) → (found ≡ None → is_name name ≡ true) → IsProper (option_map_or Sign found (Word name))
symbol-or-name None name h = h refl
symbol-or-name (Some symbol) name h = tt

word-proper : (b : ℕ) (bytes : List ℕ) → is_ascii_alphabetic b ≡ true → HoldsProper (word_at (b ∷ bytes))
unfolding word_at
word-proper b bytes letter = by (leb (prefix_len is_word_byte (b ∷ bytes)) MAX_NAME_LENGTH) refl
  where
    by : (short : Bool) → leb (prefix_len is_word_byte (b ∷ bytes)) MAX_NAME_LENGTH ≡ short
        → HoldsProper (cond short (Some (word_lexeme (take_while is_word_byte (b ∷ bytes)), drop (prefix_len is_word_byte (b ∷ bytes)) (b ∷ bytes))) None)
    by true e = symbol-or-name (reserved_word (take_while is_word_byte (b ∷ bytes))) (str_to_ascii_lowercase (take_while is_word_byte (b ∷ bytes)))
        (word-name (b ∷ bytes) letter (leb-true _ _ e))
    by false e = tt

number-proper : (bytes : List ℕ) → HoldsProper (number_at bytes)
unfolding number_at
number-proper bytes = by (digits_value 10 (take (prefix_len is_ascii_digit bytes) bytes)) (ltb _ (2 ^ 63)) refl (eqb _ (2 ^ 63))
  where
    by : (value : ℕ) (small : Bool) → ltb value (2 ^ 63) ≡ small → (big : Bool)
        → HoldsProper (option_map (λ lexeme. (lexeme, drop (prefix_len is_ascii_digit bytes) bytes)) (cond small (Some (Number value)) (cond big (Some Big) None)))
    by value true e big = ltb-true value (2 ^ 63) e
    by value false e true = tt
    by value false e false = tt

-- the value of the text, if there is one, has no control character
abbrev HoldsPlain : Quoted → Type 0
HoldsPlain None = Unit {0}
HoldsPlain (Some text) = list_any is_ascii_control text.0 ≡ false

with_byte-plain : (b : ℕ) (text : Quoted) → is_ascii_control b ≡ false → HoldsPlain text → HoldsPlain (with_byte b text)
with_byte-plain b None plain h = tt
with_byte-plain b (Some text) plain h = rw plain h

text-cases : (b : ℕ) (bytes : List ℕ) (t u : Bool) → is_ascii_control b ≡ u → HoldsPlain (quoted_text bytes) → HoldsPlain (quoted_text_after_quote bytes)
    → HoldsPlain (cond t (quoted_text_after_quote bytes) (cond u None (with_byte b (quoted_text bytes))))
text-cases b bytes true u e text after = after
text-cases b bytes false true e text after = tt
text-cases b bytes false false e text after = with_byte-plain b (quoted_text bytes) e text

after-cases : (b : ℕ) (bytes : List ℕ) (t : Bool) → HoldsPlain (quoted_text bytes) → HoldsPlain (cond t (with_byte QUOTE (quoted_text bytes)) (Some ([], b ∷ bytes)))
after-cases b bytes true text = with_byte-plain QUOTE (quoted_text bytes) refl text
after-cases b bytes false text = refl

both-plain : (bytes : List ℕ) → HoldsPlain (quoted_text bytes) × HoldsPlain (quoted_text_after_quote bytes)
both-plain [] = (tt, refl)
both-plain (b ∷ bytes) =
    let others = both-plain bytes in
    (text-cases b bytes (eqb b QUOTE) (is_ascii_control b) refl others.0 others.1, after-cases b bytes (eqb b QUOTE) others.0)

text-proper : (text : Quoted) → HoldsPlain text → HoldsProper (text_lexeme text)
text-proper None h = tt
text-proper (Some text) h = by (leb (length text.0) MAX_TEXT_LENGTH) refl
  where
    by : (short : Bool) → leb (length text.0) MAX_TEXT_LENGTH ≡ short → HoldsProper (cond short (Some (Text text.0, text.1)) None)
    by true e = (leb-true _ _ e, h)
    by false e = tt

sign-proper : (signs : List (List ℕ × Symbol)) (bytes : List ℕ) → HoldsProper (sign_among signs bytes)
sign-proper [] bytes = tt
sign-proper (x ∷ xs) bytes = by (starts_with nat_eq bytes x.0) (sign-proper xs bytes)
  where
    by : (test : Bool) → HoldsProper (sign_among xs bytes) → HoldsProper (cond test (Some (Sign x.1, drop (length x.0) bytes)) (sign_among xs bytes))
    by true others = tt
    by false others = others

lexeme-proper : (b : ℕ) (bytes : List ℕ) → HoldsProper (lexeme_at (b ∷ bytes))
unfolding lexeme_at sign_at
lexeme-proper b bytes = by (is_ascii_alphabetic b) refl (is_ascii_digit b) (eqb b QUOTE)
  where
    by : (t : Bool) → is_ascii_alphabetic b ≡ t → (u v : Bool)
        → HoldsProper (cond t (word_at (b ∷ bytes)) (cond u (number_at (b ∷ bytes)) (cond v (text_lexeme (quoted_text bytes)) (sign_at (b ∷ bytes)))))
    by true e u v = word-proper b bytes e
    by false e true v = number-proper (b ∷ bytes)
    by false e false true = text-proper (quoted_text bytes) (both-plain bytes).0
    by false e false false = sign-proper signs (b ∷ bytes)

-- the lexemes, if there are any, are proper
abbrev HoldAllProper : Lexed → Type 0
HoldAllProper (Ok found) = AreProper found.0
HoldAllProper (Err fault) = Unit {0}

with_lexeme-proper : (lexeme : Lexeme) (column : ℕ) (line : Lexed) → IsProper lexeme → HoldAllProper line → HoldAllProper (with_lexeme lexeme column line)
with_lexeme-proper lexeme column (Ok found) proper h = (proper, h)
with_lexeme-proper lexeme column (Err fault) proper h = tt

lexed_at-proper : (column : ℕ) (found : Scanned) (others : List ℕ → Lexed) → HoldsProper found → ((rest : List ℕ) → HoldAllProper (others rest)) → HoldAllProper (lexed_at column found others)
lexed_at-proper column None others proper h = tt
lexed_at-proper column (Some found) others proper h = with_lexeme-proper found.0 column (others found.1) proper (h found.1)

lexed_from-proper : (bound : ℕ) (line bytes : List ℕ) → HoldAllProper (lexed_from bound line bytes)
unfolding lexed_from
lexed_from-proper zero line [] = tt
lexed_from-proper (suc bound) line [] = tt
lexed_from-proper zero line (b ∷ bytes) = tt
lexed_from-proper (suc bound) line (b ∷ bytes) = by (is_blank b) (λ rest. lexed_from-proper bound line rest)
  where
    by : (blank : Bool) → ((rest : List ℕ) → HoldAllProper (lexed_from bound line rest))
        → HoldAllProper (cond blank (lexed_from bound line bytes) (lexed_at (column_of line (b ∷ bytes)) (lexeme_at (b ∷ bytes)) (λ rest. lexed_from bound line rest)))
    by true others = others bytes
    by false others = lexed_at-proper (column_of line (b ∷ bytes)) (lexeme_at (b ∷ bytes)) (λ rest. lexed_from bound line rest) (lexeme-proper b bytes) others

found-proper : (line : Lexed) (lexemes : List Lexeme) → HoldAllProper line → option_map (λ found. found.0) (result_ok line) ≡ Some lexemes → AreProper lexemes
found-proper (Ok found) lexemes h e = let same : found.0 ≡ lexemes = cc in subst AreProper same h
found-proper (Err fault) lexemes h e = absurd cc

pub lexemes-proper : (line : List ℕ) (lexemes : List Lexeme) → lexemes_of line ≡ Some lexemes → AreProper lexemes
unfolding lexed
lexemes-proper line lexemes e = found-proper (lexed line) lexemes (lexed_from-proper (length line) line line) e
