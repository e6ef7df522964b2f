-- Part of the statement: the lexemes of a line with the column of each, or the column of the lexical fault. Each lexeme is the longest that
-- can be read at its place (the longest match of scanner generators; Aho, Lam, Sethi and Ullman 2006, section 3.5), and where it cannot be
-- read no shorter one is tried. Columns count the bytes of the line from 1.
use Rattle.std.specs.Prelude.{ℕ, zero, suc, ◌+◌, ◌-◌, ◌^◌, Bool, ◌||◌, List, [], ◌∷◌, length, take, drop, Option, Some, None, Result, Ok, Err, nat_eq, nat_lt, nat_le, ◌==◌, if◌then◌else◌, codes}
use Rattle.std.specs.Char.{is_ascii_alphabetic, is_ascii_alphanumeric, is_ascii_control, is_ascii_digit}
use Rattle.std.specs.List.{find, prefix_len, starts_with}
use Rattle.std.specs.Option.{option_map, option_map_or}
use Rattle.std.specs.Str.{str_eq_ignore_ascii_case, str_to_ascii_lowercase}
use Rattle.std.specs.Str.Parse.{digits_value}
use Rattle.gp_base.specs.declared.name.TheConstants.{MAX_NAME_LENGTH}
use Rattle.gp_lexer.specs.declared.lexeme.Symbol.{Symbol}
use Rattle.gp_lexer.specs.declared.lexeme.Symbol.TheVariants as s
use Rattle.gp_lexer.specs.declared.lexeme.Lexeme.{Lexeme}
use Rattle.gp_lexer.specs.declared.lexeme.Lexeme.TheVariants.{Symbol as Sign, Word, Number, Big, Text}
use Rattle.gp_base.specs.declared.text.TheConstants.{MAX_TEXT_LENGTH}
use Rattle.gp_lexer.specs.declared.lexeme.TheConstants.{QUOTE}
use Rattle.gp_lexer.specs.Lexemes.{symbol_text}

-- a lexeme and the bytes after it, or None where no lexeme can be read
abbrev pub Scanned : Type 0
Scanned = Option (Lexeme × List ℕ)

-- ---- words

-- a byte of a word, which begins with a letter: a letter, a digit or an underscore
abbrev pub is_word_byte : ℕ → Bool
is_word_byte byte = is_ascii_alphanumeric byte || (byte == 95)

-- the reserved words
abbrev pub reserved_symbols : List Symbol
reserved_symbols =
    s.All ∷ s.And ∷ s.As ∷ s.Begin ∷ s.Case ∷ s.Commit ∷ s.Create ∷ s.Delete ∷ s.Else ∷ s.End ∷ s.From ∷ s.Insert ∷ s.Int ∷ s.Into ∷ s.Is
    ∷ s.Not ∷ s.Null ∷ s.Or ∷ s.Rollback ∷ s.Select ∷ s.Set ∷ s.Table ∷ s.Text ∷ s.Then ∷ s.True ∷ s.Union ∷ s.Update ∷ s.Values ∷ s.When
    ∷ s.Where ∷ []

-- the reserved word that the word is, in letters of either case
unfoldable pub reserved_word : List ℕ → Option Symbol
reserved_word word = find (λ symbol. str_eq_ignore_ascii_case (symbol_text symbol) word) reserved_symbols

-- a reserved word, or the word in lower case
abbrev pub word_lexeme : List ℕ → Lexeme
word_lexeme word = option_map_or Sign (reserved_word word) (Word (str_to_ascii_lowercase word))

-- the word that the bytes begin with, if it is not too long
unfoldable pub word_at : List ℕ → Scanned
word_at bytes =
    let count = prefix_len is_word_byte bytes in
    if nat_le count MAX_NAME_LENGTH then Some (word_lexeme (take count bytes), drop count bytes) else None

-- ---- numbers

-- the lexeme of digits with this value
abbrev pub number_lexeme : ℕ → Option Lexeme
number_lexeme value = if nat_lt value (2 ^ 63) then Some (Number value) else (if value == 2 ^ 63 then Some Big else None)

-- the number that the bytes begin with, if it is not too large
unfoldable pub number_at : List ℕ → Scanned
number_at bytes =
    let count = prefix_len is_ascii_digit bytes in
    option_map (λ lexeme. (lexeme, drop count bytes)) (number_lexeme (digits_value 10 (take count bytes)))

-- ---- texts

-- the value of a text, and the bytes after its closing quote
abbrev pub Quoted : Type 0
Quoted = Option (List ℕ × List ℕ)

-- the value with one more byte at its start
abbrev pub with_byte : ℕ → Quoted → Quoted
with_byte byte None = None
with_byte byte (Some text) = Some (byte ∷ text.0, text.1)

abbrev mutual
  -- the text whose opening quote is before these bytes, if it is closed and has no control character
  pub quoted_text : List ℕ → Quoted
  quoted_text [] = None
  quoted_text (byte ∷ bytes) =
      if byte == QUOTE then quoted_text_after_quote bytes else (if is_ascii_control byte then None else with_byte byte (quoted_text bytes))

  -- after a quote in it, a second quote is a quote of its value, and anything else is after its end
  pub quoted_text_after_quote : List ℕ → Quoted
  quoted_text_after_quote [] = Some ([], [])
  quoted_text_after_quote (byte ∷ bytes) =
      if byte == QUOTE then with_byte QUOTE (quoted_text bytes) else Some ([], byte ∷ bytes)

-- a text, if its value is not too long
abbrev pub text_lexeme : Quoted → Scanned
text_lexeme None = None
text_lexeme (Some text) = if nat_le (length text.0) MAX_TEXT_LENGTH then Some (Text text.0, text.1) else None

-- ---- signs

-- the signs, where `<=` and `<>` are before `<` and `>=` before `>`; `!=` is read as `<>`
abbrev pub signs : List (List ℕ × Symbol)
signs =
    (codes ",", s.Comma) ∷ (codes "(", s.Open) ∷ (codes ")", s.Close) ∷ (codes ".", s.Dot) ∷ (codes "-", s.Minus) ∷ (codes "*", s.Star)
    ∷ (codes "+", s.Plus) ∷ (codes ":", s.Colon) ∷ (codes ";", s.Semicolon) ∷ (codes "=", s.Eq) ∷ (codes "<>", s.Ne) ∷ (codes "<=", s.Le)
    ∷ (codes "<", s.Lt) ∷ (codes ">=", s.Ge) ∷ (codes ">", s.Gt) ∷ (codes "!=", s.Ne) ∷ []

-- the first sign in the list that the bytes begin with
abbrev pub sign_among : List (List ℕ × Symbol) → List ℕ → Scanned
sign_among [] bytes = None
sign_among (sign ∷ others) bytes =
    if starts_with nat_eq bytes sign.0 then Some (Sign sign.1, drop (length sign.0) bytes) else sign_among others bytes

-- the sign that the bytes begin with
unfoldable pub sign_at : List ℕ → Scanned
sign_at = sign_among signs

-- ---- lines

-- a space or a tab, which separates lexemes
abbrev pub is_blank : ℕ → Bool
is_blank byte = (byte == 32) || (byte == 9)

-- the lexeme that the bytes begin with
unfoldable pub lexeme_at : List ℕ → Scanned
lexeme_at [] = None
lexeme_at (byte ∷ bytes) =
    if is_ascii_alphabetic byte then word_at (byte ∷ bytes)
    else (if is_ascii_digit byte then number_at (byte ∷ bytes)
    else (if byte == QUOTE then text_lexeme (quoted_text bytes) else sign_at (byte ∷ bytes)))

-- the lexemes and the column of each, or the column of the fault
abbrev pub Lexed : Type 0
Lexed = Result (List Lexeme × List ℕ) ℕ

-- a lexeme at this column, and then others
abbrev pub with_lexeme : Lexeme → ℕ → Lexed → Lexed
with_lexeme lexeme column (Ok others) = Ok (lexeme ∷ others.0, column ∷ others.1)
with_lexeme lexeme column (Err fault) = Err fault

-- the fault at this column, or the lexeme there and those of the bytes after it
abbrev pub lexed_at : ℕ → Scanned → (List ℕ → Lexed) → Lexed
lexed_at column None others = Err column
lexed_at column (Some found) others = with_lexeme found.0 column (others found.1)

-- the column in the line at which these last bytes of it begin
abbrev pub column_of : List ℕ → List ℕ → ℕ
column_of line bytes = length line - length bytes + 1

-- the lexemes of the last bytes of a line, where the first argument is at least their number: each blank and lexeme takes one byte or more
unfoldable pub lexed_from : ℕ → List ℕ → List ℕ → Lexed
lexed_from bound line [] = Ok ([], [])
lexed_from zero line (byte ∷ bytes) = Err (column_of line (byte ∷ bytes))
lexed_from (suc bound) line (byte ∷ bytes) =
    if is_blank byte then lexed_from bound line bytes
    else lexed_at (column_of line (byte ∷ bytes)) (lexeme_at (byte ∷ bytes)) (λ rest. lexed_from bound line rest)

-- the lexemes of a line
unfoldable pub lexed : List ℕ → Lexed
lexed line = lexed_from (length line) line line
