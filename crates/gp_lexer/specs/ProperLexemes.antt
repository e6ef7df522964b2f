-- Of the laws `lexemes_are_proper` and `lexing_inverts_layout`: lexemes that a line can hold.
use Rattle.std.specs.Prelude.{◌≡◌, ◌<◌, ◌≤◌, ◌^◌, true, false, List, [], ◌∷◌, length}
use Rattle.std.specs.Char.{is_ascii_control}
use Rattle.std.specs.List.{list_any}
use Rattle.std.specs.Str.{IsUtf8}
use Rattle.gp_base.specs.Names.{is_name}
use Rattle.gp_lexer.specs.declared.lexeme.Lexeme.{Lexeme}
use Rattle.gp_lexer.specs.declared.lexeme.Lexeme.TheVariants.{Symbol as Sign, Word, Number, Big, Text}
use Rattle.gp_base.specs.declared.text.TheConstants.{MAX_TEXT_LENGTH}

-- the lexemes that lines can hold: the words that are not reserved are the names, numbers fit an i64, and texts are not too long and
-- have no control character
abbrev pub IsProper : Lexeme → Type 0
IsProper (Sign symbol) = Unit {0}
IsProper (Word word) = is_name word ≡ true
IsProper (Number n) = n < 2 ^ 63
IsProper Big = Unit {0}
IsProper (Text text) = (length text ≤ MAX_TEXT_LENGTH) × (list_any is_ascii_control text ≡ false)

-- each of the lexemes is one of those
abbrev pub AreProper : List Lexeme → Type 0
AreProper [] = Unit {0}
AreProper (lexeme ∷ lexemes) = IsProper lexeme × AreProper lexemes

-- the value of a text is UTF-8; all other lexemes are ASCII
abbrev pub HasUtf8Text : Lexeme → Type 0
HasUtf8Text (Text text) = IsUtf8 text
HasUtf8Text (Sign symbol) = Unit {0}
HasUtf8Text (Word word) = Unit {0}
HasUtf8Text (Number n) = Unit {0}
HasUtf8Text Big = Unit {0}

-- the value of each of the texts is
abbrev pub HaveUtf8Texts : List Lexeme → Type 0
HaveUtf8Texts [] = Unit {0}
HaveUtf8Texts (lexeme ∷ lexemes) = HasUtf8Text lexeme × HaveUtf8Texts lexemes
