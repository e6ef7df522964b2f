-- Part of the statement: the canonical spacing. Lexemes are separated by one space, but none is written after `(`, before `)` and `,`, around `.`
-- and after the sign of a number or term.
use Rattle.std.specs.Prelude.{ℕ, Bool, true, false, List, [], ◌∷◌, ◌++◌, if◌then◌else◌}
use Rattle.gp_lexer.specs.declared.lexeme.Symbol.TheVariants as s
use Rattle.gp_lexer.specs.declared.lexeme.Lexeme.{Lexeme}
use Rattle.gp_lexer.specs.declared.lexeme.Lexeme.TheVariants.{Symbol as Sign}
use Rattle.gp_lexer.specs.declared.gap.Gap.{Gap}
use Rattle.gp_lexer.specs.declared.gap.Gap.TheVariants.{Start, AfterComma, Joined, Spaced}
use Rattle.gp_lexer.specs.Lexemes.{spelled}

-- a lexeme that is separated from the one before it
abbrev pub is_separated : Lexeme → Bool
is_separated (Sign s.Close) = false
is_separated (Sign s.Comma) = false
is_separated (Sign s.Dot) = false
is_separated _ = true

-- a space is written before the lexeme
abbrev pub has_space : Gap → Lexeme → Bool
has_space Start lexeme = false
has_space Joined lexeme = false
has_space _ lexeme = is_separated lexeme

-- a `-` at the start of a line, after `(` and after `,` is a sign, and elsewhere the operator
abbrev pub after_minus : Gap → Gap
after_minus Start = Joined
after_minus AfterComma = Joined
after_minus _ = Spaced

-- the gap after the lexeme
abbrev pub next_gap : Gap → Lexeme → Gap
next_gap gap (Sign s.Open) = Start
next_gap gap (Sign s.Comma) = AfterComma
next_gap gap (Sign s.Dot) = Joined
next_gap gap (Sign s.Minus) = after_minus gap
next_gap gap _ = Spaced

-- what is written of a line: its text, and the gap after it
pub record Page : Type 0 where
  pub text : List ℕ
  pub gap : Gap

-- nothing is written yet
abbrev pub empty_page : Page
empty_page = record { text = []; gap = Start }

-- a text with or without a space before it
abbrev pub spaced : Bool → List ℕ → List ℕ
spaced space text = if space then 32 ∷ text else text

-- the page with one more lexeme
abbrev pub put : Page → Lexeme → Page
put page lexeme = record { text = page.text ++ spaced (has_space page.gap lexeme) (spelled lexeme); gap = next_gap page.gap lexeme }

-- the page with more lexemes
unfoldable pub written : Page → List Lexeme → Page
written page [] = page
written page (lexeme ∷ lexemes) = written (put page lexeme) lexemes

-- the text of the lexemes in canonical spacing
abbrev pub laid_out : List Lexeme → List ℕ
laid_out lexemes = (written empty_page lexemes).text
