-- Of the laws `terms_are_parsed`, `commands_are_parsed`, `questions_are_parsed` and `lines_are_read_once`: what is said of a parser, a grammar and the
-- definitions of reading.
use Rattle.std.specs.Prelude.{◌≡◌, ◌↔◌, ℕ, Bool, List, [], ◌∷◌, None, Ok, Err, true, false, ◌==◌, ◌&&◌}
use Rattle.std.specs.List.{list_all, list_any}
use Rattle.std.specs.Str.{IsUtf8}
use Rattle.gp_lexer.specs.ProperLexemes.{AreProper}
use Rattle.gp_grammar.specs.declared.limits.TheConstants.{MAX_OPEN}
use Rattle.gp_grammar.specs.Syntax as y
use Rattle.gp_grammar.specs.Syntax.{Lexemes, Bytes, Command, is_statement, LogChange, Side, Question}
use Rattle.gp_grammar.specs.CommandGrammar.{IsCommand}
use Rattle.gp_grammar.specs.Places.{Stops}
use Rattle.gp_grammar.specs.Depth.{is_too_deep}
use Rattle.gp_grammar.specs.Limits.{Shape, passed_limit, command_shape, shape_of_terms}
use Rattle.gp_grammar.specs.Canonical.{command_lexemes, command_text}
use Rattle.gp_grammar.specs.Parsing.{Parser, whole}
use Rattle.gp_grammar.specs.CommandParsing.{command}
use Rattle.gp_grammar.specs.LineReading.{Fault, ReadsText, RefusesText, ReadsLine, RefusesLine, AreReadOnce}
use Rattle.gp_grammar.specs.Reading.{read_text, read_line, command_of, question_of}

abbrev pub term_shape : y.Term → Shape
term_shape x = shape_of_terms (x ∷ [])

-- the parser builds this: a tree that the grammar derives, capped
pub record Built {A : Type 0} (Is : Lexemes → A → Type 0) (cap : A → A) (lexemes : Lexemes) (built : A) : Type 0 where
  pub tree : A
  pub is : Is lexemes tree
  pub same : built ≡ cap tree

module _ {A : Type 0} (parser : Parser A) (Is : Lexemes → A → Type 0) (cap : A → A) (shape : A → Shape) where
  -- the parser takes whole lines that the grammar derives, and no others
  abbrev pub ParsesExactly : Type 0
  ParsesExactly = (lexemes : Lexemes) (built : A) → (whole parser lexemes ≡ Ok built) ↔ Built Is cap lexemes built

  -- on all others it stops, and where the grammar places the fault
  abbrev pub StopsExactly : Type 0
  StopsExactly = (lexemes rest : Lexemes) → (whole parser lexemes ≡ Err rest) ↔ Stops Is lexemes rest

  -- within the limits the grammar derives lexemes in one way at most
  abbrev pub IsUnambiguous : Type 0
  IsUnambiguous = (lexemes : Lexemes) (x y : A) → Is lexemes x → Is lexemes y → passed_limit (shape x) ≡ None → x ≡ y

  -- capping changes nothing within the limits, and no limit that is passed
  pub record CapsFairly : Type 0 where
    pub limit : (x : A) → passed_limit (shape (cap x)) ≡ passed_limit (shape x)
    pub exact : (x : A) → passed_limit (shape x) ≡ None → cap x ≡ x

  abbrev pub ReadsTextsExactly : Type 0
  ReadsTextsExactly = (bytes : Bytes) (x : A) → (read_text parser shape bytes ≡ Ok x) ↔ ReadsText Is shape bytes x

  abbrev pub RefusesTextsExactly : Type 0
  RefusesTextsExactly = (bytes : Bytes) (fault : Fault) → (read_text parser shape bytes ≡ Err fault) ↔ RefusesText Is shape bytes fault

  abbrev pub ReadsLinesExactly : Type 0
  ReadsLinesExactly = (bytes : Bytes) (x : A) → (read_line parser shape bytes ≡ Ok x) ↔ ReadsLine Is shape bytes x

  abbrev pub RefusesLinesExactly : Type 0
  RefusesLinesExactly = (bytes : Bytes) (fault : Fault) → (read_line parser shape bytes ≡ Err fault) ↔ RefusesLine Is shape bytes fault

-- numbered lines are read in exactly one way
abbrev pub ReadsLinesOnce : {A : Type 0} → (Lexemes → A → Type 0) → (A → Shape) → Type 0
ReadsLinesOnce Is shape = (lines : List (ℕ × Bytes)) → AreReadOnce Is shape lines

-- ---- changes

abbrev pub has_statement : LogChange → Bool
has_statement (y.drop t k) = true
has_statement (y.drop_all t) = true
has_statement (y.replace t k command) = is_statement command
has_statement (y.add t command) = is_statement command

abbrev pub have_statements : List LogChange → Bool
have_statements = list_all has_statement

abbrev pub side_has_statements : Side → Bool
side_has_statements (y.as_is subject) = true
side_has_statements (y.changed changes subject) = have_statements changes

-- the commands of the changes in a question
abbrev pub has_statements : Question → Bool
has_statements (y.what_if changes subject query) = have_statements changes
has_statements (y.diff first second query) = side_has_statements first && side_has_statements second
has_statements _ = true

-- the command of a change that was read is a statement
abbrev pub ChangesAreStatements : Type 0
ChangesAreStatements = (bytes : Bytes) (question : Question) → question_of bytes ≡ Ok question → has_statements question ≡ true

-- ---- canonical lexemes

-- the grammar derives a command from its canonical lexemes
abbrev pub CanonicalIsDerived : Type 0
CanonicalIsDerived = (lexemes : Lexemes) (x : Command) → IsCommand lexemes x → IsCommand (command_lexemes x) x

-- within the limits they are parsed as this command again
abbrev pub CanonicalIsParsed : Type 0
CanonicalIsParsed = (lexemes : Lexemes) (x : Command) → IsCommand lexemes x → passed_limit (command_shape x) ≡ None
    → whole command (command_lexemes x) ≡ Ok x

-- and open no more brackets than a line may
abbrev pub CanonicalIsShallow : Type 0
CanonicalIsShallow = (x : Command) → passed_limit (command_shape x) ≡ None → is_too_deep MAX_OPEN (command_lexemes x) ≡ false

-- and are lexemes that a line can hold, where those are that the command was derived from
abbrev pub CanonicalIsProper : Type 0
CanonicalIsProper = (lexemes : Lexemes) (x : Command) → IsCommand lexemes x → AreProper lexemes → AreProper (command_lexemes x)

-- the canonical text of a command that was read is read as this command again
abbrev pub CanonicalTextIsRead : Type 0
CanonicalTextIsRead = (bytes : Bytes) (x : Command) → command_of bytes ≡ Ok x → command_of (command_text x) ≡ Ok x

-- and is UTF-8
abbrev pub CanonicalTextIsUtf8 : Type 0
CanonicalTextIsUtf8 = (bytes : Bytes) (x : Command) → command_of bytes ≡ Ok x → IsUtf8 (command_text x)

-- and has no line feed, so that it is one line
abbrev pub CanonicalTextIsOneLine : Type 0
CanonicalTextIsOneLine = (bytes : Bytes) (x : Command) → command_of bytes ≡ Ok x → list_any (λ byte. byte == 10) (command_text x) ≡ false
