-- Part of the statement: what a line is read as, or its refusal, which is the first fault in the order of the tests: length, encoding,
-- lexemes, open brackets, syntax, shape.
use Rattle.std.specs.Prelude.{◌≡◌, ℕ, ◌+◌, ◌-◌, ◌≤◌, ◌<◌, true, false, List, [], ◌∷◌, length, Some, None, Result, Ok, Err, slice_index_or}
use Rattle.std.specs.Str.{IsUtf8}
use Rattle.gp_lexer.specs.Lexing.{lexed}
use Rattle.gp_grammar.specs.declared.limits.TheConstants.{MAX_LINE_LENGTH, MAX_OPEN}
use Rattle.gp_grammar.specs.Syntax.{Lexemes, Bytes}
use Rattle.gp_grammar.specs.Places.{Stops}
use Rattle.gp_grammar.specs.Depth.{is_too_deep}
use Rattle.gp_grammar.specs.Limits.{Limit, depth, Shape, passed_limit}

-- why a text is refused; columns count from 1
pub data Fault : Type 0 where
  too_long not_utf8 : Fault
  lexical syntax : ℕ → Fault
  over : Limit → Fault

-- the column of the first lexeme of the rest, or that after the last byte
abbrev pub lexeme_column : Lexemes → List ℕ → ℕ → Lexemes → ℕ
lexeme_column lexemes columns end rest = slice_index_or columns (length lexemes - length rest) end

-- a text is UTF-8, and these are its lexemes and their columns
pub record HasLexemes (bytes : Bytes) (lexemes : Lexemes) (columns : List ℕ) : Type 0 where
  pub utf8 : IsUtf8 bytes
  pub found : lexed bytes ≡ Ok (lexemes, columns)

module _ {A : Type 0} (Is : Lexemes → A → Type 0) (shape : A → Shape) where
  -- the tests in their order: UTF-8, lexemes, brackets, the grammar, the limits
  pub record ReadsText (bytes : Bytes) (x : A) : Type 0 where
    pub lexemes : Lexemes
    pub columns : List ℕ
    pub lexical : HasLexemes bytes lexemes columns
    pub shallow : is_too_deep MAX_OPEN lexemes ≡ false
    pub derived : Is lexemes x
    pub within : passed_limit (shape x) ≡ None

  -- a text is refused, each time after the tests before
  pub data RefusesText (bytes : Bytes) : Fault → Type 0 where
    encoding : ¬ IsUtf8 bytes → RefusesText bytes not_utf8
    unlexed : (column : ℕ) → IsUtf8 bytes → lexed bytes ≡ Err column → RefusesText bytes (lexical column)
    deep : (lexemes : Lexemes) (columns : List ℕ) → HasLexemes bytes lexemes columns → is_too_deep MAX_OPEN lexemes ≡ true
        → RefusesText bytes (over depth)
    stopped : (lexemes rest : Lexemes) (columns : List ℕ) → HasLexemes bytes lexemes columns → is_too_deep MAX_OPEN lexemes ≡ false
        → Stops Is lexemes rest
        → RefusesText bytes (syntax (lexeme_column lexemes columns (length bytes + 1) rest))
    limited : (lexemes : Lexemes) (columns : List ℕ) (x : A) (limit : Limit) → HasLexemes bytes lexemes columns → is_too_deep MAX_OPEN lexemes ≡ false
        → Is lexemes x → passed_limit (shape x) ≡ Some limit → RefusesText bytes (over limit)

  -- the length of a line is tested before its text
  pub record ReadsLine (bytes : Bytes) (x : A) : Type 0 where
    pub short : length bytes ≤ MAX_LINE_LENGTH
    pub text : ReadsText bytes x

  pub data RefusesLine (bytes : Bytes) : Fault → Type 0 where
    long : MAX_LINE_LENGTH < length bytes → RefusesLine bytes too_long
    refused : (fault : Fault) → length bytes ≤ MAX_LINE_LENGTH → RefusesText bytes fault → RefusesLine bytes fault

  -- what becomes of a line: it is read as this, or refused for this fault
  abbrev pub IsReadAs : Bytes → Result A Fault → Type 0
  IsReadAs bytes (Ok x) = ReadsLine bytes x
  IsReadAs bytes (Err fault) = RefusesLine bytes fault

  -- numbered lines, and what becomes of each of them
  pub data AreReadAs : List (ℕ × Bytes) → List (ℕ × Result A Fault) → Type 0 where
    no_lines : AreReadAs [] []
    next_line : (number : ℕ) (bytes : Bytes) (reading : Result A Fault) (lines : List (ℕ × Bytes)) (readings : List (ℕ × Result A Fault))
        → IsReadAs bytes reading → AreReadAs lines readings → AreReadAs ((number, bytes) ∷ lines) ((number, reading) ∷ readings)

  -- exactly one list says what becomes of these lines
  abbrev pub AreReadOnce : List (ℕ × Bytes) → Type 0
  AreReadOnce lines =
      (readings : List (ℕ × Result A Fault)) × AreReadAs lines readings × ((others : List (ℕ × Result A Fault)) → AreReadAs lines others → others ≡ readings)
