-- Machinery: reading as functions, by the parsers. The laws of LineReading say that they read and refuse exactly as it does.
use Rattle.std.specs.Prelude.{ℕ, ◌+◌, List, length, Option, Some, None, Result, Ok, Err, if◌then◌else◌, map, nat_lt}
use Rattle.std.specs.Str.{is_utf8}
use Rattle.gp_lexer.specs.Lexing.{Lexed, lexed}
use Rattle.gp_grammar.specs.declared.limits.TheConstants.{MAX_LINE_LENGTH, MAX_OPEN}
use Rattle.gp_grammar.specs.Syntax.{Lexemes, Bytes, Command, ScriptLine, Question}
use Rattle.gp_grammar.specs.Depth.{is_too_deep}
use Rattle.gp_grammar.specs.Limits.{Limit, depth, Shape, command_shape, line_shape, question_shape, passed_limit}
use Rattle.gp_grammar.specs.LineReading.{Fault, too_long, not_utf8, lexical, syntax, over, lexeme_column}
use Rattle.gp_grammar.specs.Parsing.{Outcome, Parser, whole}
use Rattle.gp_grammar.specs.CommandParsing.{command, script_line}
use Rattle.gp_grammar.specs.QuestionParsing.{question}

abbrev pub within_shape : {A : Type 0} → A → Option Limit → Result A Fault
within_shape x None = Ok x
within_shape x (Some limit) = Err (over limit)

abbrev pub placed : {A : Type 0} → (A → Shape) → Lexemes → List ℕ → ℕ → Outcome A → Result A Fault
placed shape lexemes columns end (Ok x) = within_shape x (passed_limit (shape x))
placed shape lexemes columns end (Err rest) = Err (syntax (lexeme_column lexemes columns end rest))

abbrev pub read_lexemes : {A : Type 0} → Parser A → (A → Shape) → Lexemes → List ℕ → ℕ → Result A Fault
read_lexemes parser shape lexemes columns end =
    if is_too_deep MAX_OPEN lexemes then Err (over depth) else placed shape lexemes columns end (whole parser lexemes)

abbrev pub read_lexed : {A : Type 0} → Parser A → (A → Shape) → ℕ → Lexed → Result A Fault
read_lexed parser shape end (Err column) = Err (lexical column)
read_lexed parser shape end (Ok l) = read_lexemes parser shape l.0 l.1 end

abbrev pub read_text : {A : Type 0} → Parser A → (A → Shape) → Bytes → Result A Fault
read_text parser shape bytes =
    if is_utf8 bytes then read_lexed parser shape (length bytes + 1) (lexed bytes) else Err not_utf8

abbrev pub read_line : {A : Type 0} → Parser A → (A → Shape) → Bytes → Result A Fault
read_line parser shape bytes = if nat_lt MAX_LINE_LENGTH (length bytes) then Err too_long else read_text parser shape bytes

-- a command without a session, of any length
abbrev pub command_of : Bytes → Result Command Fault
command_of = read_text command command_shape

abbrev pub script_line_of : Bytes → Result ScriptLine Fault
script_line_of = read_line script_line line_shape

abbrev pub question_of : Bytes → Result Question Fault
question_of = read_line question question_shape

-- the numbered lines, each with what becomes of it
abbrev pub read_lines : {A : Type 0} → (Bytes → Result A Fault) → List (ℕ × Bytes) → List (ℕ × Result A Fault)
read_lines read lines = map (λ (line : ℕ × Bytes). (line.0, read line.1)) lines
