-- Machinery: the answers to a file of questions as functions of its bytes, by the parser. They are those to the questions that the file is read as.
use Rattle.std.specs.Prelude.{ℕ, Bool, IfOk, List, Result}
use Rattle.std.specs.List.{flat_map, list_any}
use Rattle.gp_base.specs.declared.table.Table.{Table}
use Rattle.gp_grammar.specs.LineReading.{Fault}
use Rattle.gp_grammar.specs.Reading.{question_of, read_lines}
use Rattle.gp_grammar.specs.Syntax as y
use Rattle.gp_machine.specs.Entries.{Entry}
use Rattle.gp_syntax.specs.Lines.{script_lines}
use Rattle.gp_ask.specs.declared.answered.Answered.{Answered}
use Rattle.gp_ask.specs.declared.format.Format.{Format}
use Rattle.gp_ask.specs.declared.format.Format.TheVariants.{Text}
use Rattle.gp_ask.specs.ExplainedTexts.{ExplainsQuestion}
use Rattle.gp_ask.specs.Formats.{answers_in, text_in}
use Rattle.gp_ask.specs.Questions.{ReadQuestion, answered, is_refused}

-- the questions that a file is read as
abbrev pub questions_as_read : List ℕ → List ReadQuestion
questions_as_read file = read_lines question_of (script_lines file)

module _ (answers : y.Question → Answered) where
  -- the answer to a line: its number, and its bytes
  abbrev pub line_answer : ℕ × List ℕ → Answered
  line_answer line = answered answers (question_of line.1)

module _ (format : Format) (tables : List Table) (answers : y.Question → Answered) where
  -- the answer to a line in a format
  abbrev pub line_answer_in : ℕ × List ℕ → Answered
  line_answer_in line = line_answer (answers_in format tables answers) line

  abbrev pub line_answer_text : ℕ × List ℕ → List ℕ
  line_answer_text line = text_in format line.0 (line_answer_in line)

  -- the answers to the lines of a file, one after another
  abbrev pub answers_text : List ℕ → List ℕ
  answers_text questions = flat_map line_answer_text (script_lines questions)

  -- whether some question is refused
  abbrev pub has_refused : List ℕ → Bool
  has_refused questions = list_any (λ line. is_refused (line_answer_in line)) (script_lines questions)

-- a line that is read as this
abbrev pub ExplainsRead : List Entry → Result y.Question Fault → Type 0
ExplainsRead entries reading = IfOk reading (ExplainsQuestion entries)

-- what is said of explained questions is said of text: none is exported
abbrev pub ExplainsIn : Format → Type 0 → Type 0
ExplainsIn Text says = says
ExplainsIn format says = Unit {0}
