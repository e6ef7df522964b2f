-- Part of the statement: the answers to a file of questions. Its lines are those of a script: blank lines and comments get no answer, but are counted.
use Rattle.std.specs.Prelude.{ℕ, Bool, true, false, IfOk, List, Some, Result, Ok, Err}
use Rattle.std.specs.List.{AllByRecursion, flat_map, list_any}
use Rattle.gp_base.specs.declared.table.Table.{Table}
use Rattle.gp_grammar.specs.Limits.{question_shape}
use Rattle.gp_grammar.specs.LineReading.{Fault, AreReadAs}
use Rattle.gp_grammar.specs.QuestionGrammar.{IsQuestion}
use Rattle.gp_grammar.specs.Syntax as y
use Rattle.gp_syntax.specs.Lines.{script_lines}
use Rattle.gp_syntax.specs.Refusals.{refusal_of_fault}
use Rattle.gp_ask.specs.declared.answered.Answered.{Answered}
use Rattle.gp_ask.specs.declared.answered.Answered.TheVariants.{Checked, Refused}
use Rattle.gp_ask.specs.declared.format.Format.{Format}
use Rattle.gp_ask.specs.Formats.{answers_in, text_in}

-- a line that gets an answer: its number, and the question that it is read as, or the fault that it is refused for
abbrev pub ReadQuestion : Type 0
ReadQuestion = ℕ × Result y.Question Fault

-- these are the questions of the file
abbrev pub AreQuestions : List ℕ → List ReadQuestion → Type 0
AreQuestions file questions = AreReadAs IsQuestion question_shape (script_lines file) questions

-- each line that is read as a question
abbrev pub EachQuestion : (y.Question → Type 0) → List ReadQuestion → Type 0
EachQuestion Is questions = AllByRecursion (λ (line : ReadQuestion). IfOk line.1 Is) questions

-- a refusal, or a dump that is not that of a history: the exit status tells of both
abbrev pub is_refused : Answered → Bool
is_refused (Refused refusal) = true
is_refused (Checked (Some line)) = true
is_refused other = false

-- A line that is read as this; a fault in its text refuses it. The answers are a parameter: those of a dump, or those that a history held.
abbrev pub answered : (y.Question → Answered) → Result y.Question Fault → Answered
answered answers (Err fault) = Refused (refusal_of_fault fault)
answered answers (Ok question) = answers question

module _ (format : Format) (tables : List Table) (answers : y.Question → Answered) where
  -- the answer to a line in a format, where these are the tables of the dump
  abbrev pub read_answer : ReadQuestion → Answered
  read_answer line = answered (answers_in format tables answers) line.1

  abbrev pub read_answer_text : ReadQuestion → List ℕ
  read_answer_text line = text_in format line.0 (read_answer line)

  -- the answers to the lines, one after another
  abbrev pub answer_texts : List ReadQuestion → List ℕ
  answer_texts questions = flat_map read_answer_text questions

  -- whether some line is refused
  abbrev pub refuses_some : List ReadQuestion → Bool
  refuses_some questions = list_any (λ (line : ReadQuestion). is_refused (read_answer line)) questions
