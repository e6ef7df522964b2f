-- The answers to the questions that a file is read as are those to its bytes, and it is read as no others.
use Rattle.std.proofs.Common.{◌≡◌, ℕ, ◌||◌, Bool, List, [], ◌∷◌, refl, ap}
use Rattle.std.specs.List.{list_any}
use Rattle.std.proofs.lemmas.List.Folds.{flat_map-map}
use Rattle.gp_base.specs.declared.table.Table.{Table}
use Rattle.gp_grammar.specs.Reading.{question_of, read_lines}
use Rattle.gp_grammar.specs.Syntax as y
use Rattle.gp_grammar.proofs.ReadOnce.{questions-one, questions-read}
use Rattle.gp_syntax.specs.Lines.{script_lines}
use Rattle.gp_ask.specs.declared.answered.Answered.{Answered}
use Rattle.gp_ask.specs.declared.format.Format.{Format}
use Rattle.gp_ask.specs.Questions.{AreQuestions, ReadQuestion, answer_texts, is_refused, read_answer, read_answer_text, refuses_some}
use Rattle.gp_ask.specs.QuestionFiles.{answers_text, has_refused, line_answer_in, questions_as_read}

pub are-questions : (file : List ℕ) → AreQuestions file (questions_as_read file)
are-questions file = questions-read (script_lines file)

pub one-file : (file : List ℕ) (questions : List ReadQuestion) → AreQuestions file questions → questions ≡ questions_as_read file
one-file file questions are = questions-one (script_lines file) questions are

module _ (format : Format) (tables : List Table) (answers : y.Question → Answered) where
  pub texts-read : (file : List ℕ) → answer_texts format tables answers (questions_as_read file) ≡ answers_text format tables answers file
  texts-read file = flat_map-map (read_answer_text format tables answers) (λ (line : ℕ × List ℕ). (line.0, question_of line.1)) (script_lines file)

  some-read : (lines : List (ℕ × List ℕ)) → list_any (λ (line : ReadQuestion). is_refused (read_answer format tables answers line)) (read_lines question_of lines)
      ≡ list_any (λ (line : ℕ × List ℕ). is_refused (line_answer_in format tables answers line)) lines
  some-read [] = refl
  some-read (line ∷ lines) = ap (λ (b : Bool). is_refused (line_answer_in format tables answers line) || b) (some-read lines)

  pub refusals-read : (file : List ℕ) → refuses_some format tables answers (questions_as_read file) ≡ has_refused format tables answers file
  refusals-read file = some-read (script_lines file)
