-- Numbered lines are read in exactly one way, which is that of the parser.
use Rattle.gp_grammar.proofs.Prelude.{◌≡◌, ℕ, List, [], ◌∷◌, Result, Ok, Err, refl, sym, Lexemes, Bytes, ScriptLine, Question, capped_line, capped_question, IsScriptLine, script_line, CapsFairly, Shape, line_shape, question_shape, Fault, Parser, IsQuestion, question, read_line, question_of, script_line_of}
use Rattle.gp_grammar.specs.Laws.{ReadsLinesOnce}
use Rattle.gp_grammar.specs.LineReading.{IsReadAs, AreReadAs, no_lines, next_line}
use Rattle.gp_grammar.specs.Reading.{read_lines}
use Rattle.gp_grammar.proofs.LineLaws.{lines-read, lines-refused}
use Rattle.gp_grammar.proofs.ParserLaws.{Lawful, lawful-line, lawful-question}
use Rattle.gp_grammar.proofs.ShapeLemmas.{lines-fair, questions-fair}

module _ {A : Type 0} (p : Parser A) (Is : Lexemes → A → Type 0) (cap : A → A) (shape : A → Shape) (w : Lawful p Is cap) (f : CapsFairly p Is cap shape) where
  is-read : (bytes : Bytes) (r : Result A Fault) → read_line p shape bytes ≡ r → IsReadAs Is shape bytes r
  is-read bytes (Ok x) e = (lines-read p Is cap shape w f bytes x).0 e
  is-read bytes (Err fault) e = (lines-refused p Is cap shape w f bytes fault).0 e

  read-is : (bytes : Bytes) (r : Result A Fault) → IsReadAs Is shape bytes r → read_line p shape bytes ≡ r
  read-is bytes (Ok x) is = (lines-read p Is cap shape w f bytes x).1 is
  read-is bytes (Err fault) is = (lines-refused p Is cap shape w f bytes fault).1 is

  are-read : (lines : List (ℕ × Bytes)) → AreReadAs Is shape lines (read_lines (read_line p shape) lines)
  are-read [] = no_lines
  are-read (line ∷ lines) = next_line line.0 line.1 (read_line p shape line.1) lines (read_lines (read_line p shape) lines) (is-read line.1 (read_line p shape line.1) refl) (are-read lines)

  read-are : (lines : List (ℕ × Bytes)) (readings : List (ℕ × Result A Fault)) → AreReadAs Is shape lines readings → readings ≡ read_lines (read_line p shape) lines
  read-are _ _ no_lines = refl
  read-are _ _ (next_line number bytes reading lines readings is are) =
      let first : reading ≡ read_line p shape bytes = sym (read-is bytes reading is) in
      let others = read-are lines readings are in
      λ i. (number, first i) ∷ others i

  once : ReadsLinesOnce Is shape
  once lines = (read_lines (read_line p shape) lines, are-read lines, read-are lines)

-- ---- the lines of scripts, and of files of questions

pub script-read : (lines : List (ℕ × Bytes)) → AreReadAs IsScriptLine line_shape lines (read_lines script_line_of lines)
script-read = are-read script_line IsScriptLine capped_line line_shape lawful-line lines-fair

pub script-one : (lines : List (ℕ × Bytes)) (readings : List (ℕ × Result ScriptLine Fault)) → AreReadAs IsScriptLine line_shape lines readings → readings ≡ read_lines script_line_of lines
script-one = read-are script_line IsScriptLine capped_line line_shape lawful-line lines-fair

pub scripts-once : ReadsLinesOnce IsScriptLine line_shape
scripts-once = once script_line IsScriptLine capped_line line_shape lawful-line lines-fair

pub questions-read : (lines : List (ℕ × Bytes)) → AreReadAs IsQuestion question_shape lines (read_lines question_of lines)
questions-read = are-read question IsQuestion capped_question question_shape lawful-question questions-fair

pub questions-one : (lines : List (ℕ × Bytes)) (readings : List (ℕ × Result Question Fault)) → AreReadAs IsQuestion question_shape lines readings → readings ≡ read_lines question_of lines
questions-one = read-are question IsQuestion capped_question question_shape lawful-question questions-fair

pub questions-once : ReadsLinesOnce IsQuestion question_shape
questions-once = once question IsQuestion capped_question question_shape lawful-question questions-fair
