-- Answers that are written one after another.
use Rattle.std.proofs.Common.{◌≡◌, ℕ, inl, Bool, true, false, ◌||◌, List, [], ◌∷◌, ◌++◌, Result, Ok, Err, refl, sym, ap, ◌∙◌, subst, append_assoc}
use Rattle.std.specs.List.{flat_map, list_any}
use Rattle.std.specs.Result.{IsErrAnd}
use Rattle.std.proofs.lemmas.List.{append-nil}
use Rattle.gp_io.specs.declared.error.SinkStop.{SinkStop}
use Rattle.gp_io.specs.Sink.{SinkState, after_failure, after_write}
use Rattle.gp_syntax.specs.Lines.{script_lines}
use Rattle.gp_grammar.specs.Syntax as y
use Rattle.gp_base.specs.declared.table.Table.{Table}
use Rattle.gp_ask.specs.declared.answered.Answered.{Answered}
use Rattle.gp_dump.specs.Dumps.{Dump}
use Rattle.gp_ask.specs.declared.format.Format.{Format}
use Rattle.gp_ask.specs.declared.format.Format.TheVariants.{Text, Csv, Named, Sql}
use Rattle.gp_ask.specs.Answers.{answer_to}
use Rattle.gp_ask.specs.Computed.{computed_answer, computed_in}
use Rattle.gp_ask.specs.Programs.{program_lines, programs_in}
use Rattle.gp_ask.specs.QuestionFiles.{answers_text, has_refused, line_answer_in, line_answer_text}
use Rattle.gp_ask.specs.Questions.{is_refused}
use Rattle.gprom_cli.specs.declared.status.Status.TheVariants as exit
use Rattle.gprom_cli.specs.Call.{IsWholeLines, WritesOutput, all_written, some_written, write_failed}
use Rattle.gprom_cli.specs.Steps.{WritesAnswers, stop_status}
use Rattle.gprom_cli.proofs.LinesLemmas.{after-lines, answer-lines}
use Rattle.gprom_cli.proofs.WritesLemmas.{IsAnswered, after-nothing, unanswered}
use Rattle.gp_base.proofs.SmallLemmas.{or_nothing}

abbrev pub is_line_refused : Format → List Table → (y.Question → Answered) → ℕ × List ℕ → Bool
is_line_refused format tables answers line = is_refused (line_answer_in format tables answers line)

-- the answers to the lines before were written, and the remaining ones decide the rest
pub record IsProgress (format : Format) (tables : List Table) (answers : y.Question → Answered) (questions : List ℕ) (lines : List (ℕ × List ℕ)) (refused : Bool) (old new : SinkState) : Type 0 where
  pub text : List ℕ
  pub are : IsWholeLines text
  pub grown : new ≡ after_write text old
  pub all : text ++ flat_map (line_answer_text format tables answers) lines ≡ answers_text format tables answers questions
  pub refusals : (refused || list_any (is_line_refused format tables answers) lines) ≡ has_refused format tables answers questions

or-again : (a b c : Bool) → ((a || b) || c) ≡ (a || (b || c))
or-again true b c = refl
or-again false b c = refl

-- parts of a text, in order
joined-behind : (first some rest later : List ℕ) → first ++ ((some ++ rest) ++ later) ≡ (first ++ some) ++ (rest ++ later)
joined-behind first some rest later = ap (λ (t : List ℕ). first ++ t) (append_assoc some rest later) ∙ sym (append_assoc first some (rest ++ later))

module _ (format : Format) (tables : List Table) (answers : y.Question → Answered) (questions : List ℕ) (old new : SinkState) where
  -- one write and another one
  write-twice : (first second : List ℕ) → after_write second (after_write first old) ≡ after_write (first ++ second) old
  write-twice first second = λ i. record { taken = append_assoc old.taken first second i; failed = old.failed }

  -- before the first line
  pub starts : (lines : List (ℕ × List ℕ)) → lines ≡ script_lines questions → IsProgress format tables answers questions lines false old old
  starts lines whole = record {
    text = [];
    are = inl refl;
    grown = after-nothing old;
    all = ap (flat_map (line_answer_text format tables answers)) whole;
    refusals = ap (list_any (is_line_refused format tables answers)) whole;
  }

  -- after the last line
  pub ends : (refused : Bool) → IsProgress format tables answers questions [] refused old new → WritesAnswers (answers_text format tables answers questions) (has_refused format tables answers questions) old new (Ok refused)
  ends refused way =
      let whole : way.text ≡ answers_text format tables answers questions = sym (append-nil way.text) ∙ way.all in
      record { refused = sym (or_nothing refused) ∙ way.refusals; written = way.grown ∙ ap (λ (text : List ℕ). after_write text old) whole }

  module _ (line : ℕ × List ℕ) (lines : List (ℕ × List ℕ)) (refused : Bool) (newest : SinkState) where
    abbrev line_text : List ℕ
    line_text = line_answer_text format tables answers line

    abbrev later_text : List ℕ
    later_text = flat_map (line_answer_text format tables answers) lines

    -- all answers, by the parts of this one
    whole-of : (way : IsProgress format tables answers questions (line ∷ lines) refused old new) (parts : List ℕ) → line_text ≡ parts → answers_text format tables answers questions ≡ way.text ++ (parts ++ later_text)
    whole-of way parts split = sym way.all ∙ ap (λ (t : List ℕ). way.text ++ (t ++ later_text)) split

    -- one more line was answered
    pub goes_on : (one : Bool) → IsProgress format tables answers questions (line ∷ lines) refused old new → WritesAnswers line_text (is_line_refused format tables answers line) new newest (Ok one)
        → IsProgress format tables answers questions lines (refused || one) old newest
    goes_on one way wrote = record {
      text = way.text ++ line_text;
      are = after-lines way.text line_text way.are (answer-lines format tables answers line);
      grown = wrote.written ∙ ap (after_write line_text) way.grown ∙ write-twice way.text line_text;
      all = append_assoc way.text line_text later_text ∙ way.all;
      refusals =
          or-again refused one (list_any (is_line_refused format tables answers) lines)
          ∙ ap (λ (b : Bool). refused || (b || list_any (is_line_refused format tables answers) lines)) wrote.refused ∙ way.refusals;
    }

    -- the answer to a line was not written, or a part of its lines
    stops-in : (stop : SinkStop) → IsProgress format tables answers questions (line ∷ lines) refused old new → WritesOutput line_text exit.Done new newest (stop_status stop)
        → WritesOutput (answers_text format tables answers questions) exit.Done old newest (stop_status stop)
    stops-in stop way (all_written all is) = absurd (unanswered stop (subst IsAnswered (sym is) tt))
    stops-in stop way (some_written some rest split are grown memory) =
        some_written (way.text ++ some) (rest ++ later_text) (whole-of way (some ++ rest) split ∙ joined-behind way.text some rest later_text) (after-lines way.text some way.are are)
        (grown ∙ ap (after_write some) way.grown ∙ write-twice way.text some) memory
    stops-in stop way (write_failed some next rest split are grown unwritten) =
        write_failed (way.text ++ some) next (rest ++ later_text)
        (whole-of way (some ++ (next ++ rest)) split ∙ joined-behind way.text some (next ++ rest) later_text ∙ ap (λ (t : List ℕ). (way.text ++ some) ++ t) (append_assoc next rest later_text))
        (after-lines way.text some way.are are) (grown ∙ ap (λ (k : SinkState). after_failure next (after_write some k)) way.grown ∙ ap (after_failure next) (write-twice way.text some)) unwritten

    pub stops : (stop : SinkStop) → IsProgress format tables answers questions (line ∷ lines) refused old new → WritesAnswers line_text (is_line_refused format tables answers line) new newest (Err stop)
        → WritesAnswers (answers_text format tables answers questions) (has_refused format tables answers questions) old newest (Err stop)
    stops stop way wrote = record { refused = tt; written = stops-in stop way wrote.written }

    -- the same, where the error is handed on
    pub stops_with : (result : Result Bool SinkStop) (stop : SinkStop) → IsErrAnd result (λ other. other ≡ stop) → IsProgress format tables answers questions (line ∷ lines) refused old new
        → WritesAnswers line_text (is_line_refused format tables answers line) new newest (Err stop) → WritesAnswers (answers_text format tables answers questions) (has_refused format tables answers questions) old newest result
    stops_with (Ok value) stop same way wrote = absurd same
    stops_with (Err other) stop same way wrote =
        subst (λ (e : SinkStop). WritesAnswers (answers_text format tables answers questions) (has_refused format tables answers questions) old newest (Err e)) (sym same) (stops stop way wrote)

-- ---- answers that are the same

module _ (format : Format) (tables : List Table) (answers others : y.Question → Answered) (same : (question : y.Question) → answers question ≡ others question) (questions : List ℕ) where
  pub same-texts : answers_text format tables answers questions ≡ answers_text format tables others questions
  same-texts = λ i. answers_text format tables (λ question. same question i) questions

  pub same-refusals : has_refused format tables answers questions ≡ has_refused format tables others questions
  same-refusals = λ i. has_refused format tables (λ question. same question i) questions

-- those that are computed for a format are those by its programs, if those as text are
pub same-computed : (format : Format) (dump : Dump) → ((question : y.Question) → computed_answer dump question ≡ answer_to program_lines dump question)
    → (question : y.Question) → computed_in format dump question ≡ answer_to (programs_in format) dump question
same-computed Text dump same question = same question
same-computed Csv dump same question = same question
same-computed Named dump same question = same question
same-computed Sql dump same question = refl
