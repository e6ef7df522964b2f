-- The ends of the parts of a call are what the call comes to: files are read as the parser reads them.
use Rattle.std.proofs.Common.{◌≡◌, ℕ, ◌+◌, ◌<◌, ◌≤◌, List, [], ◌∷◌, ◌++◌, length, Some, Ok, refl, sym, ap, ◌∙◌, subst, append_assoc, codes}
use Rattle.std.specs.List.{sum_by}
use Rattle.std.proofs.lemmas.List.{length-map}
use Rattle.std.proofs.lemmas.List.Sums.{sum_by-cons}
use Rattle.gp_base.specs.Annotated.{monomials, unannotated}
use Rattle.gp_base.specs.Tokens.{Monomial}
use Rattle.gp_base.specs.declared.table.Table.{Table}
use Rattle.gp_grammar.specs.Reading.{question_of, read_lines, script_line_of}
use Rattle.gp_grammar.specs.Syntax as y
use Rattle.gp_io.specs.Events.{Event, Replaced, NotReplaced}
use Rattle.gp_io.specs.Sink.{SinkState}
use Rattle.gp_log.specs.LogFacts.{tables_in}
use Rattle.gp_machine.specs.State.{State}
use Rattle.gp_syntax.specs.Lines.{script_lines}
use Rattle.gp_script.specs.History.{NumberedReply, ReadLine, has_refusal, last_state, replies_text, replies_to}
use Rattle.gp_script.specs.Scripts.{final_state, lines_as_read, replies_of}
use Rattle.gp_script.specs.declared.script.TheConstants.{MAX_SCRIPT_LENGTH}
use Rattle.gp_script.proofs.ReadHistory.{is-script, one-script, replies-read, state-read}
use Rattle.gp_dump.specs.declared.dump.TheConstants.{MAX_DUMP_LENGTH}
use Rattle.gp_dump.specs.Dumps.{Dump, dump_of, spans_in, written_text}
use Rattle.gp_dump.specs.Rules.{WellFormed}
use Rattle.gp_csv.specs.Faults.{refuse}
use Rattle.gp_load.specs.Loading.{LoadsText, loaded_of}
use Rattle.gp_ask.specs.declared.answered.Answered.{Answered}
use Rattle.gp_ask.specs.declared.format.Format.{Format}
use Rattle.gp_ask.specs.Printed.{held_to}
use Rattle.gp_ask.specs.Answers.{answer_to}
use Rattle.gp_ask.specs.Formats.{heading_in}
use Rattle.gp_ask.specs.Programs.{programs_in}
use Rattle.gp_ask.specs.QuestionFiles.{answers_text, has_refused, questions_as_read}
use Rattle.gp_ask.specs.Questions.{ReadQuestion, answered}
use Rattle.gp_ask.proofs.ReadAnswers.{are-questions, one-file, refusals-read, texts-read}
use Rattle.gprom_cli.specs.declared.load.TheConstants.{MAX_SHEET_LENGTH}
use Rattle.gprom_cli.specs.declared.status.Status.{Status}
use Rattle.gprom_cli.specs.declared.status.Status.TheVariants as exit
use Rattle.gprom_cli.specs.declared.summary.Summary.{Summary}
use Rattle.gprom_cli.specs.Args.{Run, Load}
use Rattle.gprom_cli.specs.Generated.{generated_script}
use Rattle.gprom_cli.specs.Summary.{IsSummary, committed_in, lost_in, questions_about, row_count, summary_for}
use Rattle.gprom_cli.specs.Summaries.{line_rows, summary_by, summary_of}
use Rattle.gprom_cli.specs.Call as c
use Rattle.gprom_cli.specs.Call.{RunsScript, WritesOutput, answered_status, asked_status, asked_text, history_dump, loaded_message, message, read_of, sheet_message}
use Rattle.gprom_cli.specs.Steps.{Answers, Ends, file_answers, file_refused, file_text, is_answered, script_dump}

-- ---- scripts

pub dump-read : (script : List ℕ) → history_dump (lines_as_read script) ≡ script_dump script
dump-read script = ap (λ (state : State (Unit {0})). written_text (dump_of state)) (state-read unannotated script)

pub text-read : (script : List ℕ) → replies_text (replies_to (lines_as_read script)) ≡ replies_text (replies_of script)
text-read script = ap replies_text (replies-read script)

pub status-read : (script : List ℕ) → answered_status (has_refusal (replies_to (lines_as_read script))) ≡ answered_status (has_refusal (replies_of script))
status-read script = ap (λ (replies : List NumberedReply). answered_status (has_refusal replies)) (replies-read script)

-- ---- questions

-- ---- summaries

-- a summary, by the states of a history
abbrev summary_at : ℕ → List ReadLine → State (Unit {0}) → State Monomial → List ReadQuestion → Summary
summary_at rounds lines state held questions =
    let dump = dump_of state in
    record {
      rounds = rounds;
      lines = length lines;
      committed = length (committed_in dump.entries);
      lost = lost_in dump.entries;
      spans = spans_in dump.tables;
      questions = length questions;
      rows = sum_by (λ (line : ReadQuestion). row_count (answered (held_to held) line.1)) questions;
    }

rows-read : (answers : y.Question → Answered) (lines : List (ℕ × List ℕ))
    → sum_by (λ (line : ReadQuestion). row_count (answered answers line.1)) (read_lines question_of lines) ≡ sum_by (line_rows answers) lines
rows-read answers [] = refl
rows-read answers (line ∷ lines) =
    sum_by-cons (λ (line : ReadQuestion). row_count (answered answers line.1)) (line.0, question_of line.1) (read_lines question_of lines)
    ∙ ap (λ (n : ℕ). line_rows answers line + n) (rows-read answers lines)
    ∙ sym (sum_by-cons (line_rows answers) line lines)

summary-at : (rounds : ℕ) (script file : List ℕ) (state : State (Unit {0})) (held : State Monomial)
    → summary_by rounds script (dump_of state) (held_to held) file ≡ summary_at rounds (lines_as_read script) state held (questions_as_read file)
summary-at rounds script file state held =
    let lines : length (script_lines script) ≡ length (lines_as_read script) = sym (length-map (script_lines script) (λ (line : ℕ × List ℕ). (line.0, script_line_of line.1))) in
    let questions : length (script_lines file) ≡ length (questions_as_read file) = sym (length-map (script_lines file) (λ (line : ℕ × List ℕ). (line.0, question_of line.1))) in
    let rows = sym (rows-read (held_to held) (script_lines file)) in
    λ i. record {
      rounds = rounds;
      lines = lines i;
      committed = length (committed_in (dump_of state).entries);
      lost = lost_in (dump_of state).entries;
      spans = spans_in (dump_of state).tables;
      questions = questions i;
      rows = rows i;
    }

-- the questions about the history of the generated script
abbrev asked_of : ℕ → List ℕ
asked_of rounds = questions_about (last_state unannotated (lines_as_read (generated_script rounds))).entries

summary-read : (rounds : ℕ) → summary_of rounds ≡ summary_for rounds (lines_as_read (generated_script rounds)) (questions_as_read (asked_of rounds))
summary-read rounds =
    let script = generated_script rounds in
    let state = sym (state-read unannotated script) in
    let held = sym (state-read monomials script) in
    summary-at rounds script (questions_about (final_state unannotated script).entries) (final_state unannotated script) (final_state monomials script)
    ∙ (λ i. summary_at rounds (lines_as_read script) (state i) (held i) (questions_as_read (questions_about (state i).entries)))

pub is-summary : (rounds : ℕ) → IsSummary rounds (summary_of rounds)
is-summary rounds = record {
  lines = lines_as_read (generated_script rounds);
  are = is-script (generated_script rounds);
  questions = questions_as_read (asked_of rounds);
  asked = are-questions (asked_of rounds);
  is = summary-read rounds;
}

pub one-summary : (rounds : ℕ) (summary : Summary) → IsSummary rounds summary → summary ≡ summary_of rounds
one-summary rounds summary made =
    let lines = one-script (generated_script rounds) made.lines made.are in
    let questions : made.questions ≡ questions_as_read (questions_about (last_state unannotated made.lines).entries) = one-file (questions_about (last_state unannotated made.lines).entries) made.questions made.asked in
    made.is
    ∙ ap (summary_for rounds made.lines) questions
    ∙ ap (λ (ls : List ReadLine). summary_for rounds ls (questions_as_read (questions_about (last_state unannotated ls).entries))) lines
    ∙ sym (summary-read rounds)

-- ---- the ends of `run`, after the script was read

pub grows-twice : (start before after : List Event) (first second : Event) → before ≡ start ++ first ∷ [] → after ≡ before ++ second ∷ [] → after ≡ start ++ first ∷ second ∷ []
grows-twice start before after first second once twice =
    twice ∙ ap (λ (events : List Event). events ++ second ∷ []) once ∙ append_assoc start (first ∷ []) (second ∷ [])

module _ (name dump script : List ℕ) (short : length script ≤ MAX_SCRIPT_LENGTH) (start before after : List Event) (there : before ≡ start ++ read_of name MAX_SCRIPT_LENGTH script ∷ [])
    (sink sink' : SinkState) (s : Status) where
  abbrev runs : RunsScript script (lines_as_read script)
  runs = record { short = short; are = is-script script }

  abbrev IsRun : Type 0
  IsRun = Ends (Some (Run name dump)) start after sink sink' s

  small : length (script_dump script) ≤ MAX_DUMP_LENGTH → length (history_dump (lines_as_read script)) ≤ MAX_DUMP_LENGTH
  small few = subst (λ (text : List ℕ). length text ≤ MAX_DUMP_LENGTH) (sym (dump-read script)) few

  pub run-long : MAX_DUMP_LENGTH < length (script_dump script) → after ≡ before → WritesOutput (message (codes "too long") dump) exit.TooLong sink sink' s → IsRun
  run-long long same writes = record {
    events = read_of name MAX_SCRIPT_LENGTH script ∷ [];
    grown = same ∙ there;
    outcome = c.comes_to (message (codes "too long") dump) exit.TooLong
        (c.long_dump name dump script (lines_as_read script) runs (subst (λ (text : List ℕ). MAX_DUMP_LENGTH < length text) (sym (dump-read script)) long)) writes;
  }

  pub run-lost : length (script_dump script) ≤ MAX_DUMP_LENGTH → after ≡ before ++ NotReplaced dump (script_dump script) ∷ []
      → WritesOutput (message (codes "cannot write") dump) exit.Unwritten sink sink' s → IsRun
  run-lost few lost writes =
      let text = history_dump (lines_as_read script) in
      record {
        events = read_of name MAX_SCRIPT_LENGTH script ∷ NotReplaced dump text ∷ [];
        grown = grows-twice start before after (read_of name MAX_SCRIPT_LENGTH script) (NotReplaced dump text) there
            (lost ∙ ap (λ (t : List ℕ). before ++ NotReplaced dump t ∷ []) (sym (dump-read script)));
        outcome = c.comes_to (message (codes "cannot write") dump) exit.Unwritten (c.lost_dump name dump script (lines_as_read script) runs (small few)) writes;
      }

  pub run-replied : length (script_dump script) ≤ MAX_DUMP_LENGTH → after ≡ before ++ Replaced dump (script_dump script) ∷ []
      → WritesOutput (replies_text (replies_of script)) (answered_status (has_refusal (replies_of script))) sink sink' s → IsRun
  run-replied few done writes =
      let text = history_dump (lines_as_read script) in
      let replies = replies_to (lines_as_read script) in
      let due : WritesOutput (replies_text replies) (answered_status (has_refusal replies)) sink sink' s =
      subst (λ (t : List ℕ). WritesOutput t (answered_status (has_refusal replies)) sink sink' s) (sym (text-read script))
      (subst (λ (e : Status). WritesOutput (replies_text (replies_of script)) e sink sink' s) (sym (status-read script)) writes) in
      record {
        events = read_of name MAX_SCRIPT_LENGTH script ∷ Replaced dump text ∷ [];
        grown = grows-twice start before after (read_of name MAX_SCRIPT_LENGTH script) (Replaced dump text) there
            (done ∙ ap (λ (t : List ℕ). before ++ Replaced dump t ∷ []) (sym (dump-read script)));
        outcome = c.comes_to (replies_text replies) (answered_status (has_refusal replies)) (c.replied name dump script (lines_as_read script) runs (small few)) due;
      }

  pub run-memory : after ≡ before → sink' ≡ sink → s ≡ exit.OutOfMemory → IsRun
  run-memory same quiet memory = record {
    events = read_of name MAX_SCRIPT_LENGTH script ∷ [];
    grown = same ∙ there;
    outcome = c.out_of_memory (c.files (Run name dump) [] name MAX_SCRIPT_LENGTH script (c.reads_script name dump) short) quiet memory;
  }

-- ---- the ends of `load`, after the sheet was read

module _ (csv table script bytes : List ℕ) (short : length bytes ≤ MAX_SHEET_LENGTH) (start before after : List Event) (there : before ≡ start ++ read_of csv MAX_SHEET_LENGTH bytes ∷ [])
    (sink sink' : SinkState) (s : Status) where
  abbrev IsLoad : Type 0
  IsLoad = Ends (Some (Load csv table script)) start after sink sink' s

  pub load-faulty : (number record_number : ℕ) → loaded_of table bytes ≡ refuse number record_number → after ≡ before
      → WritesOutput (sheet_message number record_number) exit.SheetRefused sink sink' s → IsLoad
  load-faulty number record_number fault same writes = record {
    events = read_of csv MAX_SHEET_LENGTH bytes ∷ [];
    grown = same ∙ there;
    outcome = c.comes_to (sheet_message number record_number) exit.SheetRefused (c.faulty_sheet csv table script bytes number record_number short fault) writes;
  }

  module _ (text : List ℕ) (rows : ℕ) (is : loaded_of table bytes ≡ Ok (text, rows)) where
    pub load-lost : after ≡ before ++ NotReplaced script text ∷ [] → WritesOutput (message (codes "cannot write") script) exit.Unwritten sink sink' s → IsLoad
    load-lost lost writes = record {
      events = read_of csv MAX_SHEET_LENGTH bytes ∷ NotReplaced script text ∷ [];
      grown = grows-twice start before after (read_of csv MAX_SHEET_LENGTH bytes) (NotReplaced script text) there lost;
      outcome = c.comes_to (message (codes "cannot write") script) exit.Unwritten (c.lost_script csv table script bytes text rows short is) writes;
    }

    pub load-done : LoadsText table bytes text → after ≡ before ++ Replaced script text ∷ [] → WritesOutput (loaded_message rows) exit.Done sink sink' s → IsLoad
    load-done loads done writes = record {
      events = read_of csv MAX_SHEET_LENGTH bytes ∷ Replaced script text ∷ [];
      grown = grows-twice start before after (read_of csv MAX_SHEET_LENGTH bytes) (Replaced script text) there done;
      outcome = c.comes_to (loaded_message rows) exit.Done (c.loaded csv table script bytes text rows short is loads) writes;
    }

  pub load-memory : after ≡ before → sink' ≡ sink → s ≡ exit.OutOfMemory → IsLoad
  load-memory same quiet memory = record {
    events = read_of csv MAX_SHEET_LENGTH bytes ∷ [];
    grown = same ∙ there;
    outcome = c.out_of_memory (c.files (Load csv table script) [] csv MAX_SHEET_LENGTH bytes (c.reads_sheet csv table script) short) quiet memory;
  }

-- ---- the end of `ask` where the questions are answered

module _ (format : Format) (bytes asked : List ℕ) (contents : Dump) (sink sink' : SinkState) (s : Status) where
  abbrev tables : List Table
  tables = tables_in contents.entries

  abbrev answers : y.Question → Answered
  answers = answer_to (programs_in format) contents

  pub answered-read : WellFormed bytes contents → file_answers format contents asked ≡ answers_text format tables answers asked
      → file_refused format contents asked ≡ has_refused format tables answers asked
      → WritesOutput (file_text format contents asked) (answered_status (file_refused format contents asked)) sink sink' s → Answers format bytes asked sink sink' s
  answered-read formed texts refusals writes =
      let lines = questions_as_read asked in
      let due : WritesOutput (asked_text format contents answers lines) (asked_status format contents answers lines) sink sink' s =
      subst (λ (t : List ℕ). WritesOutput t (asked_status format contents answers lines) sink sink' s)
      (ap (λ (t : List ℕ). heading_in format contents ++ t) (texts ∙ sym (texts-read format tables answers asked)))
      (subst (λ (e : Status). WritesOutput (file_text format contents asked) e sink sink' s)
      (ap answered_status (refusals ∙ sym (refusals-read format tables answers asked))) writes) in
      is_answered contents lines formed (are-questions asked) due
