-- Machinery: what the steps of a call come to.
use Rattle.std.specs.Prelude.{◌≡◌, ℕ, ◌≤◌, ◌<◌, Bool, List, [], ◌∷◌, ◌++◌, length, Option, Result, Ok, Err, IfOk, codes}
use Rattle.gp_base.specs.Annotated.{unannotated}
use Rattle.gp_io.specs.Events.{Event, Missing, Unreadable, Stopped}
use Rattle.gp_io.specs.Sink.{SinkState, after_write}
use Rattle.gp_io.specs.declared.error.SinkStop.{SinkStop}
use Rattle.gp_io.specs.declared.error.SinkStop.TheVariants.{Failed, NoMemory}
use Rattle.gp_script.specs.Scripts.{final_state}
use Rattle.gp_dump.specs.Dumps.{Dump, dump_of, written_text}
use Rattle.gp_dump.specs.Rules.{FirstFault, WellFormed}
use Rattle.gp_log.specs.LogFacts.{tables_in}
use Rattle.gp_ask.specs.declared.answered.Answered.{Answered}
use Rattle.gp_ask.specs.declared.format.Format.{Format}
use Rattle.gp_ask.specs.Computed.{computed_in}
use Rattle.gp_ask.specs.Answers.{answer_to}
use Rattle.gp_ask.specs.Programs.{programs_in}
use Rattle.gp_ask.specs.Formats.{heading_in}
use Rattle.gp_ask.specs.QuestionFiles.{answers_text, has_refused, line_answer_in, line_answer_text}
use Rattle.gp_ask.specs.Questions.{AreQuestions, ReadQuestion}
use Rattle.gprom_cli.specs.declared.status.Status.{Status}
use Rattle.gprom_cli.specs.declared.status.Status.TheVariants as exit
use Rattle.gprom_cli.specs.Args.{Command}
use Rattle.gprom_cli.specs.Call.{HasOutcome, WritesOutput, answered_status, asked_status, asked_text, damage_message, message, read_of}

-- the text of the dump of a script
abbrev pub script_dump : List ℕ → List ℕ
script_dump script = written_text (dump_of (final_state unannotated script))

-- a call that begins where the shelf has done the first events, and ends where it has done the second
pub record Ends (command : Option Command) (before after : List Event) (sink sink_after : SinkState) (status : Status) : Type 0 where
  pub events : List Event
  pub grown : after ≡ before ++ events
  pub outcome : HasOutcome programs_in (record { command = command; events = events; sink = sink; sink_after = sink_after; status = status })

-- ---- writing

-- the status of a call whose output was not written
abbrev pub stop_status : SinkStop → Status
stop_status Failed = exit.Unwritten
stop_status NoMemory = exit.OutOfMemory

-- how a text is written, by the result: all of it, or whole lines before an error
abbrev pub WritesText : {T : Type 0} → List ℕ → SinkState → SinkState → Result T SinkStop → Type 0
WritesText text before after (Ok value) = after ≡ after_write text before
WritesText text before after (Err stop) = WritesOutput text exit.Done before after (stop_status stop)

-- ---- reading a file

-- the whole file was read
pub record Reads (name : List ℕ) (most : ℕ) (before after : List Event) (bytes : List ℕ) : Type 0 where
  pub grown : after ≡ before ++ read_of name most bytes ∷ []
  pub short : length bytes ≤ most

-- the file was not read, and this was written
pub data StopsReading (name : List ℕ) (most : ℕ) (before after : List Event) (sink sink_after : SinkState) (status : Status) : Type 0 where
  is_absent : after ≡ before ++ Missing name ∷ [] → WritesOutput (message (codes "absent") name) exit.Absent sink sink_after status
      → StopsReading name most before after sink sink_after status
  is_unreadable : after ≡ before ++ Unreadable name ∷ [] → WritesOutput (message (codes "cannot read") name) exit.Unreadable sink sink_after status
      → StopsReading name most before after sink sink_after status
  is_long : (bytes : List ℕ) → after ≡ before ++ read_of name most bytes ∷ [] → most < length bytes → WritesOutput (message (codes "too long") name) exit.TooLong sink sink_after status
      → StopsReading name most before after sink sink_after status
  no_memory : after ≡ before ++ Stopped name ∷ [] → sink_after ≡ sink → status ≡ exit.OutOfMemory → StopsReading name most before after sink sink_after status

-- ---- answering questions

-- the answers that are computed from a dump
module _ (format : Format) (dump : Dump) where
  abbrev pub line_answer : ℕ × List ℕ → Answered
  line_answer line = line_answer_in format (tables_in dump.entries) (computed_in format dump) line

  abbrev pub line_text : ℕ × List ℕ → List ℕ
  line_text line = line_answer_text format (tables_in dump.entries) (computed_in format dump) line

  abbrev pub file_answers : List ℕ → List ℕ
  file_answers questions = answers_text format (tables_in dump.entries) (computed_in format dump) questions

  abbrev pub file_text : List ℕ → List ℕ
  file_text questions = heading_in format dump ++ file_answers questions

  abbrev pub file_refused : List ℕ → Bool
  file_refused questions = has_refused format (tables_in dump.entries) (computed_in format dump) questions

-- how the answer to a question, or those to several, are written: all, or whole lines before an error; and whether one of them was refused
pub record WritesAnswers (text : List ℕ) (refuses : Bool) (before after : SinkState) (result : Result Bool SinkStop) : Type 0 where
  pub refused : IfOk result (λ refused. refused ≡ refuses)
  pub written : WritesText text before after result

-- what becomes of a call that has read a dump and questions
pub data Answers (format : Format) (bytes asked : List ℕ) (sink sink_after : SinkState) (status : Status) : Type 0 where
  is_damaged : (f line : ℕ) → FirstFault bytes f line → WritesOutput (damage_message f line) exit.Damaged sink sink_after status → Answers format bytes asked sink sink_after status
  is_answered : (contents : Dump) (lines : List ReadQuestion) → WellFormed bytes contents → AreQuestions asked lines
      → WritesOutput (asked_text format contents (answer_to (programs_in format) contents) lines) (asked_status format contents (answer_to (programs_in format) contents) lines) sink sink_after status
      → Answers format bytes asked sink sink_after status
  no_answer : sink_after ≡ sink → status ≡ exit.OutOfMemory → Answers format bytes asked sink sink_after status
