-- Of the law `promises_have_consequences`: what follows from the promises of a call, by what was asked and what the shelf has done.
use Rattle.std.specs.Prelude.{◌≡◌, ◌⊎◌, ℕ, ◌≤◌, List, [], ◌∷◌, ◌++◌, length, map, Option, Some, None, Result, Ok, Err}
use Rattle.gp_base.specs.Annotated.{monomials, unannotated}
use Rattle.gp_io.specs.Events.{Event, Read, Missing, Unreadable, Stopped, Replaced, NotReplaced}
use Rattle.gp_io.specs.Sink.{SinkState}
use Rattle.gp_script.specs.History.{ReadLine, has_refusal, last_state, replies_text, replies_to}
use Rattle.gp_script.specs.declared.script.TheConstants.{MAX_SCRIPT_LENGTH}
use Rattle.gp_dump.specs.declared.dump.TheConstants.{MAX_DUMP_LENGTH}
use Rattle.gp_dump.specs.Dumps.{Dump, dump_of}
use Rattle.gp_dump.specs.Rules.{WellFormed}
use Rattle.gp_log.specs.Parameters.{parameters}
use Rattle.gp_machine.specs.Event.{Line, after}
use Rattle.gp_machine.specs.State.{start}
use Rattle.gp_csv.specs.Faults.{Fault}
use Rattle.gp_load.specs.Loading.{LoadsText, loaded_of}
use Rattle.gp_ask.specs.declared.format.Format.{Format}
use Rattle.gp_ask.specs.Answers.{answer_to, held_to}
use Rattle.gp_ask.specs.Questions.{AreQuestions, ReadQuestion}
use Rattle.gprom_cli.specs.declared.load.TheConstants.{MAX_SHEET_LENGTH}
use Rattle.gprom_cli.specs.declared.status.Status.{Status}
use Rattle.gprom_cli.specs.declared.status.Status.TheVariants as exit
use Rattle.gprom_cli.specs.Args.{Command, Run, Ask, Generate, Load, Help, Version}
use Rattle.gprom_cli.specs.Call.{IsWholeLines, Call, ComesTo, RunsScript, WritesOutput, Shown, answered_status, asked_status, asked_text, history_dump, loaded_message, read_of, rounds_line, sheet_message}

-- ---- what the shelf has done

-- what a command asks of the shelf, in order
pub data Step : Type 0 where
  reads replaces : List ℕ → Step

abbrev pub steps_of : Option Command → List Step
steps_of None = []
steps_of (Some (Run script dump)) = reads script ∷ replaces dump ∷ []
steps_of (Some (Ask format dump questions)) = reads dump ∷ reads questions ∷ []
steps_of (Some (Generate rounds)) = []
steps_of (Some (Load csv table script)) = reads csv ∷ replaces script ∷ []
steps_of (Some Help) = []
steps_of (Some Version) = []

abbrev pub step_of : Event → Step
step_of (Read name most bytes) = reads name
step_of (Missing name) = reads name
step_of (Unreadable name) = reads name
step_of (Stopped name) = reads name
step_of (Replaced name bytes) = replaces name
step_of (NotReplaced name bytes) = replaces name

-- these are the first steps of the command, each once
abbrev pub FollowsSteps : Option Command → List Event → Type 0
FollowsSteps command events = (later : List Step) × (map step_of events ++ later ≡ steps_of command)

-- each file was read or replaced
abbrev pub AllDone : List Event → Type 0
AllDone [] = Unit {0}
AllDone (Read name most bytes ∷ events) = AllDone events
AllDone (Replaced name bytes ∷ events) = AllDone events
AllDone (event ∷ events) = ⊥

-- a read ran out of memory
abbrev pub HasStopped : List Event → Type 0
HasStopped [] = ⊥
HasStopped (Stopped name ∷ events) = Unit {0}
HasStopped (event ∷ events) = HasStopped events

-- this is what the shelf did last
abbrev pub IsLast : Event → List Event → Type 0
IsLast event events = (before : List Event) × (events ≡ before ++ event ∷ [])

-- ---- statuses and files

-- all but `gen`, of which `generate` says what it writes
abbrev pub IsDetermined : Option Command → Type 0
IsDetermined None = Unit {0}
IsDetermined (Some (Run script dump)) = Unit {0}
IsDetermined (Some (Ask format dump questions)) = Unit {0}
IsDetermined (Some (Generate rounds)) = ⊥
IsDetermined (Some (Load csv table script)) = Unit {0}
IsDetermined (Some Help) = Unit {0}
IsDetermined (Some Version) = Unit {0}

-- the status is the expected one, or the write failed, or memory ran out
abbrev pub IsOrFails : Status → Status → Type 0
IsOrFails expected actual = (actual ≡ expected) ⊎ ((actual ≡ exit.Unwritten) ⊎ (actual ≡ exit.OutOfMemory))

-- a write failed
abbrev pub HasFailed : SinkState → SinkState → Type 0
HasFailed before after = (bytes : List ℕ) × (after.failed ≡ before.failed ++ bytes ∷ [])

-- the statuses under which each file was read or replaced, and each write succeeded
abbrev pub IsClean : Status → Type 0
IsClean exit.Absent = ⊥
IsClean exit.Unreadable = ⊥
IsClean exit.Unwritten = ⊥
IsClean exit.OutOfMemory = ⊥
IsClean status = Unit {0}

-- after this was read, the file is replaced by these bytes; only where memory runs out it is not
abbrev pub IsReplacedAfter : Event → List ℕ → List ℕ → Call → Type 0
IsReplacedAfter read name bytes call = (call.events ≡ read ∷ Replaced name bytes ∷ []) ⊎ ((call.status ≡ exit.OutOfMemory) × (call.events ≡ read ∷ []))

-- what `load` does with a sheet of these bytes, by what it comes to: the text of its script, which loads its rows, and their number, or its first fault
abbrev pub LoadsSheet : List ℕ → List ℕ → List ℕ → List ℕ → Call → Result (List ℕ × ℕ) Fault → Type 0
LoadsSheet csv table script bytes call (Ok made) = WritesOutput (loaded_message made.1) exit.Done call.sink call.sink_after call.status
    × IsReplacedAfter (read_of csv MAX_SHEET_LENGTH bytes) script made.0 call × (LoadsText table bytes made.0 ⊎ (call.status ≡ exit.OutOfMemory))
LoadsSheet csv table script bytes call (Err fault) = WritesOutput (sheet_message fault.c fault.number) exit.SheetRefused call.sink call.sink_after call.status
    × (call.events ≡ read_of csv MAX_SHEET_LENGTH bytes ∷ [])

pub record Consequences (programs : Shown) (call : Call) : Type 0 where
  -- Each file is read once at most, in order, and then the dump of `run` or the script of `load` is replaced once at most, and no other file.
  pub steps : FollowsSteps call.command call.events
  -- Whatever a call comes to that has done this, the output and the status are of that.
  pub determined : IsDetermined call.command → (text : List ℕ) (status : Status) → ComesTo programs call.command call.events text status → WritesOutput text status call.sink call.sink_after call.status
  -- `run` writes exactly the replies of the history of the script that it read, whatever its bytes, and replaces the dump by that of its last state; only
  -- where memory runs out it does not.
  pub replied : (name dump script : List ℕ) (made : List Event) (lines : List ReadLine) → call.command ≡ Some (Run name dump)
      → call.events ≡ read_of name MAX_SCRIPT_LENGTH script ∷ made → AllDone made → RunsScript script lines → length (history_dump lines) ≤ MAX_DUMP_LENGTH
      → WritesOutput (replies_text (replies_to lines)) (answered_status (has_refusal (replies_to lines))) call.sink call.sink_after call.status
      × IsReplacedAfter (read_of name MAX_SCRIPT_LENGTH script) dump (history_dump lines) call
  -- `ask` answers from the dump of a script that it read, whichever script made it, as the history of the script held it, with the provenance of each row there,
  -- though the dump has none: so with its value in each of the six semirings, without rules in witnesses exactly with its minimal token sets, and without the rows
  -- of some tokens with exactly the rows that the query gives over the annotated history without these rows. What a transaction saw is the query over what the history
  -- machine held for it, and what a statement changed are the rows that it wrote there, whatever became of the transaction. `export` writes the same answers as CSV, but refuses questions that are not exported.
  pub held : (format : Format) (dump name script asked : List ℕ) (lines : List ReadLine) (questions : List ReadQuestion) → call.command ≡ Some (Ask format dump name)
      → call.events ≡ read_of dump MAX_DUMP_LENGTH (history_dump lines) ∷ read_of name MAX_SCRIPT_LENGTH asked ∷ [] → RunsScript script lines
      → length (history_dump lines) ≤ MAX_DUMP_LENGTH → length asked ≤ MAX_SCRIPT_LENGTH → AreQuestions asked questions
      → WritesOutput (asked_text format (dump_of (last_state unannotated lines)) (held_to (programs format) (last_state monomials lines)) questions) (asked_status format (dump_of (last_state unannotated lines)) (held_to (programs format) (last_state monomials lines)) questions)
      call.sink call.sink_after call.status
  -- From any well-formed dump `ask` and `export` answer by the log and the stored versions, as `answer_to` says. They answer a question about what would be with
  -- a change as the history held it that the commits of the changed log, made again, lead to: so every row, with its provenance and its values, is one of that
  -- history, and no difference and no limit of a run stops the question once the commits were made again. It is refused before by the change, by the question
  -- on the changed log, or, unless it is explained, by the first commit that cannot be made again. So do differences, and the statements that an answer depends
  -- on, which are given by these answers.
  pub answered : (format : Format) (dump name bytes asked : List ℕ) (contents : Dump) (questions : List ReadQuestion) → call.command ≡ Some (Ask format dump name)
      → call.events ≡ read_of dump MAX_DUMP_LENGTH bytes ∷ read_of name MAX_SCRIPT_LENGTH asked ∷ [] → length bytes ≤ MAX_DUMP_LENGTH → length asked ≤ MAX_SCRIPT_LENGTH
      → WellFormed bytes contents → AreQuestions asked questions
      → WritesOutput (asked_text format contents (answer_to (programs format) contents) questions) (asked_status format contents (answer_to (programs format) contents) questions) call.sink call.sink_after call.status
  -- Where the dump is that of a history, `ask` and `export` answer every question as that history held it, whichever lines it was of.
  pub recorded : (format : Format) (dump name bytes asked : List ℕ) (contents : Dump) (lines : List Line) (questions : List ReadQuestion) → call.command ≡ Some (Ask format dump name)
      → call.events ≡ read_of dump MAX_DUMP_LENGTH bytes ∷ read_of name MAX_SCRIPT_LENGTH asked ∷ [] → length bytes ≤ MAX_DUMP_LENGTH → length asked ≤ MAX_SCRIPT_LENGTH
      → WellFormed bytes contents → contents ≡ dump_of (after unannotated parameters start lines) → AreQuestions asked questions
      → WritesOutput (asked_text format contents (held_to (programs format) (after monomials parameters start lines)) questions)
      (asked_status format contents (held_to (programs format) (after monomials parameters start lines)) questions) call.sink call.sink_after call.status
  -- `gen` writes lines, of which the first has the rounds.
  pub generated : (rounds : ℕ) → call.command ≡ Some (Generate rounds)
      → (others : List ℕ) × IsWholeLines others × WritesOutput (rounds_line rounds ++ others) exit.Done call.sink call.sink_after call.status
  -- `load` replaces the script by one that creates the table and fills it with the rows of the sheet that it read: no line of it is refused, and the last
  -- version of its history has exactly these rows. A sheet that has a fault is refused for the first, and no file is replaced.
  pub loaded : (name table script bytes : List ℕ) (made : List Event) → call.command ≡ Some (Load name table script)
      → call.events ≡ read_of name MAX_SHEET_LENGTH bytes ∷ made → AllDone made → length bytes ≤ MAX_SHEET_LENGTH → LoadsSheet name table script bytes call (loaded_of table bytes)
  -- Each status has its cause: invalid arguments and no others give the usage line,
  pub usage : call.status ≡ exit.Usage → call.command ≡ None
  pub invalid : call.command ≡ None → IsOrFails exit.Usage call.status
  -- a file is called absent or unreadable only where the shelf answered so, last,
  pub absent : call.status ≡ exit.Absent → (name : List ℕ) × IsLast (Missing name) call.events
  pub unreadable : call.status ≡ exit.Unreadable → (name : List ℕ) × IsLast (Unreadable name) call.events
  -- a read that ran out of memory ends the call with that status, so that no later read of an input passes for all of it,
  pub stopped : HasStopped call.events → call.status ≡ exit.OutOfMemory
  -- a write error is claimed only where the dump or the script was not replaced, or a write to the output failed,
  pub unwritten : call.status ≡ exit.Unwritten → ((name : List ℕ) × (bytes : List ℕ) × IsLast (NotReplaced name bytes) call.events) ⊎ HasFailed call.sink call.sink_after
  -- and under the other statuses there was none. Memory may run out in any call: no postcondition can rule that out.
  pub clean : IsClean call.status → AllDone call.events × (call.sink_after.failed ≡ call.sink.failed)
