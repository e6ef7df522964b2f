-- Of the law `calls_keep_promises_over_files`: what a call promises where the shelf knows its files, as one in memory does (`events_lead_to_files` of `gp_io`).
-- `old` is what the files have before the call, and `new` what they have after it.
use Rattle.std.specs.Prelude.{◌≡◌, ◌≢◌, ◌⊎◌, ℕ, ◌≤◌, List, [], ◌∷◌, length, Option, Some, None, Result, Ok, Err}
use Rattle.gp_base.specs.Annotated.{monomials, unannotated}
use Rattle.gp_io.specs.Contents.{Contents, HaveSame, Leads, replaced_by}
use Rattle.gp_io.specs.Events.{Event, Read, Missing, Unreadable, Stopped, Replaced, NotReplaced}
use Rattle.gp_script.specs.History.{ReadLine, has_refusal, last_state, replies_text, replies_to}
use Rattle.gp_script.specs.declared.script.TheConstants.{MAX_SCRIPT_LENGTH}
use Rattle.gp_dump.specs.declared.dump.TheConstants.{MAX_DUMP_LENGTH}
use Rattle.gp_dump.specs.Dumps.{Dump, dump_of}
use Rattle.gp_dump.specs.Rules.{WellFormed}
use Rattle.gp_csv.specs.Faults.{Fault}
use Rattle.gp_load.specs.Loading.{LoadsText, loaded_of}
use Rattle.gp_ask.specs.declared.format.Format.{Format}
use Rattle.gp_ask.specs.Answers.{answer_to, held_to}
use Rattle.gp_ask.specs.Questions.{AreQuestions, ReadQuestion}
use Rattle.gprom_cli.specs.declared.load.TheConstants.{MAX_SHEET_LENGTH}
use Rattle.gprom_cli.specs.declared.status.Status.{Status}
use Rattle.gprom_cli.specs.declared.status.Status.TheVariants as exit
use Rattle.gprom_cli.specs.Args.{Command, Run, Ask, Generate, Load, Help, Version}
use Rattle.gprom_cli.specs.Call.{Call, ComesTo, RunsScript, WritesOutput, Shown, answered_status, asked_status, asked_text, history_dump, loaded_message, sheet_message}
use Rattle.gprom_cli.specs.Consequences.{IsDetermined}

-- no file was unreadable, no read ran out of memory, and no file was not replaced
abbrev pub NoFault : List Event → Type 0
NoFault [] = Unit {0}
NoFault (Read name most bytes ∷ events) = NoFault events
NoFault (Missing name ∷ events) = NoFault events
NoFault (Unreadable name ∷ events) = ⊥
NoFault (Stopped name ∷ events) = ⊥
NoFault (Replaced name bytes ∷ events) = NoFault events
NoFault (NotReplaced name bytes ∷ events) = ⊥

-- the file of this name has these bytes, and no other one changed; only where memory ran out none did
abbrev pub Becomes : List ℕ → List ℕ → Call → Contents → Contents → Type 0
Becomes name bytes call old new = HaveSame (replaced_by name bytes old) new ⊎ ((call.status ≡ exit.OutOfMemory) × HaveSame old new)

-- what `load` does with a sheet of these bytes, by what it comes to
abbrev pub LoadsFile : List ℕ → List ℕ → List ℕ → Call → Contents → Contents → Result (List ℕ × ℕ) Fault → Type 0
LoadsFile table script bytes call old new (Ok made) = WritesOutput (loaded_message made.1) exit.Done call.sink call.sink_after call.status
    × Becomes script made.0 call old new × (LoadsText table bytes made.0 ⊎ (call.status ≡ exit.OutOfMemory))
LoadsFile table script bytes call old new (Err fault) = WritesOutput (sheet_message fault.c fault.number) exit.SheetRefused call.sink call.sink_after call.status × HaveSame old new

-- no file changed but this one
abbrev pub OthersHaveSame : List ℕ → Contents → Contents → Type 0
OthersHaveSame name old new = (other : List ℕ) → other ≢ name → new other ≡ old other

-- the file that a command may change
abbrev pub LeavesOthers : Option Command → Contents → Contents → Type 0
LeavesOthers None old new = HaveSame old new
LeavesOthers (Some (Run script dump)) old new = OthersHaveSame dump old new
LeavesOthers (Some (Ask format dump questions)) old new = HaveSame old new
LeavesOthers (Some (Generate rounds)) old new = HaveSame old new
LeavesOthers (Some (Load csv table script)) old new = OthersHaveSame script old new
LeavesOthers (Some Help) old new = HaveSame old new
LeavesOthers (Some Version) old new = HaveSame old new

pub record OverFiles (programs : Shown) (call : Call) (old new : Contents) : Type 0 where
  -- `run` writes the replies of the script that the file has, and the dump becomes that of its history.
  pub replied : (name dump script : List ℕ) (lines : List ReadLine) → call.command ≡ Some (Run name dump) → NoFault call.events → old name ≡ Some script → RunsScript script lines
      → length (history_dump lines) ≤ MAX_DUMP_LENGTH
      → WritesOutput (replies_text (replies_to lines)) (answered_status (has_refusal (replies_to lines))) call.sink call.sink_after call.status × Becomes dump (history_dump lines) call old new
  -- `ask` answers from a file that is the dump of a script as the history of the script held it.
  pub held : (format : Format) (dump name script asked : List ℕ) (lines : List ReadLine) (questions : List ReadQuestion) → call.command ≡ Some (Ask format dump name) → NoFault call.events
      → RunsScript script lines → old dump ≡ Some (history_dump lines) → length (history_dump lines) ≤ MAX_DUMP_LENGTH → old name ≡ Some asked → length asked ≤ MAX_SCRIPT_LENGTH
      → AreQuestions asked questions
      → WritesOutput (asked_text format (dump_of (last_state unannotated lines)) (held_to (programs format) (last_state monomials lines)) questions) (asked_status format (dump_of (last_state unannotated lines)) (held_to (programs format) (last_state monomials lines)) questions)
      call.sink call.sink_after call.status
  -- Its answers about what would be are those of any file that is a well-formed dump.
  pub hypothetical : (format : Format) (dump name bytes asked : List ℕ) (contents : Dump) (questions : List ReadQuestion) → call.command ≡ Some (Ask format dump name) → NoFault call.events
      → old dump ≡ Some bytes → length bytes ≤ MAX_DUMP_LENGTH → WellFormed bytes contents → old name ≡ Some asked → length asked ≤ MAX_SCRIPT_LENGTH → AreQuestions asked questions
      → WritesOutput (asked_text format contents (answer_to (programs format) contents) questions) (asked_status format contents (answer_to (programs format) contents) questions) call.sink call.sink_after call.status
  -- `load` makes SCRIPT the script of the sheet that the file has.
  pub loaded : (name table script bytes : List ℕ) → call.command ≡ Some (Load name table script) → NoFault call.events → old name ≡ Some bytes → length bytes ≤ MAX_SHEET_LENGTH
      → LoadsFile table script bytes call old new (loaded_of table bytes)
  -- Where nothing fails, the arguments and the files determine the output and the exit status; of `gen`, see `generate`.
  pub determined : IsDetermined call.command → NoFault call.events → (events : List Event) (after : Contents) (text : List ℕ) (status : Status) → Leads old events after → NoFault events
      → ComesTo programs call.command events text status → WritesOutput text status call.sink call.sink_after call.status
  -- No file changes but the dump of `run` and the script of `load`.
  pub others : LeavesOthers call.command old new
