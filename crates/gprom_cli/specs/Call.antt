-- Part of the statement: one call of the program, what it comes to, and how that is written.
use Rattle.std.specs.Prelude.{◌≡◌, ℕ, ◌+◌, ◌≤◌, ◌<◌, ◌⊎◌, Bool, List, [], ◌∷◌, ◌++◌, length, Option, Some, None, Ok, if◌then◌else◌, nat_lt, codes}
use Rattle.std.specs.Fmt.{decimal}
use Rattle.std.specs.List.{concat}
use Rattle.gp_base.specs.Annotated.{unannotated}
use Rattle.gp_base.specs.Numbered.{newline}
use Rattle.gp_io.specs.Events.{Event, Read, Missing, Unreadable, Stopped, Replaced, NotReplaced}
use Rattle.gp_io.specs.Sink.{SinkState, after_failure, after_write}
use Rattle.gp_script.specs.History.{IsScript, ReadLine, has_refusal, last_state, replies_text, replies_to}
use Rattle.gp_script.specs.declared.script.TheConstants.{MAX_SCRIPT_LENGTH}
use Rattle.gp_dump.specs.declared.dump.TheConstants.{MAX_DUMP_LENGTH}
use Rattle.gp_dump.specs.Dumps.{Dump, dump_of, written_text}
use Rattle.gp_dump.specs.Rules.{FirstFault, WellFormed}
use Rattle.gp_csv.specs.Faults.{refuse}
use Rattle.gp_load.specs.Loading.{LoadsText, loaded_of}
use Rattle.gp_log.specs.LogFacts.{tables_in}
use Rattle.gp_grammar.specs.Syntax as y
use Rattle.gp_ask.specs.declared.answered.Answered.{Answered}
use Rattle.gp_ask.specs.declared.format.Format.{Format}
use Rattle.gp_ask.specs.Answers.{answer_to}
use Rattle.gp_ask.specs.Asking.{Programs}
use Rattle.gp_ask.specs.Formats.{heading_in}
use Rattle.gp_ask.specs.Questions.{AreQuestions, ReadQuestion, answer_texts, refuses_some}
use Rattle.gprom_cli.specs.declared.about.TheConstants.{HELP, VERSION}
use Rattle.gprom_cli.specs.declared.load.TheConstants.{MAX_SHEET_LENGTH}
use Rattle.gprom_cli.specs.declared.status.Status.{Status}
use Rattle.gprom_cli.specs.declared.status.Status.TheVariants as exit
use Rattle.gprom_cli.specs.Args.{Command, Run, Ask, Generate, Load, Help, Version}

-- One call: what it was asked to do, and what it has done.
pub record Call : Type 0 where
  -- the command of the arguments, if they are valid
  pub command : Option Command
  -- what the shelf of files has done in the call
  pub events : List Event
  -- the output before and after the call
  pub sink : SinkState
  pub sink_after : SinkState
  -- how the call ended
  pub status : Status

-- ---- writing

-- the text is whole lines, or empty
abbrev pub IsWholeLines : List ℕ → Type 0
IsWholeLines text = (text ≡ []) ⊎ ((front : List ℕ) × (text ≡ front ++ newline))

-- How a text is written under a status. A reader is never shown a part of a line, unless the system took a part of the write that failed, which is the last one.
pub data WritesOutput (text : List ℕ) (expected : Status) (before after : SinkState) (actual : Status) : Type 0 where
  -- all of it, and the status is the expected one
  all_written : after ≡ after_write text before → actual ≡ expected → WritesOutput text expected before after actual
  -- whole lines of it, and then memory ran out
  some_written : (lines rest : List ℕ) → text ≡ lines ++ rest → IsWholeLines lines → after ≡ after_write lines before → actual ≡ exit.OutOfMemory
      → WritesOutput text expected before after actual
  -- whole lines of it, and then the write of some bytes that come next failed, of which the system may have taken a prefix
  write_failed : (lines next rest : List ℕ) → text ≡ lines ++ (next ++ rest) → IsWholeLines lines → after ≡ after_failure next (after_write lines before) → actual ≡ exit.Unwritten
      → WritesOutput text expected before after actual

-- ---- texts

-- a message about a file
abbrev pub message : List ℕ → List ℕ → List ℕ
message words name = concat (words ∷ codes " " ∷ name ∷ newline ∷ [])

-- what is before the number of a rule of dumps, which has two digits
abbrev pub rule_prefix : ℕ → List ℕ
rule_prefix f = if nat_lt f 10 then codes "F0" else codes "F"

abbrev pub damage_message : ℕ → ℕ → List ℕ
damage_message f line = concat (codes "dump refused: " ∷ rule_prefix f ∷ decimal f ∷ codes " at line " ∷ decimal line ∷ newline ∷ [])

abbrev pub sheet_message : ℕ → ℕ → List ℕ
sheet_message c number = concat (codes "csv refused: C0" ∷ decimal c ∷ codes " at record " ∷ decimal number ∷ newline ∷ [])

abbrev pub loaded_message : ℕ → List ℕ
loaded_message rows = concat (codes "loaded " ∷ decimal rows ∷ newline ∷ [])

-- the first line of the summary of a generated script
abbrev pub rounds_line : ℕ → List ℕ
rounds_line rounds = concat (codes "gen " ∷ decimal rounds ∷ newline ∷ [])

-- the usage line
abbrev pub usage_text : List ℕ
usage_text = concat (codes "usage: gprom run SCRIPT DUMP, gprom ask DUMP QUESTIONS, gprom gen N, gprom load CSV TABLE SCRIPT, gprom export DUMP QUESTIONS [names], gprom sql DUMP QUESTIONS, gprom help" ∷ newline ∷ [])

-- the page of `help`, and what `version` writes
abbrev pub help_text : List ℕ
help_text = usage_text ++ HELP.now

abbrev pub version_line : List ℕ → List ℕ
version_line version = concat (codes "gprom " ∷ version ∷ newline ∷ [])

abbrev pub version_text : List ℕ
version_text = version_line VERSION.now

-- the status of lines that were all answered: whether one was refused
abbrev pub answered_status : Bool → Status
answered_status refused = if refused then exit.Refused else exit.Done

-- the text of the dump of a history
abbrev pub history_dump : List ReadLine → List ℕ
history_dump lines = written_text (dump_of (last_state unannotated lines))

-- the programs that answer explained queries in each format
abbrev pub Shown : Type 0
Shown = Format → Programs

-- what is written where the questions to a dump have these answers, and the status
module _ (format : Format) (dump : Dump) (answers : y.Question → Answered) (lines : List ReadQuestion) where
  abbrev pub asked_text : List ℕ
  asked_text = heading_in format dump ++ answer_texts format (tables_in dump.entries) answers lines

  abbrev pub asked_status : Status
  asked_status = answered_status (refuses_some format (tables_in dump.entries) answers lines)

-- ---- what a call comes to

-- These bytes were read of a file that may have so many: one more was asked for, which shows that a file is too long.
abbrev pub read_of : List ℕ → ℕ → List ℕ → Event
read_of name most bytes = Read name (most + 1) bytes

-- A file that is read by a command, after these events, and how long it may be. `ask`, `export` and `sql` read the questions after the dump.
pub data IsReadBy : Command → List Event → List ℕ → ℕ → Type 0 where
  reads_script : (script dump : List ℕ) → IsReadBy (Run script dump) [] script MAX_SCRIPT_LENGTH
  reads_dump : (format : Format) (dump questions : List ℕ) → IsReadBy (Ask format dump questions) [] dump MAX_DUMP_LENGTH
  reads_questions : (format : Format) (dump questions bytes : List ℕ) → length bytes ≤ MAX_DUMP_LENGTH
      → IsReadBy (Ask format dump questions) (read_of dump MAX_DUMP_LENGTH bytes ∷ []) questions MAX_SCRIPT_LENGTH
  reads_sheet : (csv table script : List ℕ) → IsReadBy (Load csv table script) [] csv MAX_SHEET_LENGTH

-- a script that is not too long was run: these are its lines
pub record RunsScript (bytes : List ℕ) (lines : List ReadLine) : Type 0 where
  pub short : length bytes ≤ MAX_SCRIPT_LENGTH
  pub are : IsScript bytes lines

module _ (programs : Shown) where
  -- What a call comes to that has done this, unless memory runs out: the text that it writes, and its status. The first step that fails decides.
  pub data ComesTo : Option Command → List Event → List ℕ → Status → Type 0 where
    -- the arguments are invalid
    usage : ComesTo None [] usage_text exit.Usage
    -- `help` and `version`
    helped : ComesTo (Some Help) [] help_text exit.Done
    versioned : ComesTo (Some Version) [] version_text exit.Done
    -- a file does not exist, cannot be read, or is too long
    absent : (command : Command) (before : List Event) (name : List ℕ) (most : ℕ) → IsReadBy command before name most
        → ComesTo (Some command) (before ++ Missing name ∷ []) (message (codes "absent") name) exit.Absent
    unreadable : (command : Command) (before : List Event) (name : List ℕ) (most : ℕ) → IsReadBy command before name most
        → ComesTo (Some command) (before ++ Unreadable name ∷ []) (message (codes "cannot read") name) exit.Unreadable
    too_long : (command : Command) (before : List Event) (name : List ℕ) (most : ℕ) (bytes : List ℕ) → IsReadBy command before name most → most < length bytes
        → ComesTo (Some command) (before ++ read_of name most bytes ∷ []) (message (codes "too long") name) exit.TooLong
    -- `run`: the dump of the script would be too long, is not replaced, or is, and then the replies are due
    long_dump : (script dump bytes : List ℕ) (lines : List ReadLine) → RunsScript bytes lines → MAX_DUMP_LENGTH < length (history_dump lines)
        → ComesTo (Some (Run script dump)) (read_of script MAX_SCRIPT_LENGTH bytes ∷ []) (message (codes "too long") dump) exit.TooLong
    lost_dump : (script dump bytes : List ℕ) (lines : List ReadLine) → RunsScript bytes lines → length (history_dump lines) ≤ MAX_DUMP_LENGTH
        → ComesTo (Some (Run script dump)) (read_of script MAX_SCRIPT_LENGTH bytes ∷ NotReplaced dump (history_dump lines) ∷ []) (message (codes "cannot write") dump) exit.Unwritten
    replied : (script dump bytes : List ℕ) (lines : List ReadLine) → RunsScript bytes lines → length (history_dump lines) ≤ MAX_DUMP_LENGTH
        → ComesTo (Some (Run script dump)) (read_of script MAX_SCRIPT_LENGTH bytes ∷ Replaced dump (history_dump lines) ∷ [])
        (replies_text (replies_to lines)) (answered_status (has_refusal (replies_to lines)))
    -- `ask`, `export` and `sql`: the dump has a fault, or the questions are answered
    damaged : (format : Format) (dump questions bytes asked : List ℕ) (f line : ℕ) → length bytes ≤ MAX_DUMP_LENGTH → length asked ≤ MAX_SCRIPT_LENGTH → FirstFault bytes f line
        → ComesTo (Some (Ask format dump questions)) (read_of dump MAX_DUMP_LENGTH bytes ∷ read_of questions MAX_SCRIPT_LENGTH asked ∷ []) (damage_message f line) exit.Damaged
    answered : (format : Format) (dump questions bytes asked : List ℕ) (contents : Dump) (lines : List ReadQuestion) → length bytes ≤ MAX_DUMP_LENGTH → length asked ≤ MAX_SCRIPT_LENGTH
        → WellFormed bytes contents → AreQuestions asked lines
        → ComesTo (Some (Ask format dump questions)) (read_of dump MAX_DUMP_LENGTH bytes ∷ read_of questions MAX_SCRIPT_LENGTH asked ∷ [])
        (asked_text format contents (answer_to (programs format) contents) lines) (asked_status format contents (answer_to (programs format) contents) lines)
    -- `gen`: a summary, in lines. What it says is the contract of `generate`.
    summarized : (rounds : ℕ) (others : List ℕ) → IsWholeLines others → ComesTo (Some (Generate rounds)) [] (rounds_line rounds ++ others) exit.Done
    -- `load`: the sheet has a fault; or its script is not replaced, or is, and loads its rows
    faulty_sheet : (csv table script bytes : List ℕ) (c number : ℕ) → length bytes ≤ MAX_SHEET_LENGTH → loaded_of table bytes ≡ refuse c number
        → ComesTo (Some (Load csv table script)) (read_of csv MAX_SHEET_LENGTH bytes ∷ []) (sheet_message c number) exit.SheetRefused
    lost_script : (csv table script bytes text : List ℕ) (rows : ℕ) → length bytes ≤ MAX_SHEET_LENGTH → loaded_of table bytes ≡ Ok (text, rows)
        → ComesTo (Some (Load csv table script)) (read_of csv MAX_SHEET_LENGTH bytes ∷ NotReplaced script text ∷ []) (message (codes "cannot write") script) exit.Unwritten
    loaded : (csv table script bytes text : List ℕ) (rows : ℕ) → length bytes ≤ MAX_SHEET_LENGTH → loaded_of table bytes ≡ Ok (text, rows) → LoadsText table bytes text
        → ComesTo (Some (Load csv table script)) (read_of csv MAX_SHEET_LENGTH bytes ∷ Replaced script text ∷ []) (loaded_message rows) exit.Done

-- what a command has read where memory runs out: nothing, or files that are not too long, or it runs out in a read
pub data HasRead : Option Command → List Event → Type 0 where
  nothing : (command : Option Command) → HasRead command []
  files : (command : Command) (before : List Event) (name : List ℕ) (most : ℕ) (bytes : List ℕ) → IsReadBy command before name most → length bytes ≤ most
      → HasRead (Some command) (before ++ read_of name most bytes ∷ [])
  stopped : (command : Command) (before : List Event) (name : List ℕ) (most : ℕ) → IsReadBy command before name most → HasRead (Some command) (before ++ Stopped name ∷ [])

module _ (programs : Shown) where
  -- The arguments, what the shelf has done and the programs determine what the call comes to, but for the summary of `gen`, and that what is written. Where memory
  -- ran out before, nothing is written and nothing replaced.
  pub data HasOutcome (call : Call) : Type 0 where
    comes_to : (text : List ℕ) (status : Status) → ComesTo programs call.command call.events text status → WritesOutput text status call.sink call.sink_after call.status → HasOutcome call
    out_of_memory : HasRead call.command call.events → call.sink_after ≡ call.sink → call.status ≡ exit.OutOfMemory → HasOutcome call
