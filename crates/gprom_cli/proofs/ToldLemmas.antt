-- What the shelf has done determines what a call comes to, but for the summary of `gen`.
use Rattle.std.proofs.Common.{◌≡◌, ℕ, ◌<◌, ◌≤◌, cond, List, [], ◌∷◌, ◌++◌, length, nat_lt, Option, Some, None, Result, Ok, Err, refl, sym, ap, ◌∙◌, subst, arith, codes}
use Rattle.std.proofs.lemmas.Bool.Decides.{nat_tests}
use Rattle.gp_io.specs.Events.{Event, Read, Missing, Unreadable, Stopped, Replaced, NotReplaced}
use Rattle.gp_script.specs.History.{ReadLine, has_refusal, replies_text, replies_to}
use Rattle.gp_script.specs.Scripts.{replies_of}
use Rattle.gp_script.specs.declared.script.TheConstants.{MAX_SCRIPT_LENGTH}
use Rattle.gp_script.proofs.ReadHistory.{one-script}
use Rattle.gp_dump.specs.declared.dump.TheConstants.{MAX_DUMP_LENGTH}
use Rattle.gp_dump.specs.Dumps.{Dump}
use Rattle.gp_dump.specs.Rules.{WellFormed}
use Rattle.gp_dump.specs.Verdicts.{Verdict, Holds, Fails, verdict_on, fault_in}
use Rattle.gp_dump.proofs.FaultLemmas.{fault-is}
use Rattle.gp_csv.specs.Faults.{Fault}
use Rattle.gp_load.specs.Loading.{loaded_of}
use Rattle.gp_ask.specs.declared.format.Format.{Format}
use Rattle.gp_ask.specs.Answers.{answer_to}
use Rattle.gp_log.specs.LogFacts.{tables_in}
use Rattle.gp_ask.specs.Formats.{heading_in}
use Rattle.gp_ask.specs.QuestionFiles.{answers_text, has_refused}
use Rattle.gp_ask.proofs.ReadAnswers.{one-file, refusals-read, texts-read}
use Rattle.gprom_cli.specs.declared.load.TheConstants.{MAX_SHEET_LENGTH}
use Rattle.gprom_cli.specs.declared.status.Status.{Status}
use Rattle.gprom_cli.specs.declared.status.Status.TheVariants as exit
use Rattle.gprom_cli.specs.Args.{Command, Run, Ask, Generate, Load, Help, Version}
use Rattle.gprom_cli.specs.Call as c
use Rattle.gprom_cli.specs.Call.{Call, ComesTo, HasOutcome, IsReadBy, WritesOutput, Shown, answered_status, asked_status, asked_text, damage_message, help_text, history_dump, loaded_message, message, read_of, sheet_message, usage_text, version_text}
use Rattle.gprom_cli.specs.Consequences.{IsDetermined}
use Rattle.gprom_cli.proofs.OutcomeLemmas.{status-read, text-read}
use Rattle.gprom_cli.proofs.WritesLemmas.{nothing-written}

-- ---- the text and the status, by what the shelf has done

abbrev pub Told : Type 0
Told = List ℕ × Status

-- of a call that did something else
abbrev nothing_told : Told
nothing_told = ([], exit.Done)

-- by a read, and by the bytes where they are not too many
abbrev read_told : ℕ → Event → (List ℕ → Told) → Told
read_told most (Read name asked bytes) next = cond (nat_lt most (length bytes)) (message (codes "too long") name, exit.TooLong) (next bytes)
read_told most (Missing name) next = (message (codes "absent") name, exit.Absent)
read_told most (Unreadable name) next = (message (codes "cannot read") name, exit.Unreadable)
read_told most (Stopped name) next = nothing_told
read_told most (Replaced name bytes) next = nothing_told
read_told most (NotReplaced name bytes) next = nothing_told

-- by a replacement, if there was one
abbrev replace_told : List Event → Told → Told → Told
replace_told [] before after = before
replace_told (Replaced name bytes ∷ events) before after = after
replace_told (NotReplaced name bytes ∷ events) before after = (message (codes "cannot write") name, exit.Unwritten)
replace_told (Read name asked bytes ∷ events) before after = nothing_told
replace_told (Missing name ∷ events) before after = nothing_told
replace_told (Unreadable name ∷ events) before after = nothing_told
replace_told (Stopped name ∷ events) before after = nothing_told

abbrev run_told : List ℕ → List Event → List ℕ → Told
run_told dump events bytes = replace_told events (message (codes "too long") dump, exit.TooLong) (replies_text (replies_of bytes), answered_status (has_refusal (replies_of bytes)))

abbrev sheet_told : List Event → Result (List ℕ × ℕ) Fault → Told
sheet_told events (Ok made) = replace_told events nothing_told (loaded_message made.1, exit.Done)
sheet_told events (Err fault) = (sheet_message fault.c fault.number, exit.SheetRefused)

abbrev verdict_told : Shown → Format → List ℕ → Verdict → Told
verdict_told programs format asked (Holds dump) =
    (heading_in format dump ++ answers_text format (tables_in dump.entries) (answer_to (programs format) dump) asked, answered_status (has_refused format (tables_in dump.entries) (answer_to (programs format) dump) asked))
verdict_told programs format asked (Fails f line) = (damage_message f line, exit.Damaged)

abbrev ask_told : Shown → Format → List Event → List ℕ → Told
ask_told programs format [] bytes = nothing_told
ask_told programs format (event ∷ events) bytes = read_told MAX_SCRIPT_LENGTH event (λ asked. verdict_told programs format asked (verdict_on bytes))

abbrev file_told : Shown → Command → Event → List Event → Told
file_told programs (Run script dump) event events = read_told MAX_SCRIPT_LENGTH event (run_told dump events)
file_told programs (Ask format dump questions) event events = read_told MAX_DUMP_LENGTH event (ask_told programs format events)
file_told programs (Generate rounds) event events = nothing_told
file_told programs (Load csv table script) event events = read_told MAX_SHEET_LENGTH event (λ bytes. sheet_told events (loaded_of table bytes))
file_told programs Help event events = nothing_told
file_told programs Version event events = nothing_told

abbrev pub told : Shown → Option Command → List Event → Told
told programs None events = (usage_text, exit.Usage)
told programs (Some Help) events = (help_text, exit.Done)
told programs (Some Version) events = (version_text, exit.Done)
told programs (Some command) [] = nothing_told
told programs (Some command) (event ∷ events) = file_told programs command event events

-- ---- tests of lengths

test-true : (a b : ℕ) (x y : Told) → a < b → cond (nat_lt a b) x y ≡ x
test-true a b x y less = grind (arith, nat_tests)

test-false : (a b : ℕ) (x y : Told) → b ≤ a → cond (nat_lt a b) x y ≡ y
test-false a b x y most = grind (arith, nat_tests)

read-long : (name : List ℕ) (most : ℕ) (bytes : List ℕ) (next : List ℕ → Told) → most < length bytes → read_told most (read_of name most bytes) next ≡ (message (codes "too long") name, exit.TooLong)
read-long name most bytes next long = test-true most (length bytes) (message (codes "too long") name, exit.TooLong) (next bytes) long

read-short : (name : List ℕ) (most : ℕ) (bytes : List ℕ) (next : List ℕ → Told) → length bytes ≤ most → read_told most (read_of name most bytes) next ≡ next bytes
read-short name most bytes next short = test-false most (length bytes) (message (codes "too long") name, exit.TooLong) (next bytes) short

-- ---- each end

-- well-formed bytes hold their dump
abbrev pub ReadsWellFormed : Type 0
ReadsWellFormed = (bytes : List ℕ) (dump : Dump) → WellFormed bytes dump → verdict_on bytes ≡ Holds dump

pub fails : (v : Verdict) (f line : ℕ) → fault_in v ≡ Some (f, line) → v ≡ Fails f line
fails (Holds dump) f line is = absurd cc
fails (Fails g other) f line is =
    let same : (g, other) ≡ (f, line) = cc in
    ap (λ (x : ℕ × ℕ). Fails x.0 x.1) same

absent-told : (programs : Shown) (command : Command) (before : List Event) (name : List ℕ) (most : ℕ) → IsReadBy command before name most
    → told programs (Some command) (before ++ Missing name ∷ []) ≡ (message (codes "absent") name, exit.Absent)
absent-told programs _ _ _ _ (c.reads_script script dump) = refl
absent-told programs _ _ _ _ (c.reads_dump format dump questions) = refl
absent-told programs _ _ _ _ (c.reads_questions format dump questions bytes short) = read-short dump MAX_DUMP_LENGTH bytes (ask_told programs format (Missing questions ∷ [])) short
absent-told programs _ _ _ _ (c.reads_sheet csv table script) = refl

unreadable-told : (programs : Shown) (command : Command) (before : List Event) (name : List ℕ) (most : ℕ) → IsReadBy command before name most
    → told programs (Some command) (before ++ Unreadable name ∷ []) ≡ (message (codes "cannot read") name, exit.Unreadable)
unreadable-told programs _ _ _ _ (c.reads_script script dump) = refl
unreadable-told programs _ _ _ _ (c.reads_dump format dump questions) = refl
unreadable-told programs _ _ _ _ (c.reads_questions format dump questions bytes short) = read-short dump MAX_DUMP_LENGTH bytes (ask_told programs format (Unreadable questions ∷ [])) short
unreadable-told programs _ _ _ _ (c.reads_sheet csv table script) = refl

long-told : (programs : Shown) (command : Command) (before : List Event) (name : List ℕ) (most : ℕ) (bytes : List ℕ) → IsReadBy command before name most → most < length bytes
    → told programs (Some command) (before ++ read_of name most bytes ∷ []) ≡ (message (codes "too long") name, exit.TooLong)
long-told programs _ _ _ _ bytes (c.reads_script script dump) long = read-long script MAX_SCRIPT_LENGTH bytes (run_told dump []) long
long-told programs _ _ _ _ bytes (c.reads_dump format dump questions) long = read-long dump MAX_DUMP_LENGTH bytes (ask_told programs format []) long
long-told programs _ _ _ _ bytes (c.reads_questions format dump questions first short) long =
    read-short dump MAX_DUMP_LENGTH first (ask_told programs format (read_of questions MAX_SCRIPT_LENGTH bytes ∷ [])) short
    ∙ read-long questions MAX_SCRIPT_LENGTH bytes (λ asked. verdict_told programs format asked (verdict_on first)) long
long-told programs _ _ _ _ bytes (c.reads_sheet csv table script) long = read-long csv MAX_SHEET_LENGTH bytes (λ read. sheet_told [] (loaded_of table read)) long

abbrev due : List ℕ → Status → Told
due text status = (text, status)

both-same : (text other : List ℕ) (status also : Status) → text ≡ other → status ≡ also → due text status ≡ due other also
both-same text other status also t s = λ i. (t i, s i)

module _ (law : ReadsWellFormed) where
  pub told-is : (programs : Shown) (command : Option Command) (events : List Event) (text : List ℕ) (status : Status) → ComesTo programs command events text status → IsDetermined command → told programs command events ≡ (text, status)
  told-is programs _ _ _ _ c.usage may = refl
  told-is programs _ _ _ _ c.helped may = refl
  told-is programs _ _ _ _ c.versioned may = refl
  told-is programs _ _ _ _ (c.absent command before name most reads) may = absent-told programs command before name most reads
  told-is programs _ _ _ _ (c.unreadable command before name most reads) may = unreadable-told programs command before name most reads
  told-is programs _ _ _ _ (c.too_long command before name most bytes reads long) may = long-told programs command before name most bytes reads long
  told-is programs _ _ _ _ (c.long_dump script dump bytes lines run long) may = read-short script MAX_SCRIPT_LENGTH bytes (run_told dump []) run.short
  told-is programs _ _ _ _ (c.lost_dump script dump bytes lines run small) may = read-short script MAX_SCRIPT_LENGTH bytes (run_told dump (NotReplaced dump (history_dump lines) ∷ [])) run.short
  told-is programs _ _ _ _ (c.replied script dump bytes lines run small) may =
      let same = one-script bytes lines run.are in
      read-short script MAX_SCRIPT_LENGTH bytes (run_told dump (Replaced dump (history_dump lines) ∷ [])) run.short
      ∙ both-same (replies_text (replies_of bytes)) (replies_text (replies_to lines)) (answered_status (has_refusal (replies_of bytes))) (answered_status (has_refusal (replies_to lines)))
      (sym (ap (λ (ls : List ReadLine). replies_text (replies_to ls)) same ∙ text-read bytes))
      (sym (ap (λ (ls : List ReadLine). answered_status (has_refusal (replies_to ls))) same ∙ status-read bytes))
  told-is programs _ _ _ _ (c.damaged format dump questions bytes asked f line few short fault) may =
      read-short dump MAX_DUMP_LENGTH bytes (ask_told programs format (read_of questions MAX_SCRIPT_LENGTH asked ∷ [])) few
      ∙ read-short questions MAX_SCRIPT_LENGTH asked (λ read. verdict_told programs format read (verdict_on bytes)) short
      ∙ ap (verdict_told programs format asked) (fails (verdict_on bytes) f line (fault-is bytes f line fault))
  told-is programs _ _ _ _ (c.answered format dump questions bytes asked contents lines few short formed are) may =
      let one = one-file asked lines are in
      read-short dump MAX_DUMP_LENGTH bytes (ask_told programs format (read_of questions MAX_SCRIPT_LENGTH asked ∷ [])) few
      ∙ read-short questions MAX_SCRIPT_LENGTH asked (λ read. verdict_told programs format read (verdict_on bytes)) short
      ∙ ap (verdict_told programs format asked) (law bytes contents formed)
      ∙ both-same (heading_in format contents ++ answers_text format (tables_in contents.entries) (answer_to (programs format) contents) asked) (asked_text format contents (answer_to (programs format) contents) lines)
      (answered_status (has_refused format (tables_in contents.entries) (answer_to (programs format) contents) asked)) (asked_status format contents (answer_to (programs format) contents) lines)
      (sym (ap (asked_text format contents (answer_to (programs format) contents)) one
      ∙ ap (λ (t : List ℕ). heading_in format contents ++ t) (texts-read format (tables_in contents.entries) (answer_to (programs format) contents) asked)))
      (sym (ap (asked_status format contents (answer_to (programs format) contents)) one ∙ ap answered_status (refusals-read format (tables_in contents.entries) (answer_to (programs format) contents) asked)))
  told-is programs _ _ _ _ (c.summarized rounds others are) may = absurd may
  told-is programs _ _ _ _ (c.faulty_sheet csv table script bytes number record_number short fault) may =
      read-short csv MAX_SHEET_LENGTH bytes (λ read. sheet_told [] (loaded_of table read)) short ∙ ap (sheet_told []) fault
  told-is programs _ _ _ _ (c.lost_script csv table script bytes text rows short is) may =
      read-short csv MAX_SHEET_LENGTH bytes (λ read. sheet_told (NotReplaced script text ∷ []) (loaded_of table read)) short ∙ ap (sheet_told (NotReplaced script text ∷ [])) is
  told-is programs _ _ _ _ (c.loaded csv table script bytes text rows short is loads) may =
      read-short csv MAX_SHEET_LENGTH bytes (λ read. sheet_told (Replaced script text ∷ []) (loaded_of table read)) short ∙ ap (sheet_told (Replaced script text ∷ [])) is

-- ---- what is written

abbrev pub WritesTold : Call → Told → Type 0
WritesTold call all = WritesOutput all.0 all.1 call.sink call.sink_after call.status

pub writes-told : ReadsWellFormed → (programs : Shown) (call : Call) → IsDetermined call.command → HasOutcome programs call → WritesTold call (told programs call.command call.events)
writes-told law programs call may (c.comes_to text status comes writes) = subst (WritesTold call) (sym (told-is law programs call.command call.events text status comes may)) writes
writes-told law programs call may (c.out_of_memory reads quiet memory) =
    let all = told programs call.command call.events in
    nothing-written all.0 all.1 call.sink call.sink_after call.status quiet memory
