-- What the events of a call say of its end.
use Rattle.std.proofs.Common.{◌≡◌, ℕ, ◌<◌, ◌≤◌, ◌⊎◌, inl, inr, Bool, true, false, List, [], ◌∷◌, ◌++◌, length, Option, Some, None, Result, Ok, Err, refl, sym, ap, ◌∙◌, subst, arith}
use Rattle.gp_io.specs.Events.{Event, Read, Missing, Unreadable, Stopped, Replaced, NotReplaced}
use Rattle.gp_script.specs.declared.script.TheConstants.{MAX_SCRIPT_LENGTH}
use Rattle.gp_script.specs.History.{IsScript, ReadLine, has_refusal, replies_to}
use Rattle.gp_script.proofs.ReadHistory.{one-script}
use Rattle.gp_dump.specs.declared.dump.TheConstants.{MAX_DUMP_LENGTH}
use Rattle.gp_csv.specs.Faults.{Fault}
use Rattle.gp_load.specs.Loading.{LoadsText, loaded_of}
use Rattle.gp_log.specs.LogFacts.{tables_in}
use Rattle.gp_ask.specs.Answers.{answer_to}
use Rattle.gp_ask.specs.Questions.{refuses_some}
use Rattle.gprom_cli.specs.declared.load.TheConstants.{MAX_SHEET_LENGTH}
use Rattle.gprom_cli.specs.declared.status.Status.{Status}
use Rattle.gprom_cli.specs.declared.status.Status.TheVariants as exit
use Rattle.gprom_cli.specs.Args.{Command, Run, Ask, Generate, Load, Help, Version}
use Rattle.gprom_cli.specs.Call as c
use Rattle.gprom_cli.specs.Call.{IsWholeLines, ComesTo, HasRead, IsReadBy, Shown, answered_status, history_dump, read_of, rounds_line}
use Rattle.gprom_cli.specs.Consequences.{AllDone, FollowsSteps, HasStopped, IsLast, reads, replaces}
use Rattle.gprom_cli.specs.Steps.{script_dump}
use Rattle.gprom_cli.proofs.OutcomeLemmas.{dump-read}

-- ---- parts of lists of events

abbrev bytes_in : List Event → List ℕ
bytes_in [] = []
bytes_in (Read name most bytes ∷ events) = bytes
bytes_in (event ∷ events) = []

abbrev rest_of : List Event → List Event
rest_of [] = []
rest_of (event ∷ events) = events

-- the first one is a read that gave bytes
abbrev BeginsRead : List Event → Type 0
BeginsRead [] = ⊥
BeginsRead (Read name most bytes ∷ events) = Unit {0}
BeginsRead (event ∷ events) = ⊥

-- ---- the steps of a command, in order

missing-steps : (command : Command) (before : List Event) (name : List ℕ) (most : ℕ) → IsReadBy command before name most → FollowsSteps (Some command) (before ++ Missing name ∷ [])
missing-steps _ _ _ _ (c.reads_script script dump) = (replaces dump ∷ [], refl)
missing-steps _ _ _ _ (c.reads_dump format dump questions) = (reads questions ∷ [], refl)
missing-steps _ _ _ _ (c.reads_questions format dump questions bytes short) = ([], refl)
missing-steps _ _ _ _ (c.reads_sheet csv table script) = (replaces script ∷ [], refl)

unreadable-steps : (command : Command) (before : List Event) (name : List ℕ) (most : ℕ) → IsReadBy command before name most → FollowsSteps (Some command) (before ++ Unreadable name ∷ [])
unreadable-steps _ _ _ _ (c.reads_script script dump) = (replaces dump ∷ [], refl)
unreadable-steps _ _ _ _ (c.reads_dump format dump questions) = (reads questions ∷ [], refl)
unreadable-steps _ _ _ _ (c.reads_questions format dump questions bytes short) = ([], refl)
unreadable-steps _ _ _ _ (c.reads_sheet csv table script) = (replaces script ∷ [], refl)

stopped-steps : (command : Command) (before : List Event) (name : List ℕ) (most : ℕ) → IsReadBy command before name most → FollowsSteps (Some command) (before ++ Stopped name ∷ [])
stopped-steps _ _ _ _ (c.reads_script script dump) = (replaces dump ∷ [], refl)
stopped-steps _ _ _ _ (c.reads_dump format dump questions) = (reads questions ∷ [], refl)
stopped-steps _ _ _ _ (c.reads_questions format dump questions bytes short) = ([], refl)
stopped-steps _ _ _ _ (c.reads_sheet csv table script) = (replaces script ∷ [], refl)

read-steps : (command : Command) (before : List Event) (name : List ℕ) (most : ℕ) (bytes : List ℕ) → IsReadBy command before name most → FollowsSteps (Some command) (before ++ read_of name most bytes ∷ [])
read-steps _ _ _ _ bytes (c.reads_script script dump) = (replaces dump ∷ [], refl)
read-steps _ _ _ _ bytes (c.reads_dump format dump questions) = (reads questions ∷ [], refl)
read-steps _ _ _ _ bytes (c.reads_questions format dump questions first short) = ([], refl)
read-steps _ _ _ _ bytes (c.reads_sheet csv table script) = (replaces script ∷ [], refl)

no-steps : (command : Option Command) → FollowsSteps command []
no-steps None = ([], refl)
no-steps (Some (Run script dump)) = (reads script ∷ replaces dump ∷ [], refl)
no-steps (Some (Ask format dump questions)) = (reads dump ∷ reads questions ∷ [], refl)
no-steps (Some (Generate rounds)) = ([], refl)
no-steps (Some (Load csv table script)) = (reads csv ∷ replaces script ∷ [], refl)
no-steps (Some Help) = ([], refl)
no-steps (Some Version) = ([], refl)

pub read-follows : (command : Option Command) (events : List Event) → HasRead command events → FollowsSteps command events
read-follows _ _ (c.nothing command) = no-steps command
read-follows _ _ (c.files command before name most bytes is short) = read-steps command before name most bytes is
read-follows _ _ (c.stopped command before name most is) = stopped-steps command before name most is

pub end-follows : (programs : Shown) (command : Option Command) (events : List Event) (text : List ℕ) (status : Status) → ComesTo programs command events text status → FollowsSteps command events
end-follows programs _ _ _ _ c.usage = ([], refl)
end-follows programs _ _ _ _ c.helped = ([], refl)
end-follows programs _ _ _ _ c.versioned = ([], refl)
end-follows programs _ _ _ _ (c.absent command before name most is) = missing-steps command before name most is
end-follows programs _ _ _ _ (c.unreadable command before name most is) = unreadable-steps command before name most is
end-follows programs _ _ _ _ (c.too_long command before name most bytes is long) = read-steps command before name most bytes is
end-follows programs _ _ _ _ (c.long_dump script dump bytes lines run long) = (replaces dump ∷ [], refl)
end-follows programs _ _ _ _ (c.lost_dump script dump bytes lines run small) = ([], refl)
end-follows programs _ _ _ _ (c.replied script dump bytes lines run small) = ([], refl)
end-follows programs _ _ _ _ (c.damaged format dump questions bytes asked f line few short fault) = ([], refl)
end-follows programs _ _ _ _ (c.answered format dump questions bytes asked contents lines few short formed are) = ([], refl)
end-follows programs _ _ _ _ (c.summarized rounds others are) = ([], refl)
end-follows programs _ _ _ _ (c.faulty_sheet csv table script bytes number record_number short fault) = (replaces script ∷ [], refl)
end-follows programs _ _ _ _ (c.lost_script csv table script bytes text rows short is) = ([], refl)
end-follows programs _ _ _ _ (c.loaded csv table script bytes text rows short is loads) = ([], refl)

-- ---- the cause of each status

abbrev pub Cause : Status → Option Command → List Event → Type 0
Cause exit.Usage command events = (command ≡ None) × AllDone events
Cause exit.Absent command events = (name : List ℕ) × IsLast (Missing name) events
Cause exit.Unreadable command events = (name : List ℕ) × IsLast (Unreadable name) events
Cause exit.Unwritten command events = (name : List ℕ) × (bytes : List ℕ) × IsLast (NotReplaced name bytes) events
Cause exit.OutOfMemory command events = ⊥
Cause exit.Done command events = AllDone events
Cause exit.Refused command events = AllDone events
Cause exit.TooLong command events = AllDone events
Cause exit.Damaged command events = AllDone events
Cause exit.SheetRefused command events = AllDone events

read-done : (command : Command) (before : List Event) (name : List ℕ) (most : ℕ) (bytes : List ℕ) → IsReadBy command before name most → AllDone (before ++ read_of name most bytes ∷ [])
read-done _ _ _ _ bytes (c.reads_script script dump) = tt
read-done _ _ _ _ bytes (c.reads_dump format dump questions) = tt
read-done _ _ _ _ bytes (c.reads_questions format dump questions first short) = tt
read-done _ _ _ _ bytes (c.reads_sheet csv table script) = tt

answered-cause : (refused : Bool) (command : Option Command) (events : List Event) → AllDone events → Cause (answered_status refused) command events
answered-cause true command events done = done
answered-cause false command events done = done

pub cause : (programs : Shown) (command : Option Command) (events : List Event) (text : List ℕ) (status : Status) → ComesTo programs command events text status → Cause status command events
cause programs _ _ _ _ c.usage = (refl, tt)
cause programs _ _ _ _ c.helped = tt
cause programs _ _ _ _ c.versioned = tt
cause programs _ _ _ _ (c.absent command before name most is) = (name, (before, refl))
cause programs _ _ _ _ (c.unreadable command before name most is) = (name, (before, refl))
cause programs _ _ _ _ (c.too_long command before name most bytes is long) = read-done command before name most bytes is
cause programs _ _ _ _ (c.long_dump script dump bytes lines run long) = tt
cause programs _ _ _ _ (c.lost_dump script dump bytes lines run small) = (dump, history_dump lines, (read_of script MAX_SCRIPT_LENGTH bytes ∷ [], refl))
cause programs _ _ _ _ (c.replied script dump bytes lines run small) =
    answered-cause (has_refusal (replies_to lines)) (Some (Run script dump)) (read_of script MAX_SCRIPT_LENGTH bytes ∷ Replaced dump (history_dump lines) ∷ []) tt
cause programs _ _ _ _ (c.damaged format dump questions bytes asked f line few short fault) = tt
cause programs _ _ _ _ (c.answered format dump questions bytes asked contents lines few short formed are) =
    answered-cause (refuses_some format (tables_in contents.entries) (answer_to (programs format) contents) lines) (Some (Ask format dump questions)) (read_of dump MAX_DUMP_LENGTH bytes ∷ read_of questions MAX_SCRIPT_LENGTH asked ∷ []) tt
cause programs _ _ _ _ (c.summarized rounds others are) = tt
cause programs _ _ _ _ (c.faulty_sheet csv table script bytes number record_number short fault) = tt
cause programs _ _ _ _ (c.lost_script csv table script bytes text rows short is) = (script, text, (read_of csv MAX_SHEET_LENGTH bytes ∷ [], refl))
cause programs _ _ _ _ (c.loaded csv table script bytes text rows short is loads) = tt

-- ---- no read stopped

none-last : (command : Command) (before : List Event) (name : List ℕ) (most : ℕ) → IsReadBy command before name most → (event : Event) → (HasStopped (event ∷ []) → ⊥) → HasStopped (before ++ event ∷ []) → ⊥
none-last _ _ _ _ (c.reads_script script dump) event none = none
none-last _ _ _ _ (c.reads_dump format dump questions) event none = none
none-last _ _ _ _ (c.reads_questions format dump questions bytes short) event none = none
none-last _ _ _ _ (c.reads_sheet csv table script) event none = none

pub none-stopped : (programs : Shown) (command : Option Command) (events : List Event) (text : List ℕ) (status : Status) → ComesTo programs command events text status → HasStopped events → ⊥
none-stopped programs _ _ _ _ c.usage = λ no. no
none-stopped programs _ _ _ _ c.helped = λ no. no
none-stopped programs _ _ _ _ c.versioned = λ no. no
none-stopped programs _ _ _ _ (c.absent command before name most is) = none-last command before name most is (Missing name) (λ no. no)
none-stopped programs _ _ _ _ (c.unreadable command before name most is) = none-last command before name most is (Unreadable name) (λ no. no)
none-stopped programs _ _ _ _ (c.too_long command before name most bytes is long) = none-last command before name most is (read_of name most bytes) (λ no. no)
none-stopped programs _ _ _ _ (c.long_dump script dump bytes lines run long) = λ no. no
none-stopped programs _ _ _ _ (c.lost_dump script dump bytes lines run small) = λ no. no
none-stopped programs _ _ _ _ (c.replied script dump bytes lines run small) = λ no. no
none-stopped programs _ _ _ _ (c.damaged format dump questions bytes asked f line few short fault) = λ no. no
none-stopped programs _ _ _ _ (c.answered format dump questions bytes asked contents lines few short formed are) = λ no. no
none-stopped programs _ _ _ _ (c.summarized rounds others are) = λ no. no
none-stopped programs _ _ _ _ (c.faulty_sheet csv table script bytes number record_number short fault) = λ no. no
none-stopped programs _ _ _ _ (c.lost_script csv table script bytes text rows short is) = λ no. no
none-stopped programs _ _ _ _ (c.loaded csv table script bytes text rows short is loads) = λ no. no

-- ---- what follows a read

no-read : (events : List Event) (name bytes : List ℕ) (most : ℕ) (made : List Event) → events ≡ read_of name most bytes ∷ made → (BeginsRead events → ⊥) → ⊥
no-read events name bytes most made is none = none (subst BeginsRead (sym is) tt)

-- of a script that is not too long
abbrev pub RunFollows : Option Command → List Event → Type 0
RunFollows (Some (Run script dump)) events = (name bytes : List ℕ) (made : List Event) → events ≡ read_of name MAX_SCRIPT_LENGTH bytes ∷ made → length bytes ≤ MAX_SCRIPT_LENGTH
    → length (script_dump bytes) ≤ MAX_DUMP_LENGTH → (made ≡ Replaced dump (script_dump bytes) ∷ []) ⊎ (made ≡ NotReplaced dump (script_dump bytes) ∷ [])
RunFollows command events = Unit {0}

pub long-clash : (bytes other : List ℕ) (most : ℕ) → bytes ≡ other → most < length bytes → length other ≤ most → ⊥
long-clash bytes other most same long short = omega (arith, long, short, ap length same)

pub dump-of : (bytes other : List ℕ) (lines : List ReadLine) → IsScript bytes lines → bytes ≡ other → history_dump lines ≡ script_dump other
dump-of bytes other lines are same = ap history_dump (one-script bytes lines are) ∙ dump-read bytes ∙ ap script_dump same

missing-run : (command : Command) (before : List Event) (name : List ℕ) (most : ℕ) (event : Event) → (BeginsRead (event ∷ []) → ⊥) → IsReadBy command before name most → RunFollows (Some command) (before ++ event ∷ [])
missing-run _ _ _ _ event none (c.reads_script script dump) = λ name bytes made is short few. absurd (no-read (event ∷ []) name bytes MAX_SCRIPT_LENGTH made is none)
missing-run _ _ _ _ event none (c.reads_dump format dump questions) = tt
missing-run _ _ _ _ event none (c.reads_questions format dump questions first short) = tt
missing-run _ _ _ _ event none (c.reads_sheet csv table script) = tt

long-run : (command : Command) (before : List Event) (name : List ℕ) (most : ℕ) (bytes : List ℕ) → IsReadBy command before name most → most < length bytes → RunFollows (Some command) (before ++ read_of name most bytes ∷ [])
long-run _ _ _ _ read (c.reads_script script dump) long = λ name bytes made is short few. absurd (long-clash read bytes MAX_SCRIPT_LENGTH (ap bytes_in is) long short)
long-run _ _ _ _ read (c.reads_dump format dump questions) long = tt
long-run _ _ _ _ read (c.reads_questions format dump questions first short) long = tt
long-run _ _ _ _ read (c.reads_sheet csv table script) long = tt

pub run-follows : (programs : Shown) (command : Option Command) (events : List Event) (text : List ℕ) (status : Status) → ComesTo programs command events text status → RunFollows command events
run-follows programs _ _ _ _ c.usage = tt
run-follows programs _ _ _ _ c.helped = tt
run-follows programs _ _ _ _ c.versioned = tt
run-follows programs _ _ _ _ (c.absent command before name most is) = missing-run command before name most (Missing name) (λ no. no) is
run-follows programs _ _ _ _ (c.unreadable command before name most is) = missing-run command before name most (Unreadable name) (λ no. no) is
run-follows programs _ _ _ _ (c.too_long command before name most bytes is long) = long-run command before name most bytes is long
run-follows programs _ _ _ _ (c.long_dump script dump read lines run long) = λ name bytes made is short few.
    let same : history_dump lines ≡ script_dump bytes = dump-of read bytes lines run.are (ap bytes_in is) in
    absurd (long-clash (history_dump lines) (script_dump bytes) MAX_DUMP_LENGTH same long few)
run-follows programs _ _ _ _ (c.lost_dump script dump read lines run small) = λ name bytes made is short few.
    inr (sym (ap rest_of is) ∙ ap (λ (text : List ℕ). NotReplaced dump text ∷ []) (dump-of read bytes lines run.are (ap bytes_in is)))
run-follows programs _ _ _ _ (c.replied script dump read lines run small) = λ name bytes made is short few.
    inl (sym (ap rest_of is) ∙ ap (λ (text : List ℕ). Replaced dump text ∷ []) (dump-of read bytes lines run.are (ap bytes_in is)))
run-follows programs _ _ _ _ (c.damaged format dump questions bytes asked f line few short fault) = tt
run-follows programs _ _ _ _ (c.answered format dump questions bytes asked contents lines few short formed are) = tt
run-follows programs _ _ _ _ (c.summarized rounds others are) = tt
run-follows programs _ _ _ _ (c.faulty_sheet csv table script bytes number record_number short fault) = tt
run-follows programs _ _ _ _ (c.lost_script csv table script bytes text rows short is) = tt
run-follows programs _ _ _ _ (c.loaded csv table script bytes text rows short is loads) = tt

-- ---- the summary of `gen`

abbrev pub GenerateFollows : Option Command → List ℕ → Status → Type 0
GenerateFollows None text status = Unit {0}
GenerateFollows (Some (Run script dump)) text status = Unit {0}
GenerateFollows (Some (Ask format dump questions)) text status = Unit {0}
GenerateFollows (Some (Generate rounds)) text status = (others : List ℕ) × IsWholeLines others × (text ≡ rounds_line rounds ++ others) × (status ≡ exit.Done)
GenerateFollows (Some (Load csv table script)) text status = Unit {0}
GenerateFollows (Some Help) text status = Unit {0}
GenerateFollows (Some Version) text status = Unit {0}

read-generates : (command : Command) (before : List Event) (name : List ℕ) (most : ℕ) → IsReadBy command before name most → (text : List ℕ) (status : Status) → GenerateFollows (Some command) text status
read-generates _ _ _ _ (c.reads_script script dump) text status = tt
read-generates _ _ _ _ (c.reads_dump format dump questions) text status = tt
read-generates _ _ _ _ (c.reads_questions format dump questions first short) text status = tt
read-generates _ _ _ _ (c.reads_sheet csv table script) text status = tt

pub generate-follows : (programs : Shown) (command : Option Command) (events : List Event) (text : List ℕ) (status : Status) → ComesTo programs command events text status → GenerateFollows command text status
generate-follows programs _ _ _ _ c.usage = tt
generate-follows programs _ _ _ _ c.helped = tt
generate-follows programs _ _ _ _ c.versioned = tt
generate-follows programs _ _ _ _ (c.absent command before name most is) = read-generates command before name most is _ _
generate-follows programs _ _ _ _ (c.unreadable command before name most is) = read-generates command before name most is _ _
generate-follows programs _ _ _ _ (c.too_long command before name most bytes is long) = read-generates command before name most is _ _
generate-follows programs _ _ _ _ (c.long_dump script dump bytes lines run long) = tt
generate-follows programs _ _ _ _ (c.lost_dump script dump bytes lines run small) = tt
generate-follows programs _ _ _ _ (c.replied script dump bytes lines run small) = tt
generate-follows programs _ _ _ _ (c.damaged format dump questions bytes asked f line few short fault) = tt
generate-follows programs _ _ _ _ (c.answered format dump questions bytes asked contents lines few short formed are) = tt
generate-follows programs _ _ _ _ (c.summarized rounds others are) = (others, are, refl, refl)
generate-follows programs _ _ _ _ (c.faulty_sheet csv table script bytes number record_number short fault) = tt
generate-follows programs _ _ _ _ (c.lost_script csv table script bytes text rows short is) = tt
generate-follows programs _ _ _ _ (c.loaded csv table script bytes text rows short is loads) = tt

-- ---- a sheet

-- of a sheet that is not too long
abbrev pub SheetFollows : List ℕ → List ℕ → List ℕ → List Event → Result (List ℕ × ℕ) Fault → Type 0
SheetFollows table script bytes made (Ok load) = ((made ≡ Replaced script load.0 ∷ []) × LoadsText table bytes load.0) ⊎ (made ≡ NotReplaced script load.0 ∷ [])
SheetFollows table script bytes made (Err fault) = made ≡ []

abbrev pub LoadFollows : Option Command → List Event → Type 0
LoadFollows (Some (Load csv table script)) events = (name bytes : List ℕ) (made : List Event) → events ≡ read_of name MAX_SHEET_LENGTH bytes ∷ made → length bytes ≤ MAX_SHEET_LENGTH
    → SheetFollows table script bytes made (loaded_of table bytes)
LoadFollows command events = Unit {0}

sheet-follows : (table script read bytes : List ℕ) (made : List Event) (result : Result (List ℕ × ℕ) Fault) → read ≡ bytes → loaded_of table read ≡ result → SheetFollows table script bytes made result
    → SheetFollows table script bytes made (loaded_of table bytes)
sheet-follows table script read bytes made result same is follows =
    subst (SheetFollows table script bytes made) (sym is ∙ ap (loaded_of table) same) follows

missing-load : (command : Command) (before : List Event) (name : List ℕ) (most : ℕ) (event : Event) → (BeginsRead (event ∷ []) → ⊥) → IsReadBy command before name most → LoadFollows (Some command) (before ++ event ∷ [])
missing-load _ _ _ _ event none (c.reads_script script dump) = tt
missing-load _ _ _ _ event none (c.reads_dump format dump questions) = tt
missing-load _ _ _ _ event none (c.reads_questions format dump questions first short) = tt
missing-load _ _ _ _ event none (c.reads_sheet csv table script) = λ name bytes made is short. absurd (no-read (event ∷ []) name bytes MAX_SHEET_LENGTH made is none)

long-load : (command : Command) (before : List Event) (name : List ℕ) (most : ℕ) (bytes : List ℕ) → IsReadBy command before name most → most < length bytes → LoadFollows (Some command) (before ++ read_of name most bytes ∷ [])
long-load _ _ _ _ read (c.reads_script script dump) long = tt
long-load _ _ _ _ read (c.reads_dump format dump questions) long = tt
long-load _ _ _ _ read (c.reads_questions format dump questions first short) long = tt
long-load _ _ _ _ read (c.reads_sheet csv table script) long = λ name bytes made is short. absurd (long-clash read bytes MAX_SHEET_LENGTH (ap bytes_in is) long short)

pub load-follows : (programs : Shown) (command : Option Command) (events : List Event) (text : List ℕ) (status : Status) → ComesTo programs command events text status → LoadFollows command events
load-follows programs _ _ _ _ c.usage = tt
load-follows programs _ _ _ _ c.helped = tt
load-follows programs _ _ _ _ c.versioned = tt
load-follows programs _ _ _ _ (c.absent command before name most is) = missing-load command before name most (Missing name) (λ no. no) is
load-follows programs _ _ _ _ (c.unreadable command before name most is) = missing-load command before name most (Unreadable name) (λ no. no) is
load-follows programs _ _ _ _ (c.too_long command before name most bytes is long) = long-load command before name most bytes is long
load-follows programs _ _ _ _ (c.long_dump script dump read lines run long) = tt
load-follows programs _ _ _ _ (c.lost_dump script dump read lines run small) = tt
load-follows programs _ _ _ _ (c.replied script dump read lines run small) = tt
load-follows programs _ _ _ _ (c.damaged format dump questions bytes asked f line few short fault) = tt
load-follows programs _ _ _ _ (c.answered format dump questions bytes asked contents lines few short formed are) = tt
load-follows programs _ _ _ _ (c.summarized rounds others are) = tt
load-follows programs _ _ _ _ (c.faulty_sheet csv table script read number record_number fits fault) = λ name bytes made is short.
    sheet-follows table script read bytes made _ (ap bytes_in is) fault (sym (ap rest_of is))
load-follows programs _ _ _ _ (c.lost_script csv table script read text rows fits loads) = λ name bytes made is short.
    sheet-follows table script read bytes made (Ok (text, rows)) (ap bytes_in is) loads (inr (sym (ap rest_of is)))
load-follows programs _ _ _ _ (c.loaded csv table script read text rows fits loads has) = λ name bytes made is short.
    sheet-follows table script read bytes made (Ok (text, rows)) (ap bytes_in is) loads
    (inl (sym (ap rest_of is), subst (λ (b : List ℕ). LoadsText table b text) (ap bytes_in is) has))

-- ---- where memory ran out after a read, there is no other event

abbrev pub NothingFollows : Option Command → List Event → Type 0
NothingFollows (Some (Ask format dump questions)) events = Unit {0}
NothingFollows command events = (event : Event) (made : List Event) → events ≡ event ∷ made → made ≡ []

one-read : (command : Command) (before : List Event) (name : List ℕ) (most : ℕ) (bytes : List ℕ) → IsReadBy command before name most → NothingFollows (Some command) (before ++ read_of name most bytes ∷ [])
one-read _ _ _ _ bytes (c.reads_script script dump) = λ event made is. sym (ap rest_of is)
one-read _ _ _ _ bytes (c.reads_dump format dump questions) = tt
one-read _ _ _ _ bytes (c.reads_questions format dump questions first short) = tt
one-read _ _ _ _ bytes (c.reads_sheet csv table script) = λ event made is. sym (ap rest_of is)

one-stop : (command : Command) (before : List Event) (name : List ℕ) (most : ℕ) → IsReadBy command before name most → NothingFollows (Some command) (before ++ Stopped name ∷ [])
one-stop _ _ _ _ (c.reads_script script dump) = λ event made is. sym (ap rest_of is)
one-stop _ _ _ _ (c.reads_dump format dump questions) = tt
one-stop _ _ _ _ (c.reads_questions format dump questions first short) = tt
one-stop _ _ _ _ (c.reads_sheet csv table script) = λ event made is. sym (ap rest_of is)

none-read : (command : Option Command) → NothingFollows command []
none-read None = λ event made is. sym (ap rest_of is)
none-read (Some (Run script dump)) = λ event made is. sym (ap rest_of is)
none-read (Some (Ask format dump questions)) = tt
none-read (Some (Generate rounds)) = λ event made is. sym (ap rest_of is)
none-read (Some (Load csv table script)) = λ event made is. sym (ap rest_of is)
none-read (Some Help) = λ event made is. sym (ap rest_of is)
none-read (Some Version) = λ event made is. sym (ap rest_of is)

pub nothing-follows : (command : Option Command) (events : List Event) → HasRead command events → NothingFollows command events
nothing-follows _ _ (c.nothing command) = none-read command
nothing-follows _ _ (c.files command before name most bytes is short) = one-read command before name most bytes is
nothing-follows _ _ (c.stopped command before name most is) = one-stop command before name most is
