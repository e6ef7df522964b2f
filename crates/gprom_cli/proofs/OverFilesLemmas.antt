-- What a call promises where the shelf knows its files.
use Rattle.std.proofs.Common.{◌≡◌, ◌≢◌, ℕ, ◌+◌, ◌<◌, ◌≤◌, ◌⊎◌, inl, inr, Bool, true, false, cond, List, [], ◌∷◌, ◌++◌, length, take, nat_lt, Option, Some, None, Result, Ok, Err, refl, sym, ap, ◌∙◌, subst, ⊎_elim, arith, bytes_eq}
use Rattle.std.specs.Option.{option_map}
use Rattle.std.proofs.lemmas.Bool.Decides.{nat_tests}
use Rattle.std.proofs.lemmas.List.{take_all}
use Rattle.std.proofs.lemmas.Slice.Eq.{bytes_eq-Decides}
use Rattle.gp_base.specs.Annotated.{monomials, unannotated}
use Rattle.gp_io.specs.Contents.{Contents, HaveSame, Leads, replaced_by}
use Rattle.gp_io.specs.Events.{Event, Read, Missing, Unreadable, Stopped, Replaced, NotReplaced}
use Rattle.gp_script.specs.History.{ReadLine, has_refusal, last_state, replies_text, replies_to}
use Rattle.gp_script.specs.declared.script.TheConstants.{MAX_SCRIPT_LENGTH}
use Rattle.gp_dump.specs.declared.dump.TheConstants.{MAX_DUMP_LENGTH}
use Rattle.gp_dump.specs.Dumps.{Dump, dump_of}
use Rattle.gp_dump.specs.Rules.{WellFormed}
use Rattle.gp_csv.specs.Faults.{Fault}
use Rattle.gp_load.specs.Loading.{loaded_of}
use Rattle.gp_ask.specs.declared.format.Format.{Format}
use Rattle.gp_ask.specs.Answers.{answer_to, held_to}
use Rattle.gp_ask.specs.Questions.{AreQuestions, ReadQuestion}
use Rattle.gprom_cli.specs.declared.load.TheConstants.{MAX_SHEET_LENGTH}
use Rattle.gprom_cli.specs.declared.status.Status.{Status}
use Rattle.gprom_cli.specs.declared.status.Status.TheVariants as exit
use Rattle.gprom_cli.specs.Args.{Command, Run, Ask, Generate, Load, Help, Version}
use Rattle.gprom_cli.specs.Call as c
use Rattle.gprom_cli.specs.Call.{Call, ComesTo, HasOutcome, HasRead, IsReadBy, RunsScript, WritesOutput, Shown, answered_status, asked_status, asked_text, history_dump, loaded_message, read_of, sheet_message}
use Rattle.gprom_cli.specs.OverFiles.{Becomes, LeavesOthers, LoadsFile, NoFault, OthersHaveSame, OverFiles}
use Rattle.gprom_cli.specs.Consequences.{AllDone, Consequences, IsDetermined, IsReplacedAfter, LoadsSheet}
use Rattle.gprom_cli.specs.Promises.{Promises}
use Rattle.gprom_cli.specs.Steps.{script_dump}
use Rattle.gprom_cli.proofs.EventLemmas.{dump-of, long-clash}
use Rattle.gprom_cli.proofs.WritesLemmas.{nothing-written}

-- ---- the shape of what a shelf does in a call

-- a file that may be so long was asked for
abbrev IsOpening : List ℕ → ℕ → Event → Type 0
IsOpening name most (Read other count bytes) = (other ≡ name) × (count ≡ most + 1)
IsOpening name most (Missing other) = other ≡ name
IsOpening name most (Unreadable other) = other ≡ name
IsOpening name most (Stopped other) = other ≡ name
IsOpening name most (Replaced other bytes) = ⊥
IsOpening name most (NotReplaced other bytes) = ⊥

abbrev IsReplacing : List ℕ → Event → Type 0
IsReplacing name (Read other count bytes) = ⊥
IsReplacing name (Missing other) = ⊥
IsReplacing name (Unreadable other) = ⊥
IsReplacing name (Stopped other) = ⊥
IsReplacing name (Replaced other bytes) = other ≡ name
IsReplacing name (NotReplaced other bytes) = other ≡ name

-- this file was replaced or not, and nothing else was done
abbrev IsClosing : List ℕ → List Event → Type 0
IsClosing name [] = Unit {0}
IsClosing name (event ∷ events) = IsReplacing name event × (events ≡ [])

abbrev ReadsAndReplaces : List ℕ → ℕ → List ℕ → List Event → Type 0
ReadsAndReplaces name most other [] = Unit {0}
ReadsAndReplaces name most other (event ∷ events) = IsOpening name most event × IsClosing other events

abbrev ReadsLast : List ℕ → ℕ → List Event → Type 0
ReadsLast name most [] = Unit {0}
ReadsLast name most (event ∷ events) = IsOpening name most event × (events ≡ [])

abbrev ReadsBoth : List ℕ → List ℕ → List Event → Type 0
ReadsBoth dump questions [] = Unit {0}
ReadsBoth dump questions (event ∷ events) = IsOpening dump MAX_DUMP_LENGTH event × ReadsLast questions MAX_SCRIPT_LENGTH events

abbrev HasShape : Option Command → List Event → Type 0
HasShape None events = events ≡ []
HasShape (Some (Run script dump)) events = ReadsAndReplaces script MAX_SCRIPT_LENGTH dump events
HasShape (Some (Ask format dump questions)) events = ReadsBoth dump questions events
HasShape (Some (Generate rounds)) events = events ≡ []
HasShape (Some (Load csv table script)) events = ReadsAndReplaces csv MAX_SHEET_LENGTH script events
HasShape (Some Help) events = events ≡ []
HasShape (Some Version) events = events ≡ []

missing-shape : (command : Command) (before : List Event) (name : List ℕ) (most : ℕ) → IsReadBy command before name most → HasShape (Some command) (before ++ Missing name ∷ [])
missing-shape _ _ _ _ (c.reads_script script dump) = (refl, tt)
missing-shape _ _ _ _ (c.reads_dump format dump questions) = (refl, tt)
missing-shape _ _ _ _ (c.reads_questions format dump questions bytes short) = ((refl, refl), (refl, refl))
missing-shape _ _ _ _ (c.reads_sheet csv table script) = (refl, tt)

unreadable-shape : (command : Command) (before : List Event) (name : List ℕ) (most : ℕ) → IsReadBy command before name most → HasShape (Some command) (before ++ Unreadable name ∷ [])
unreadable-shape _ _ _ _ (c.reads_script script dump) = (refl, tt)
unreadable-shape _ _ _ _ (c.reads_dump format dump questions) = (refl, tt)
unreadable-shape _ _ _ _ (c.reads_questions format dump questions bytes short) = ((refl, refl), (refl, refl))
unreadable-shape _ _ _ _ (c.reads_sheet csv table script) = (refl, tt)

stopped-shape : (command : Command) (before : List Event) (name : List ℕ) (most : ℕ) → IsReadBy command before name most → HasShape (Some command) (before ++ Stopped name ∷ [])
stopped-shape _ _ _ _ (c.reads_script script dump) = (refl, tt)
stopped-shape _ _ _ _ (c.reads_dump format dump questions) = (refl, tt)
stopped-shape _ _ _ _ (c.reads_questions format dump questions bytes short) = ((refl, refl), (refl, refl))
stopped-shape _ _ _ _ (c.reads_sheet csv table script) = (refl, tt)

whole-shape : (command : Command) (before : List Event) (name : List ℕ) (most : ℕ) (bytes : List ℕ) → IsReadBy command before name most → HasShape (Some command) (before ++ read_of name most bytes ∷ [])
whole-shape _ _ _ _ bytes (c.reads_script script dump) = ((refl, refl), tt)
whole-shape _ _ _ _ bytes (c.reads_dump format dump questions) = ((refl, refl), tt)
whole-shape _ _ _ _ bytes (c.reads_questions format dump questions first short) = ((refl, refl), ((refl, refl), refl))
whole-shape _ _ _ _ bytes (c.reads_sheet csv table script) = ((refl, refl), tt)

no-shape : (command : Option Command) → HasShape command []
no-shape None = refl
no-shape (Some (Run script dump)) = tt
no-shape (Some (Ask format dump questions)) = tt
no-shape (Some (Generate rounds)) = refl
no-shape (Some (Load csv table script)) = tt
no-shape (Some Help) = refl
no-shape (Some Version) = refl

read-shape : (command : Option Command) (events : List Event) → HasRead command events → HasShape command events
read-shape _ _ (c.nothing command) = no-shape command
read-shape _ _ (c.files command before name most bytes is short) = whole-shape command before name most bytes is
read-shape _ _ (c.stopped command before name most is) = stopped-shape command before name most is

end-shape : (programs : Shown) (command : Option Command) (events : List Event) (text : List ℕ) (status : Status) → ComesTo programs command events text status → HasShape command events
end-shape programs _ _ _ _ c.usage = refl
end-shape programs _ _ _ _ c.helped = refl
end-shape programs _ _ _ _ c.versioned = refl
end-shape programs _ _ _ _ (c.absent command before name most is) = missing-shape command before name most is
end-shape programs _ _ _ _ (c.unreadable command before name most is) = unreadable-shape command before name most is
end-shape programs _ _ _ _ (c.too_long command before name most bytes is long) = whole-shape command before name most bytes is
end-shape programs _ _ _ _ (c.long_dump script dump bytes lines run long) = ((refl, refl), tt)
end-shape programs _ _ _ _ (c.lost_dump script dump bytes lines run small) = ((refl, refl), (refl, refl))
end-shape programs _ _ _ _ (c.replied script dump bytes lines run small) = ((refl, refl), (refl, refl))
end-shape programs _ _ _ _ (c.damaged format dump questions bytes asked f line few short fault) = ((refl, refl), ((refl, refl), refl))
end-shape programs _ _ _ _ (c.answered format dump questions bytes asked contents lines few short formed are) = ((refl, refl), ((refl, refl), refl))
end-shape programs _ _ _ _ (c.summarized rounds others are) = refl
end-shape programs _ _ _ _ (c.faulty_sheet csv table script bytes number record_number short fault) = ((refl, refl), tt)
end-shape programs _ _ _ _ (c.lost_script csv table script bytes text rows short is) = ((refl, refl), (refl, refl))
end-shape programs _ _ _ _ (c.loaded csv table script bytes text rows short is loads) = ((refl, refl), (refl, refl))

-- ---- what was done decides what was done next, where nothing failed

test-true : (a b : ℕ) (x y : List Event) → a < b → cond (nat_lt a b) x y ≡ x
test-true a b x y less = grind (arith, nat_tests)

test-false : (a b : ℕ) (x y : List Event) → b ≤ a → cond (nat_lt a b) x y ≡ y
test-false a b x y most = grind (arith, nat_tests)

abbrev dump_made : List ℕ → List ℕ → List Event
dump_made dump text = cond (nat_lt MAX_DUMP_LENGTH (length text)) [] (Replaced dump text ∷ [])

abbrev run_made : List ℕ → Event → List Event
run_made dump (Read name count bytes) = cond (nat_lt MAX_SCRIPT_LENGTH (length bytes)) [] (dump_made dump (script_dump bytes))
run_made dump (Missing name) = []
run_made dump (Unreadable name) = []
run_made dump (Stopped name) = []
run_made dump (Replaced name bytes) = []
run_made dump (NotReplaced name bytes) = []

abbrev sheet_made : List ℕ → Result (List ℕ × ℕ) Fault → List Event
sheet_made script (Ok made) = Replaced script made.0 ∷ []
sheet_made script (Err fault) = []

abbrev load_made : List ℕ → List ℕ → Event → List Event
load_made table script (Read name count bytes) = cond (nat_lt MAX_SHEET_LENGTH (length bytes)) [] (sheet_made script (loaded_of table bytes))
load_made table script (Missing name) = []
load_made table script (Unreadable name) = []
load_made table script (Stopped name) = []
load_made table script (Replaced name bytes) = []
load_made table script (NotReplaced name bytes) = []

-- a dump was read
abbrev IsShortRead : Event → Type 0
IsShortRead (Read name count bytes) = length bytes ≤ MAX_DUMP_LENGTH
IsShortRead (Missing name) = ⊥
IsShortRead (Unreadable name) = ⊥
IsShortRead (Stopped name) = ⊥
IsShortRead (Replaced name bytes) = ⊥
IsShortRead (NotReplaced name bytes) = ⊥

abbrev IsFull : Option Command → List Event → Type 0
IsFull None events = Unit {0}
IsFull (Some (Run script dump)) [] = ⊥
IsFull (Some (Run script dump)) (event ∷ events) = NoFault events → events ≡ run_made dump event
IsFull (Some (Ask format dump questions)) [] = ⊥
IsFull (Some (Ask format dump questions)) (event ∷ []) = IsShortRead event → ⊥
IsFull (Some (Ask format dump questions)) (event ∷ second ∷ events) = IsShortRead event
IsFull (Some (Generate rounds)) events = Unit {0}
IsFull (Some (Load csv table script)) [] = ⊥
IsFull (Some (Load csv table script)) (event ∷ events) = NoFault events → events ≡ load_made table script event
IsFull (Some Help) events = Unit {0}
IsFull (Some Version) events = Unit {0}

missing-full : (command : Command) (before : List Event) (name : List ℕ) (most : ℕ) → IsReadBy command before name most → IsFull (Some command) (before ++ Missing name ∷ [])
missing-full _ _ _ _ (c.reads_script script dump) = λ none. refl
missing-full _ _ _ _ (c.reads_dump format dump questions) = λ no. no
missing-full _ _ _ _ (c.reads_questions format dump questions bytes short) = short
missing-full _ _ _ _ (c.reads_sheet csv table script) = λ none. refl

unreadable-full : (command : Command) (before : List Event) (name : List ℕ) (most : ℕ) → IsReadBy command before name most → IsFull (Some command) (before ++ Unreadable name ∷ [])
unreadable-full _ _ _ _ (c.reads_script script dump) = λ none. refl
unreadable-full _ _ _ _ (c.reads_dump format dump questions) = λ no. no
unreadable-full _ _ _ _ (c.reads_questions format dump questions bytes short) = short
unreadable-full _ _ _ _ (c.reads_sheet csv table script) = λ none. refl

long-full : (command : Command) (before : List Event) (name : List ℕ) (most : ℕ) (bytes : List ℕ) → IsReadBy command before name most → most < length bytes
    → IsFull (Some command) (before ++ read_of name most bytes ∷ [])
long-full _ _ _ _ bytes (c.reads_script script dump) long = λ none. sym (test-true MAX_SCRIPT_LENGTH (length bytes) [] (dump_made dump (script_dump bytes)) long)
long-full _ _ _ _ bytes (c.reads_dump format dump questions) long = λ short. long-clash bytes bytes MAX_DUMP_LENGTH refl long short
long-full _ _ _ _ bytes (c.reads_questions format dump questions first short) long = short
long-full _ _ _ _ bytes (c.reads_sheet csv table script) long = λ none. sym (test-true MAX_SHEET_LENGTH (length bytes) [] (sheet_made script (loaded_of table bytes)) long)

-- after a script that is not too long, by its dump
after-script : (dump bytes : List ℕ) (lines : List ReadLine) → RunsScript bytes lines → cond (nat_lt MAX_SCRIPT_LENGTH (length bytes)) [] (dump_made dump (script_dump bytes)) ≡ dump_made dump (history_dump lines)
after-script dump bytes lines run =
    test-false MAX_SCRIPT_LENGTH (length bytes) [] (dump_made dump (script_dump bytes)) run.short ∙ ap (dump_made dump) (sym (dump-of bytes bytes lines run.are refl))

after-sheet : (table script bytes : List ℕ) (result : Result (List ℕ × ℕ) Fault) → length bytes ≤ MAX_SHEET_LENGTH → loaded_of table bytes ≡ result
    → cond (nat_lt MAX_SHEET_LENGTH (length bytes)) [] (sheet_made script (loaded_of table bytes)) ≡ sheet_made script result
after-sheet table script bytes result short is = test-false MAX_SHEET_LENGTH (length bytes) [] (sheet_made script (loaded_of table bytes)) short ∙ ap (sheet_made script) is

end-full : (programs : Shown) (command : Option Command) (events : List Event) (text : List ℕ) (status : Status) → ComesTo programs command events text status → IsFull command events
end-full programs _ _ _ _ c.usage = tt
end-full programs _ _ _ _ c.helped = tt
end-full programs _ _ _ _ c.versioned = tt
end-full programs _ _ _ _ (c.absent command before name most is) = missing-full command before name most is
end-full programs _ _ _ _ (c.unreadable command before name most is) = unreadable-full command before name most is
end-full programs _ _ _ _ (c.too_long command before name most bytes is long) = long-full command before name most bytes is long
end-full programs _ _ _ _ (c.long_dump script dump bytes lines run long) = λ none.
    sym (after-script dump bytes lines run ∙ test-true MAX_DUMP_LENGTH (length (history_dump lines)) [] (Replaced dump (history_dump lines) ∷ []) long)
end-full programs _ _ _ _ (c.lost_dump script dump bytes lines run small) = λ none. absurd none
end-full programs _ _ _ _ (c.replied script dump bytes lines run small) = λ none.
    sym (after-script dump bytes lines run ∙ test-false MAX_DUMP_LENGTH (length (history_dump lines)) [] (Replaced dump (history_dump lines) ∷ []) small)
end-full programs _ _ _ _ (c.damaged format dump questions bytes asked f line few short fault) = few
end-full programs _ _ _ _ (c.answered format dump questions bytes asked contents lines few short formed are) = few
end-full programs _ _ _ _ (c.summarized rounds others are) = tt
end-full programs _ _ _ _ (c.faulty_sheet csv table script bytes number record_number short fault) = λ none. sym (after-sheet table script bytes _ short fault)
end-full programs _ _ _ _ (c.lost_script csv table script bytes text rows short is) = λ none. absurd none
end-full programs _ _ _ _ (c.loaded csv table script bytes text rows short is loads) = λ none. sym (after-sheet table script bytes (Ok (text, rows)) short is)

-- ---- over files

some-is : (a b : List ℕ) → Some a ≡ Some b → a ≡ b
some-is a b same = cc

closing-done : (name : List ℕ) (events : List Event) → IsClosing name events → NoFault events → AllDone events
closing-done name [] closing none = tt
closing-done name (Read other count bytes ∷ events) closing none = absurd closing.0
closing-done name (Missing other ∷ events) closing none = absurd closing.0
closing-done name (Unreadable other ∷ events) closing none = absurd closing.0
closing-done name (Stopped other ∷ events) closing none = absurd closing.0
closing-done name (Replaced other bytes ∷ events) closing none = subst AllDone (sym closing.1) tt
closing-done name (NotReplaced other bytes ∷ events) closing none = absurd none

none-after : (event : Event) (events : List Event) → NoFault (event ∷ events) → NoFault events
none-after (Read name count bytes) events none = none
none-after (Missing name) events none = none
none-after (Unreadable name) events none = absurd none
none-after (Stopped name) events none = absurd none
none-after (Replaced name bytes) events none = none
none-after (NotReplaced name bytes) events none = absurd none

-- another name is not this one
not-this : (name also other : List ℕ) → also ≡ name → other ≢ name → (answer : Bool) → bytes_eq also other ≡ answer → bytes_eq also other ≡ false
not-this name also other is apart true same = absurd (apart (sym ((bytes_eq-Decides also other).0 same) ∙ is))
not-this name also other is apart false same = same

module _ (old : Contents) where
  -- a file that was asked for stays as it is
  opening-leads : (name : List ℕ) (most : ℕ) (event : Event) (events : List Event) (new : Contents) → IsOpening name most event → Leads old (event ∷ events) new → Leads old events new
  opening-leads name most (Read other count bytes) events new opens leads = leads.1
  opening-leads name most (Missing other) events new opens leads = leads.1
  opening-leads name most (Unreadable other) events new opens leads = leads
  opening-leads name most (Stopped other) events new opens leads = leads
  opening-leads name most (Replaced other bytes) events new opens leads = absurd opens
  opening-leads name most (NotReplaced other bytes) events new opens leads = absurd opens

  -- the file that is replaced last is the only one that changes
  closing-leads : (name : List ℕ) (events : List Event) (new : Contents) → IsClosing name events → Leads old events new → OthersHaveSame name old new
  closing-leads name [] new closing leads = λ other apart. leads other
  closing-leads name (Read also count bytes ∷ events) new closing leads = absurd closing.0
  closing-leads name (Missing also ∷ events) new closing leads = absurd closing.0
  closing-leads name (Unreadable also ∷ events) new closing leads = absurd closing.0
  closing-leads name (Stopped also ∷ events) new closing leads = absurd closing.0
  closing-leads name (Replaced also bytes ∷ events) new closing leads = λ other apart.
      let same : HaveSame (replaced_by also bytes old) new = subst (λ (es : List Event). Leads (replaced_by also bytes old) es new) closing.1 leads in
      same other ∙ ap (λ (answer : Bool). cond answer (Some bytes) (old other)) (not-this name also other closing.0 apart (bytes_eq also other) refl)
  closing-leads name (NotReplaced also bytes ∷ events) new closing leads = λ other apart. subst (λ (es : List Event). Leads old es new) closing.1 leads other

  -- a file that is there is read
  found : (name : List ℕ) (most : ℕ) (event : Event) (events : List Event) (new : Contents) (bytes : List ℕ) → IsOpening name most event → Leads old (event ∷ events) new → NoFault (event ∷ events)
      → old name ≡ Some bytes → length bytes ≤ most → event ≡ read_of name most bytes
  found name most (Read other count read) events new bytes opens leads none has short =
      let some : Some (take count bytes) ≡ Some read = ap (option_map (take count)) (sym has) ∙ ap (λ (n : List ℕ). option_map (take count) (old n)) (sym opens.0) ∙ leads.0 in
      let whole : take count bytes ≡ bytes = take_all count bytes (omega (arith, opens.1, short)) in
      let same : read ≡ bytes = sym (some-is (take count bytes) read some) ∙ whole in
      λ i. Read (opens.0 i) (opens.1 i) (same i)
  found name most (Missing other) events new bytes opens leads none has short =
      absurd (let no : Some bytes ≡ None = sym has ∙ ap old (sym opens) ∙ leads.0 in cc)
  found name most (Unreadable other) events new bytes opens leads none has short = absurd none
  found name most (Stopped other) events new bytes opens leads none has short = absurd none
  found name most (Replaced other read) events new bytes opens leads none has short = absurd opens
  found name most (NotReplaced other read) events new bytes opens leads none has short = absurd opens

  read-and-missing : (other also : List ℕ) (count : ℕ) (bytes : List ℕ) → other ≡ also → option_map (take count) (old other) ≡ Some bytes → old also ≡ None → ⊥
  read-and-missing other also count bytes same is none =
      let no : Some bytes ≡ None = sym is ∙ ap (λ (n : List ℕ). option_map (take count) (old n)) same ∙ ap (option_map (take count)) none in
      cc

  -- two calls find the same
  same-opening : (name : List ℕ) (most : ℕ) (event other : Event) (events others : List Event) (new after : Contents) → IsOpening name most event → IsOpening name most other
      → Leads old (event ∷ events) new → Leads old (other ∷ others) after → NoFault (event ∷ events) → NoFault (other ∷ others) → event ≡ other
  same-opening name most (Read file count bytes) (Read also count' bytes') events others new after opens opens' leads leads' none none' =
      let files : file ≡ also = opens.0 ∙ sym opens'.0 in
      let counts : count ≡ count' = opens.1 ∙ sym opens'.1 in
      let some : Some bytes ≡ Some bytes' = sym leads.0 ∙ (λ i. option_map (take (counts i)) (old (files i))) ∙ leads'.0 in
      let same : bytes ≡ bytes' = some-is bytes bytes' some in
      λ i. Read (files i) (counts i) (same i)
  same-opening name most (Read file count bytes) (Missing also) events others new after opens opens' leads leads' none none' = absurd (read-and-missing file also count bytes (opens.0 ∙ sym opens') leads.0 leads'.0)
  same-opening name most (Read file count bytes) (Unreadable also) events others new after opens opens' leads leads' none none' = absurd none'
  same-opening name most (Read file count bytes) (Stopped also) events others new after opens opens' leads leads' none none' = absurd none'
  same-opening name most (Read file count bytes) (Replaced also bytes') events others new after opens opens' leads leads' none none' = absurd opens'
  same-opening name most (Read file count bytes) (NotReplaced also bytes') events others new after opens opens' leads leads' none none' = absurd opens'
  same-opening name most (Missing file) (Read also count bytes) events others new after opens opens' leads leads' none none' = absurd (read-and-missing also file count bytes (opens'.0 ∙ sym opens) leads'.0 leads.0)
  same-opening name most (Missing file) (Missing also) events others new after opens opens' leads leads' none none' = ap Missing (opens ∙ sym opens')
  same-opening name most (Missing file) (Unreadable also) events others new after opens opens' leads leads' none none' = absurd none'
  same-opening name most (Missing file) (Stopped also) events others new after opens opens' leads leads' none none' = absurd none'
  same-opening name most (Missing file) (Replaced also bytes') events others new after opens opens' leads leads' none none' = absurd opens'
  same-opening name most (Missing file) (NotReplaced also bytes') events others new after opens opens' leads leads' none none' = absurd opens'
  same-opening name most (Unreadable file) other events others new after opens opens' leads leads' none none' = absurd none
  same-opening name most (Stopped file) other events others new after opens opens' leads leads' none none' = absurd none
  same-opening name most (Replaced file bytes) other events others new after opens opens' leads leads' none none' = absurd opens
  same-opening name most (NotReplaced file bytes) other events others new after opens opens' leads leads' none none' = absurd opens

  same-last : (name : List ℕ) (most : ℕ) (event other : Event) (events others : List Event) (new after : Contents) → ReadsLast name most (event ∷ events) → ReadsLast name most (other ∷ others)
      → Leads old (event ∷ events) new → Leads old (other ∷ others) after → NoFault (event ∷ events) → NoFault (other ∷ others) → event ∷ events ≡ other ∷ others
  same-last name most event other events others new after reads reads' leads leads' none none' =
      let first = same-opening name most event other events others new after reads.0 reads'.0 leads leads' none none' in
      let rest : events ≡ others = reads.1 ∙ sym reads'.1 in
      λ i. first i ∷ rest i

  module _ (new after : Contents) where
    same-events : (command : Option Command) (events others : List Event) → HasShape command events → HasShape command others → IsFull command events → IsFull command others
        → Leads old events new → Leads old others after → NoFault events → NoFault others → events ≡ others
    same-events None events others shape shape' full full' leads leads' none none' = shape ∙ sym shape'
    same-events (Some (Generate rounds)) events others shape shape' full full' leads leads' none none' = shape ∙ sym shape'
    same-events (Some Help) events others shape shape' full full' leads leads' none none' = shape ∙ sym shape'
    same-events (Some Version) events others shape shape' full full' leads leads' none none' = shape ∙ sym shape'
    same-events (Some (Run script dump)) [] others shape shape' full full' leads leads' none none' = absurd full
    same-events (Some (Run script dump)) (event ∷ events) [] shape shape' full full' leads leads' none none' = absurd full'
    same-events (Some (Run script dump)) (event ∷ events) (other ∷ others) shape shape' full full' leads leads' none none' =
        let first = same-opening script MAX_SCRIPT_LENGTH event other events others new after shape.0 shape'.0 leads leads' none none' in
        let rest : events ≡ others = full (none-after event events none) ∙ ap (run_made dump) first ∙ sym (full' (none-after other others none')) in
        λ i. first i ∷ rest i
    same-events (Some (Load csv table script)) [] others shape shape' full full' leads leads' none none' = absurd full
    same-events (Some (Load csv table script)) (event ∷ events) [] shape shape' full full' leads leads' none none' = absurd full'
    same-events (Some (Load csv table script)) (event ∷ events) (other ∷ others) shape shape' full full' leads leads' none none' =
        let first = same-opening csv MAX_SHEET_LENGTH event other events others new after shape.0 shape'.0 leads leads' none none' in
        let rest : events ≡ others = full (none-after event events none) ∙ ap (load_made table script) first ∙ sym (full' (none-after other others none')) in
        λ i. first i ∷ rest i
    same-events (Some (Ask format dump questions)) [] others shape shape' full full' leads leads' none none' = absurd full
    same-events (Some (Ask format dump questions)) (event ∷ []) [] shape shape' full full' leads leads' none none' = absurd full'
    same-events (Some (Ask format dump questions)) (event ∷ second ∷ events) [] shape shape' full full' leads leads' none none' = absurd full'
    same-events (Some (Ask format dump questions)) (event ∷ []) (other ∷ []) shape shape' full full' leads leads' none none' =
        ap (λ (e : Event). e ∷ []) (same-opening dump MAX_DUMP_LENGTH event other [] [] new after shape.0 shape'.0 leads leads' none none')
    same-events (Some (Ask format dump questions)) (event ∷ []) (other ∷ second ∷ others) shape shape' full full' leads leads' none none' =
        absurd (full (subst IsShortRead (sym (same-opening dump MAX_DUMP_LENGTH event other [] (second ∷ others) new after shape.0 shape'.0 leads leads' none none')) full'))
    same-events (Some (Ask format dump questions)) (event ∷ second ∷ events) (other ∷ []) shape shape' full full' leads leads' none none' =
        absurd (full' (subst IsShortRead (same-opening dump MAX_DUMP_LENGTH event other (second ∷ events) [] new after shape.0 shape'.0 leads leads' none none') full))
    same-events (Some (Ask format dump questions)) (event ∷ second ∷ events) (other ∷ second' ∷ others) shape shape' full full' leads leads' none none' =
        let first = same-opening dump MAX_DUMP_LENGTH event other (second ∷ events) (second' ∷ others) new after shape.0 shape'.0 leads leads' none none' in
        let rest : second ∷ events ≡ second' ∷ others =
        same-last questions MAX_SCRIPT_LENGTH second second' events others new after shape.1 shape'.1
        (opening-leads dump MAX_DUMP_LENGTH event (second ∷ events) new shape.0 leads) (opening-leads dump MAX_DUMP_LENGTH other (second' ∷ others) after shape'.0 leads')
        (none-after event (second ∷ events) none) (none-after other (second' ∷ others) none') in
        λ i. first i ∷ rest i

  module _ (new : Contents) where
    -- the first file is read, where it is there, or nothing was done
    opened : (name : List ℕ) (most : ℕ) (other bytes : List ℕ) (events : List Event) → ReadsAndReplaces name most other events → Leads old events new → NoFault events → old name ≡ Some bytes
        → length bytes ≤ most → (events ≡ []) ⊎ ((made : List Event) × (events ≡ read_of name most bytes ∷ made) × AllDone made)
    opened name most other bytes [] shape leads none has short = inl refl
    opened name most other bytes (event ∷ events) shape leads none has short =
        inr (events, ap (λ (e : Event). e ∷ events) (found name most event events new bytes shape.0 leads none has short), closing-done other events shape.1 (none-after event events none))

    -- both files are read, where they are there, or the call is not full
    both-opened : (format : Format) (dump name bytes asked : List ℕ) (events : List Event) → ReadsBoth dump name events → Leads old events new → NoFault events → old dump ≡ Some bytes
        → length bytes ≤ MAX_DUMP_LENGTH → old name ≡ Some asked → length asked ≤ MAX_SCRIPT_LENGTH
        → (IsFull (Some (Ask format dump name)) events → ⊥) ⊎ (events ≡ read_of dump MAX_DUMP_LENGTH bytes ∷ read_of name MAX_SCRIPT_LENGTH asked ∷ [])
    both-opened format dump name bytes asked [] shape leads none has few also short = inl (λ no. no)
    both-opened format dump name bytes asked (event ∷ []) shape leads none has few also short =
        inl (λ full. full (subst IsShortRead (sym (found dump MAX_DUMP_LENGTH event [] new bytes shape.0 leads none has few)) few))
    both-opened format dump name bytes asked (event ∷ second ∷ events) shape leads none has few also short =
        let first = found dump MAX_DUMP_LENGTH event (second ∷ events) new bytes shape.0 leads none has few in
        let next = found name MAX_SCRIPT_LENGTH second events new asked shape.1.0 (opening-leads dump MAX_DUMP_LENGTH event (second ∷ events) new shape.0 leads) (none-after event (second ∷ events) none) also short in
        inr (λ i. first i ∷ next i ∷ shape.1.1 i)

    -- what changes, by the shape
    one-changes : (name : List ℕ) (most : ℕ) (other : List ℕ) (events : List Event) → ReadsAndReplaces name most other events → Leads old events new → OthersHaveSame other old new
    one-changes name most other [] shape leads = λ also apart. leads also
    one-changes name most other (event ∷ events) shape leads = closing-leads other events new shape.1 (opening-leads name most event events new shape.0 leads)

    last-same : (name : List ℕ) (most : ℕ) (events : List Event) → ReadsLast name most events → Leads old events new → HaveSame old new
    last-same name most [] shape leads = leads
    last-same name most (event ∷ events) shape leads = subst (λ (es : List Event). Leads old es new) shape.1 (opening-leads name most event events new shape.0 leads)

    both-same : (dump questions : List ℕ) (events : List Event) → ReadsBoth dump questions events → Leads old events new → HaveSame old new
    both-same dump questions [] shape leads = leads
    both-same dump questions (event ∷ events) shape leads = last-same questions MAX_SCRIPT_LENGTH events shape.1 (opening-leads dump MAX_DUMP_LENGTH event events new shape.0 leads)

    leaves-others : (command : Option Command) (events : List Event) → HasShape command events → Leads old events new → LeavesOthers command old new
    leaves-others None events shape leads = subst (λ (es : List Event). Leads old es new) shape leads
    leaves-others (Some (Run script dump)) events shape leads = one-changes script MAX_SCRIPT_LENGTH dump events shape leads
    leaves-others (Some (Ask format dump questions)) events shape leads = both-same dump questions events shape leads
    leaves-others (Some (Generate rounds)) events shape leads = subst (λ (es : List Event). Leads old es new) shape leads
    leaves-others (Some (Load csv table script)) events shape leads = one-changes csv MAX_SHEET_LENGTH script events shape leads
    leaves-others (Some Help) events shape leads = subst (λ (es : List Event). Leads old es new) shape leads
    leaves-others (Some Version) events shape leads = subst (λ (es : List Event). Leads old es new) shape leads

-- ---- every promise

module _ (call : Call) (old new : Contents) (promises : Promises call) (follows : Consequences promises.shown call) (leads : Leads old call.events new) where
  abbrev programs : Shown
  programs = promises.shown

  shape-of : HasOutcome programs call → HasShape call.command call.events
  shape-of (c.comes_to text status comes writes) = end-shape programs call.command call.events text status comes
  shape-of (c.out_of_memory reads quiet memory) = read-shape call.command call.events reads

  shape-as : (command : Option Command) → call.command ≡ command → HasShape command call.events
  shape-as command is = subst (λ (o : Option Command). HasShape o call.events) is (shape-of promises.outcome)

  abbrev IsEarly : Type 0
  IsEarly = (call.sink_after ≡ call.sink) × (call.status ≡ exit.OutOfMemory)

  -- a call that is not full ran out of memory
  early-by : HasOutcome programs call → (IsFull call.command call.events → ⊥) → IsEarly
  early-by (c.comes_to text status comes writes) not = absurd (not (end-full programs call.command call.events text status comes))
  early-by (c.out_of_memory reads quiet memory) not = (quiet, memory)

  early-as : (command : Option Command) → call.command ≡ command → (IsFull command call.events → ⊥) → IsEarly
  early-as command is not = early-by promises.outcome (λ full. not (subst (λ (o : Option Command). IsFull o call.events) is full))

  leads-as : (events : List Event) → call.events ≡ events → Leads old events new
  leads-as events is = subst (λ (es : List Event). Leads old es new) is leads

  becomes : (name : List ℕ) (most : ℕ) (bytes file text : List ℕ) → IsReplacedAfter (read_of name most bytes) file text call → Becomes file text call old new
  becomes name most bytes file text (inl done) = inl (leads-as (read_of name most bytes ∷ Replaced file text ∷ []) done).1
  becomes name most bytes file text (inr lost) = inr (lost.0, (leads-as (read_of name most bytes ∷ []) lost.1).1)

  early-written : (text : List ℕ) (expected : Status) → IsEarly → WritesOutput text expected call.sink call.sink_after call.status
  early-written text expected early = nothing-written text expected call.sink call.sink_after call.status early.0 early.1

  replied : (name dump script : List ℕ) (lines : List ReadLine) → call.command ≡ Some (Run name dump) → NoFault call.events → old name ≡ Some script → RunsScript script lines
      → length (history_dump lines) ≤ MAX_DUMP_LENGTH
      → WritesOutput (replies_text (replies_to lines)) (answered_status (has_refusal (replies_to lines))) call.sink call.sink_after call.status × Becomes dump (history_dump lines) call old new
  replied name dump script lines run none has runs small =
      ⊎_elim
      (λ (nothing : call.events ≡ []).
      let early = early-as (Some (Run name dump)) run (λ full. subst (IsFull (Some (Run name dump))) nothing full) in
      (early-written (replies_text (replies_to lines)) (answered_status (has_refusal (replies_to lines))) early, inr (early.1, leads-as [] nothing)))
      (λ (read : (made : List Event) × (call.events ≡ read_of name MAX_SCRIPT_LENGTH script ∷ made) × AllDone made).
      let all = follows.replied name dump script read.0 lines run read.1 read.2 runs small in
      (all.0, becomes name MAX_SCRIPT_LENGTH script dump (history_dump lines) all.1))
      (opened old new name MAX_SCRIPT_LENGTH dump script call.events (shape-as (Some (Run name dump)) run) leads none has runs.short)

  module _ (name table script bytes : List ℕ) where
    loads-file : (result : Result (List ℕ × ℕ) Fault) → LoadsSheet name table script bytes call result → LoadsFile table script bytes call old new result
    loads-file (Ok made) loads = (loads.0, becomes name MAX_SHEET_LENGTH bytes script made.0 loads.1, loads.2)
    loads-file (Err fault) loads = (loads.0, (leads-as (read_of name MAX_SHEET_LENGTH bytes ∷ []) loads.1).1)

    early-loads : (result : Result (List ℕ × ℕ) Fault) → IsEarly → HaveSame old new → LoadsFile table script bytes call old new result
    early-loads (Ok made) early same = (early-written (loaded_message made.1) exit.Done early, inr (early.1, same), inr early.1)
    early-loads (Err fault) early same = (early-written (sheet_message fault.c fault.number) exit.SheetRefused early, same)

    loaded : call.command ≡ Some (Load name table script) → NoFault call.events → old name ≡ Some bytes → length bytes ≤ MAX_SHEET_LENGTH → LoadsFile table script bytes call old new (loaded_of table bytes)
    loaded load none has short =
        ⊎_elim
        (λ (nothing : call.events ≡ []).
        early-loads (loaded_of table bytes) (early-as (Some (Load name table script)) load (λ full. subst (IsFull (Some (Load name table script))) nothing full)) (leads-as [] nothing))
        (λ (read : (made : List Event) × (call.events ≡ read_of name MAX_SHEET_LENGTH bytes ∷ made) × AllDone made).
        loads-file (loaded_of table bytes) (follows.loaded name table script bytes read.0 load read.1 read.2 short))
        (opened old new name MAX_SHEET_LENGTH script bytes call.events (shape-as (Some (Load name table script)) load) leads none has short)

  -- both files of `ask` were read, or memory ran out
  asked-of : (format : Format) (dump name bytes asked : List ℕ) → call.command ≡ Some (Ask format dump name) → NoFault call.events → old dump ≡ Some bytes → length bytes ≤ MAX_DUMP_LENGTH
      → old name ≡ Some asked → length asked ≤ MAX_SCRIPT_LENGTH → IsEarly ⊎ (call.events ≡ read_of dump MAX_DUMP_LENGTH bytes ∷ read_of name MAX_SCRIPT_LENGTH asked ∷ [])
  asked-of format dump name bytes asked ask none has few also short =
      ⊎_elim (λ (not : IsFull (Some (Ask format dump name)) call.events → ⊥). inl (early-as (Some (Ask format dump name)) ask not)) (λ is. inr is)
      (both-opened old new format dump name bytes asked call.events (shape-as (Some (Ask format dump name)) ask) leads none has few also short)

  held : (format : Format) (dump name script asked : List ℕ) (lines : List ReadLine) (questions : List ReadQuestion) → call.command ≡ Some (Ask format dump name) → NoFault call.events
      → RunsScript script lines → old dump ≡ Some (history_dump lines) → length (history_dump lines) ≤ MAX_DUMP_LENGTH → old name ≡ Some asked → length asked ≤ MAX_SCRIPT_LENGTH
      → AreQuestions asked questions
      → WritesOutput (asked_text format (dump_of (last_state unannotated lines)) (held_to (programs format) (last_state monomials lines)) questions) (asked_status format (dump_of (last_state unannotated lines)) (held_to (programs format) (last_state monomials lines)) questions)
      call.sink call.sink_after call.status
  held format dump name script asked lines questions ask none runs has few also short are =
      ⊎_elim (λ early. early-written (asked_text format (dump_of (last_state unannotated lines)) (held_to (programs format) (last_state monomials lines)) questions) (asked_status format (dump_of (last_state unannotated lines)) (held_to (programs format) (last_state monomials lines)) questions) early)
      (λ is. follows.held format dump name script asked lines questions ask is runs few short are)
      (asked-of format dump name (history_dump lines) asked ask none has few also short)

  hypothetical : (format : Format) (dump name bytes asked : List ℕ) (contents : Dump) (questions : List ReadQuestion) → call.command ≡ Some (Ask format dump name) → NoFault call.events
      → old dump ≡ Some bytes → length bytes ≤ MAX_DUMP_LENGTH → WellFormed bytes contents → old name ≡ Some asked → length asked ≤ MAX_SCRIPT_LENGTH → AreQuestions asked questions
      → WritesOutput (asked_text format contents (answer_to (programs format) contents) questions) (asked_status format contents (answer_to (programs format) contents) questions) call.sink call.sink_after call.status
  hypothetical format dump name bytes asked contents questions ask none has few formed also short are =
      ⊎_elim (λ early. early-written (asked_text format contents (answer_to (programs format) contents) questions) (asked_status format contents (answer_to (programs format) contents) questions) early)
      (λ is. follows.answered format dump name bytes asked contents questions ask is few short formed are)
      (asked-of format dump name bytes asked ask none has few also short)

  determined-by : HasOutcome programs call → IsDetermined call.command → NoFault call.events → (events : List Event) (after : Contents) (text : List ℕ) (status : Status) → Leads old events after → NoFault events
      → ComesTo programs call.command events text status → WritesOutput text status call.sink call.sink_after call.status
  determined-by (c.out_of_memory reads quiet memory) may none events after text status leads' none' comes = early-written text status (quiet, memory)
  determined-by (c.comes_to mine own came writes) may none events after text status leads' none' comes =
      let same : events ≡ call.events =
      sym (same-events old new after call.command call.events events (end-shape programs call.command call.events mine own came) (end-shape programs call.command events text status comes)
      (end-full programs call.command call.events mine own came) (end-full programs call.command events text status comes) leads leads' none none') in
      follows.determined may text status (subst (λ (es : List Event). ComesTo programs call.command es text status) same comes)

  pub over_files : OverFiles programs call old new
  over_files = record {
    replied = replied;
    held = held;
    hypothetical = hypothetical;
    loaded = loaded;
    determined = determined-by promises.outcome;
    others = leaves-others old new call.command call.events (shape-of promises.outcome) leads;
  }
