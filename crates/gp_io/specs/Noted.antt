-- Machinery: what a note adds to what was done before.
use Rattle.std.specs.Prelude.{◌≡◌, ℕ, List, [], ◌∷◌, ◌++◌, Option, Result, Ok, Err, MatchResult, Vec, string_bytes}
use Rattle.std.specs.Global.{Global}
use Rattle.gp_io.specs.Contents.{events_of}
use Rattle.gp_io.specs.Events.{Event, Read, Missing, Unreadable, Stopped, Replaced, NotReplaced}
use Rattle.gp_io.specs.NamedFile.{files_of}
use Rattle.gp_io.specs.ShelfSteps.{ReadStops, ReplaceStops}
use Rattle.gp_io.specs.Sink.{SinkState, after_write}
use Rattle.gp_io.specs.SinkSteps.{WriteStops}
use Rattle.gp_io.specs.Steps as steps
use Rattle.gp_io.specs.Steps.{Step, IsFree, IsPlain, IsOther, Did, DidNot}
use Rattle.gp_io.specs.declared.error.ShelfStop.{ShelfStop}
use Rattle.gp_io.specs.declared.error.SinkStop.{SinkStop}
use Rattle.gp_io.specs.declared.error.NotStored.{NotStored}
use Rattle.gp_io.specs.declared.error.NotStored.TheVariants.{Taken, NotMade, Broken}
use Rattle.gp_io.specs.declared.found.Found.{Found}
use Rattle.gp_io.specs.declared.found.Found.TheVariants as found
use Rattle.gp_io.specs.declared.trace.Call.{Call}
use Rattle.gp_io.specs.declared.trace.Call.TheVariants as call
use Rattle.gp_io.specs.declared.trace.Note.{Note}
use Rattle.gp_io.specs.declared.trace.Note.TheVariants as note
use Rattle.gp_io.specs.declared.trace.Trace.{Trace}

-- to the events of a shelf
abbrev pub events_after : List Event → Note → List Event
events_after events (note.Made files) = events ++ events_of (files_of files.now)
events_after events (note.Read name most bytes) = events ++ Read name.now most bytes.now ∷ []
events_after events (note.Missing name) = events ++ Missing name.now ∷ []
events_after events (note.Unreadable name) = events ++ Unreadable name.now ∷ []
events_after events (note.Replaced name bytes) = events ++ Replaced name.now bytes.now ∷ []
events_after events (note.NotReplaced name bytes) = events ++ NotReplaced name.now bytes.now ∷ []
events_after events (note.Stopped name) = events ++ Stopped name.now ∷ []
events_after events other = events

-- to the bytes that an output has taken
abbrev pub taken_after : List ℕ → Note → List ℕ
taken_after taken (note.Written bytes) = taken ++ bytes.now
taken_after taken other = taken

-- to the writes that failed
abbrev pub failed_after : List (List ℕ) → Note → List (List ℕ)
failed_after failed (note.NotWritten bytes) = failed ++ bytes.now ∷ []
failed_after failed other = failed

-- a call of the system, by the bytes that it names
abbrev pub call_of : Call → steps.Call
call_of (call.Open name) = steps.Open name.now
call_of (call.Store name mode bytes) = steps.Store name.now mode bytes.now
call_of (call.Rename from to) = steps.Rename from.now to.now
call_of (call.Sync name) = steps.Sync name.now
call_of (call.Remove name) = steps.Remove name.now
call_of (call.Overwrite name bytes) = steps.Overwrite name.now bytes.now

-- to the steps by which files are replaced
abbrev pub steps_after : List Step → Note → List Step
steps_after all (note.Free name) = all ++ IsFree name.now ∷ []
steps_after all (note.Plain name target mode) = all ++ IsPlain name.now target.now mode ∷ []
steps_after all (note.Other name) = all ++ IsOther name.now ∷ []
steps_after all (note.Did this) = all ++ Did (call_of this) ∷ []
steps_after all (note.DidNot this) = all ++ DidNot (call_of this) ∷ []
steps_after all other = all

-- ---- traces before a call of the system and after it, by its answer

abbrev pub NothingNoted : Trace → Type 0
NothingNoted trace = (trace.events ≡ []) × (trace.taken ≡ []) × (trace.failed ≡ []) × (trace.steps ≡ [])

abbrev pub ReadIsNoted : List ℕ → ℕ → Trace → Trace → Result (Vec ℕ Global) ShelfStop → Type 0
ReadIsNoted name most old new answer = MatchResult answer (λ bytes. new.events ≡ old.events ++ Read name most bytes.items ∷ []) (ReadStops name old.events new.events)

abbrev pub ReplacementIsNoted : List ℕ → List ℕ → Trace → Trace → Result (Unit {0}) ShelfStop → Type 0
ReplacementIsNoted name bytes old new answer = MatchResult answer (λ _. new.events ≡ old.events ++ Replaced name bytes ∷ []) (ReplaceStops name bytes old.events new.events)

-- the steps grow by these, and no event is noted
abbrev pub StepsGrow : List Step → Trace → Trace → Type 0
StepsGrow these old new = (new.steps ≡ old.steps ++ these) × (new.events ≡ old.events)

abbrev pub StaysAsItWas : Trace → Trace → Type 0
StaysAsItWas old new = (new.steps ≡ old.steps) × (new.events ≡ old.events)

abbrev pub LookIsNoted : List ℕ → Trace → Trace → Result Found ShelfStop → Type 0
LookIsNoted name old new (Ok found.Free) = StepsGrow (IsFree name ∷ []) old new
LookIsNoted name old new (Ok (found.Plain target mode)) = StepsGrow (IsPlain name (string_bytes target) mode ∷ []) old new
LookIsNoted name old new (Ok found.Other) = StepsGrow (IsOther name ∷ []) old new
LookIsNoted name old new (Err stop) = StaysAsItWas old new

abbrev pub StoreIsNoted : List ℕ → Option ℕ → List ℕ → Trace → Trace → Result (Unit {0}) NotStored → Type 0
StoreIsNoted name mode bytes old new (Ok done) = StepsGrow (Did (steps.Store name mode bytes) ∷ []) old new
StoreIsNoted name mode bytes old new (Err Taken) = StaysAsItWas old new
StoreIsNoted name mode bytes old new (Err NotMade) = StaysAsItWas old new
StoreIsNoted name mode bytes old new (Err Broken) = StepsGrow (DidNot (steps.Store name mode bytes) ∷ []) old new

abbrev pub CallIsNoted : {E : Type 0} → steps.Call → Trace → Trace → Result (Unit {0}) E → Type 0
CallIsNoted this old new (Ok done) = StepsGrow (Did this ∷ []) old new
CallIsNoted this old new (Err error) = StepsGrow (DidNot this ∷ []) old new

abbrev pub StepsStay : Trace → Trace → Type 0
StepsStay old new = new.steps ≡ old.steps

-- what an output has done
abbrev output_of : Trace → SinkState
output_of trace = record { taken = trace.taken; failed = trace.failed }

abbrev pub WriteIsNoted : List ℕ → Trace → Trace → Result (Unit {0}) SinkStop → Type 0
WriteIsNoted bytes old new answer = MatchResult answer (λ _. output_of new ≡ after_write bytes (output_of old)) (WriteStops bytes (output_of old) (output_of new))
