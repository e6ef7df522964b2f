-- How a text is written that is due, or not written.
use Rattle.std.proofs.Common.{◌≡◌, ℕ, ◌⊎◌, inl, inr, List, [], Result, Ok, Err, refl, sym, ap, ◌∙◌, subst, append-nil, ⊎_elim}
use Rattle.std.specs.Prelude.{IfErr, OnOk}
use Rattle.gp_io.specs.declared.error.SinkStop.{SinkStop}
use Rattle.gp_io.specs.declared.error.SinkStop.TheVariants.{Failed, NoMemory}
use Rattle.gp_io.specs.Sink.{SinkState, after_failure, after_write}
use Rattle.gp_io.specs.SinkSteps.{WriteStops}
use Rattle.gprom_cli.specs.declared.status.Status.{Status}
use Rattle.gprom_cli.specs.declared.status.Status.TheVariants as exit
use Rattle.gprom_cli.specs.Consequences.{HasFailed, IsOrFails}
use Rattle.gprom_cli.specs.Call.{WritesOutput, all_written, some_written, write_failed}
use Rattle.gprom_cli.specs.Steps.{WritesText, stop_status}

-- the status of a write, by its result
abbrev pub status_after : {T : Type 0} → Result T SinkStop → Status → Status
status_after (Ok value) expected = expected
status_after (Err stop) expected = stop_status stop

-- after no lines the output is as before
pub after-nothing : (old : SinkState) → old ≡ after_write [] old
after-nothing old = λ i. record { taken = sym (append-nil old.taken) i; failed = old.failed }

-- the first write of a text is the whole of it
pub written : {T : Type 0} (result : Result T SinkStop) (text : List ℕ) (expected : Status) (old new : SinkState) → OnOk result (new ≡ after_write text old)
    → IfErr result (WriteStops text old new) → WritesOutput text expected old new (status_after result expected)
written (Ok value) text expected old new all stopped = all_written all refl
written (Err Failed) text expected old new all stopped =
    write_failed [] text [] (sym (append-nil text)) (inl refl) (stopped ∙ ap (after_failure text) (after-nothing old)) refl
written (Err NoMemory) text expected old new all stopped = some_written [] text refl (inl refl) (stopped ∙ after-nothing old) refl

-- every line was answered
abbrev pub IsAnswered : Status → Type 0
IsAnswered exit.Done = Unit {0}
IsAnswered exit.Refused = Unit {0}
IsAnswered status = ⊥

-- a write that stops is no status of lines that were answered
pub unanswered : (stop : SinkStop) → IsAnswered (stop_status stop) → ⊥
unanswered Failed is = is
unanswered NoMemory is = is

-- a text that was written in parts
pub written-parts : {T : Type 0} (result : Result T SinkStop) (text : List ℕ) (expected : Status) (old new : SinkState) → WritesText text old new result
    → WritesOutput text expected old new (status_after result expected)
written-parts (Ok value) text expected old new all = all_written all refl
written-parts (Err stop) text expected old new (all_written all is) = absurd (unanswered stop (subst IsAnswered (sym is) tt))
written-parts (Err stop) text expected old new (some_written lines rest split are grown memory) = some_written lines rest split are grown memory
written-parts (Err stop) text expected old new (write_failed lines next rest split are grown unwritten) = write_failed lines next rest split are grown unwritten

-- nothing was written, since memory ran out
pub nothing-written : (text : List ℕ) (expected : Status) (old new : SinkState) (actual : Status) → new ≡ old → actual ≡ exit.OutOfMemory → WritesOutput text expected old new actual
nothing-written text expected old new actual same memory = some_written [] text refl (inl refl) (same ∙ after-nothing old) memory

-- ---- what follows

-- the status is the expected one, or tells of an error
pub or-fails : (text : List ℕ) (expected : Status) (old new : SinkState) (actual : Status) → WritesOutput text expected old new actual → IsOrFails expected actual
or-fails text expected old new actual (all_written all is) = inl is
or-fails text expected old new actual (some_written lines rest split are grown memory) = inr (inr memory)
or-fails text expected old new actual (write_failed lines next rest split are grown unwritten) = inr (inl unwritten)

-- the status of a write error is expected, or a write failed
pub or-failed : (text : List ℕ) (expected : Status) (old new : SinkState) (actual : Status) → WritesOutput text expected old new actual → actual ≡ exit.Unwritten → (expected ≡ exit.Unwritten) ⊎ HasFailed old new
or-failed text expected old new actual (all_written all is) at = inl (sym is ∙ at)
or-failed text expected old new actual (some_written lines rest split are grown memory) at = absurd (let no : exit.Unwritten ≡ exit.OutOfMemory = sym at ∙ memory in cc)
or-failed text expected old new actual (write_failed lines next rest split are grown unwritten) at = inr (next, ap (λ (k : SinkState). k.failed) grown)

-- ---- statuses under which all was written

-- neither a write error, nor out of memory
abbrev pub IsWritten : Status → Type 0
IsWritten status = (status ≡ exit.Unwritten → ⊥) × (status ≡ exit.OutOfMemory → ⊥)

pub no-new-failure : (text : List ℕ) (expected : Status) (old new : SinkState) (actual : Status) → WritesOutput text expected old new actual → IsWritten actual → new.failed ≡ old.failed
no-new-failure text expected old new actual (all_written all at) is = ap (λ (k : SinkState). k.failed) all
no-new-failure text expected old new actual (some_written lines rest split are grown memory) is = absurd (is.1 memory)
no-new-failure text expected old new actual (write_failed lines next rest split are grown unwritten) is = absurd (is.0 unwritten)

-- a status that is no failure to write is the expected one
pub expected-is : (expected actual wanted : Status) → IsOrFails expected actual → actual ≡ wanted → IsWritten wanted → expected ≡ wanted
expected-is expected actual wanted which at is =
    ⊎_elim (λ e. sym e ∙ at) (λ f. absurd (⊎_elim (λ e. is.0 (sym at ∙ e)) (λ e. is.1 (sym at ∙ e)) f)) which
