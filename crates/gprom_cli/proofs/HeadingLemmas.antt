-- A heading that is written before answers.
use Rattle.std.proofs.Common.{◌≡◌, ℕ, ◌<◌, inl, inr, List, [], ◌∷◌, ◌++◌, length, Result, Ok, Err, refl, sym, ap, ◌∙◌, subst, append_assoc, arith}
use Rattle.std.specs.Prelude.{IfErr, OnOk}
use Rattle.gp_io.specs.declared.error.SinkStop.{SinkStop}
use Rattle.gp_io.specs.Sink.{SinkState, after_failure, after_write}
use Rattle.gp_io.specs.SinkSteps.{WriteStops}
use Rattle.gp_dump.specs.Dumps.{Dump}
use Rattle.gp_ask.specs.declared.format.Format.{Format}
use Rattle.gp_ask.specs.Formats.{heading_in}
use Rattle.gp_ask.proofs.HeadingLines.{heading-lines}
use Rattle.gprom_cli.specs.declared.status.Status.{Status}
use Rattle.gprom_cli.specs.declared.status.Status.TheVariants as exit
use Rattle.gprom_cli.specs.Call.{IsWholeLines, WritesOutput, all_written, some_written, write_failed}
use Rattle.gprom_cli.specs.Steps.{WritesText, stop_status}
use Rattle.gprom_cli.proofs.LinesLemmas.{after-lines}
use Rattle.gprom_cli.proofs.WritesLemmas.{IsAnswered, after-nothing, unanswered, written}

-- an empty text needs no write
pub empty-text : {T : Type 0} (value : T) (text : List ℕ) (old : SinkState) → length text < 1 → WritesText {T = T} text old old (Ok value)
empty-text value [] old short = after-nothing old
empty-text value (byte ∷ text) old short = absurd (omega (arith, short))

-- a text is written at once
pub whole-text : {T : Type 0} (result : Result T SinkStop) (text : List ℕ) (old new : SinkState) → OnOk result (new ≡ after_write text old) → IfErr result (WriteStops text old new)
    → WritesText text old new result
whole-text (Ok value) text old new all stopped = all
whole-text (Err stop) text old new all stopped = written {T = Unit {0}} (Err stop) text exit.Done old new all stopped

module _ (heading text : List ℕ) (expected : Status) (old new : SinkState) where
  -- one write and another one
  write-twice : (first second : List ℕ) → after_write second (after_write first old) ≡ after_write (first ++ second) old
  write-twice first second = λ i. record { taken = append_assoc old.taken first second i; failed = old.failed }

  -- a text behind a heading that was written
  pub behind-heading : (middle : SinkState) (s : Status) → IsWholeLines heading → middle ≡ after_write heading old → WritesOutput text expected middle new s → WritesOutput (heading ++ text) expected old new s
  behind-heading middle s are grown (all_written all is) = all_written (all ∙ ap (after_write text) grown ∙ write-twice heading text) is
  behind-heading middle s are grown (some_written lines rest split whole grew memory) =
      some_written (heading ++ lines) rest (ap (λ (t : List ℕ). heading ++ t) split ∙ sym (append_assoc heading lines rest)) (after-lines heading lines are whole)
      (grew ∙ ap (after_write lines) grown ∙ write-twice heading lines) memory
  behind-heading middle s are grown (write_failed lines next rest split whole grew unwritten) =
      write_failed (heading ++ lines) next rest (ap (λ (t : List ℕ). heading ++ t) split ∙ sym (append_assoc heading lines (next ++ rest))) (after-lines heading lines are whole)
      (grew ∙ ap (λ (k : SinkState). after_failure next (after_write lines k)) grown ∙ ap (after_failure next) (write-twice heading lines)) unwritten

  -- a heading that was not written, or in part
  pub heading-stops : (stop : SinkStop) → WritesOutput heading exit.Done old new (stop_status stop) → WritesOutput (heading ++ text) expected old new (stop_status stop)
  heading-stops stop (all_written all is) = absurd (unanswered stop (subst IsAnswered (sym is) tt))
  heading-stops stop (some_written lines rest split whole grew memory) =
      some_written lines (rest ++ text) (ap (λ (t : List ℕ). t ++ text) split ∙ append_assoc lines rest text) whole grew memory
  heading-stops stop (write_failed lines next rest split whole grew unwritten) =
      write_failed lines next (rest ++ text)
      (ap (λ (t : List ℕ). t ++ text) split ∙ append_assoc lines (next ++ rest) text ∙ ap (λ (t : List ℕ). lines ++ t) (append_assoc next rest text))
      whole grew unwritten

-- the heading of a format is whole lines
pub heading-whole : (format : Format) (dump : Dump) → IsWholeLines (heading_in format dump)
heading-whole format dump = heading-lines format dump
