-- Laws of the histories of scripts.
use Rattle.std.proofs.Common.{◌≡◌, ℕ, false, List, [], ◌∷◌, ◌++◌, map, Result, Ok, Err, refl, sym, ap, ◌∙◌}
use Rattle.gp_base.specs.Annotated.{Annotations, unannotated}
use Rattle.gp_base.specs.declared.refusal.Refusal.{Refusal}
use Rattle.gp_grammar.specs.Syntax.{ScriptLine}
use Rattle.gp_grammar.specs.LineReading.{Fault}
use Rattle.gp_grammar.specs.Reading.{script_line_of}
use Rattle.gp_syntax.specs.Lines.{script_lines}
use Rattle.gp_syntax.specs.LineForms.{numbers_of}
use Rattle.gp_algebra.specs.Reannotation.{IsHomomorphism, forgotten}
use Rattle.gp_machine.specs.ActionForms.{Action, Begin, Commit, Create, Rollback, Run, action_of}
use Rattle.gp_machine.specs.Event.{Line, after, event, line_event}
use Rattle.gp_machine.specs.Recorded.{is_recorded}
use Rattle.gp_machine.specs.Replies.{is_lost}
use Rattle.gp_machine.specs.State.{State, start}
use Rattle.gp_machine.specs.StateReannotation.{outcome_reannotated, state_reannotated}
use Rattle.gp_machine.specs.declared.reply.Reply.{Reply}
use Rattle.gp_machine.specs.declared.reply.Reply.TheVariants as reply
use Rattle.gp_log.specs.Parameters.{parameters}
use Rattle.gp_script.specs.History.{NumberedReply, outcome_of}
use Rattle.gp_script.specs.Scripts.{final_state, line_outcome, line_if_read, lines_if_read, replies_from, state_after}

refused-unrecorded : (action : Action) (refusal : Refusal) → is_lost refusal ≡ false → is_recorded action (reply.Refused refusal) ≡ false
refused-unrecorded (Create table) refusal kept = refl
refused-unrecorded (Begin read_committed) refusal kept = refl
refused-unrecorded Commit refusal kept = kept
refused-unrecorded Rollback refusal kept = refl
refused-unrecorded (Run command) refusal kept = refl

module _ {M : Type 0} (domain : Annotations M) where
  -- one reply for each line
  pub numbers-kept : (state : State M) (lines : List (ℕ × List ℕ)) → map (λ (reply : NumberedReply). reply.number) (replies_from domain state lines) ≡ numbers_of lines
  numbers-kept state [] = refl
  numbers-kept state (line ∷ lines) = ap (λ (numbers : List ℕ). line.0 ∷ numbers) (numbers-kept (line_outcome domain state line).0 lines)

  -- a line that is not recorded leaves the state unchanged
  abbrev pub LeavesUnrecorded : Type 0
  LeavesUnrecorded = (state : State M) (line : Line) → is_recorded (action_of line.command) (line_event domain parameters state line).1 ≡ false → (line_event domain parameters state line).0 ≡ state

  pub refused-unchanged : LeavesUnrecorded → (state : State M) (number : ℕ) (read : Result ScriptLine Fault) (refusal : Refusal) → (outcome_of domain state number read).1 ≡ reply.Refused refusal
      → is_lost refusal ≡ false → (outcome_of domain state number read).0 ≡ state
  refused-unchanged leaves state number (Err fault) refusal is kept = refl
  refused-unchanged leaves state number (Ok line) refusal is kept =
      leaves state (record { number = number; session = line.session; command = line.command }) (ap (is_recorded (action_of line.command)) is ∙ refused-unrecorded (action_of line.command) refusal kept)

  after-read : (lines : List (ℕ × List ℕ)) → ((state : State M) → state_after domain state lines ≡ after domain parameters state (lines_if_read lines)) → (state : State M) (number : ℕ) (read : Result ScriptLine Fault)
      → state_after domain (outcome_of domain state number read).0 lines ≡ after domain parameters state (line_if_read number read ++ lines_if_read lines)
  after-read lines rest state number (Err fault) = rest state
  after-read lines rest state number (Ok line) = rest (event domain parameters state number line.session line.command).0

  -- the lines of a script are lines of the history machine
  pub after-lines : (lines : List (ℕ × List ℕ)) (state : State M) → state_after domain state lines ≡ after domain parameters state (lines_if_read lines)
  after-lines [] state = refl
  after-lines (line ∷ lines) state = after-read lines (after-lines lines) state line.0 (script_line_of line.1)

  -- a line gets the same reply with and without annotations
  abbrev pub Forgets : Type 0
  Forgets = (state : State M) (line : Line) → line_event unannotated parameters (state_reannotated forgotten state) line ≡ outcome_reannotated forgotten (line_event domain parameters state line)

  pub forgetting : IsHomomorphism domain unannotated forgotten
  forgetting = record { one = refl; times = λ a b. refl; token = λ token. refl }

  outcome-same : Forgets → (state : State M) (number : ℕ) (read : Result ScriptLine Fault)
      → outcome_of unannotated (state_reannotated forgotten state) number read ≡ outcome_reannotated forgotten (outcome_of domain state number read)
  outcome-same forgets state number (Err fault) = refl
  outcome-same forgets state number (Ok line) = forgets state (record { number = number; session = line.session; command = line.command })

  pub replies-same : Forgets → (state : State M) (lines : List (ℕ × List ℕ)) → replies_from domain state lines ≡ replies_from unannotated (state_reannotated forgotten state) lines
  replies-same forgets state [] = refl
  replies-same forgets state (line ∷ lines) =
      let outcome = line_outcome domain state line in
      ap (λ (replies : List NumberedReply). record { number = line.0; tables = outcome.0.catalogue; reply = outcome.1 } ∷ replies) (replies-same forgets outcome.0 lines)
      ∙ ap (λ (next : State (Unit {0}) × Reply). record { number = line.0; tables = next.0.catalogue; reply = next.1 } ∷ replies_from unannotated next.0 lines)
      (sym (outcome-same forgets state line.0 (script_line_of line.1)))

pub states-same : {M : Type 0} (domain : Annotations M) (script : List ℕ)
    → after unannotated parameters start (lines_if_read (script_lines script)) ≡ state_reannotated forgotten (after domain parameters start (lines_if_read (script_lines script)))
    → final_state unannotated script ≡ state_reannotated forgotten (final_state domain script)
states-same domain script same = after-lines unannotated (script_lines script) start ∙ same ∙ ap (state_reannotated forgotten) (sym (after-lines domain (script_lines script) start))
