-- One more line of a script.
use Rattle.std.proofs.Common.{Some, Result, Ok, Err, length, ◌≡◌, ℕ, Bool, true, false, ◌||◌, List, [], ◌∷◌, ◌++◌, take, refl, sym, ap, ◌∙◌, subst, append_assoc}
use Rattle.std.specs.Prelude.{OnErr}
use Rattle.std.proofs.lemmas.List.{append-nil}
use Rattle.std.proofs.Math.Seq.{take-append_seam}
use Rattle.gp_base.specs.Annotated.{unannotated}
use Rattle.gp_base.specs.declared.refusal.Refusal.{Refusal}
use Rattle.gp_base.specs.declared.table.Table.{Table}
use Rattle.gp_grammar.specs.Syntax.{ScriptLine}
use Rattle.gp_grammar.specs.LineReading.{Fault}
use Rattle.gp_syntax.specs.Lines.{script_lines}
use Rattle.gp_syntax.specs.Refusals.{refusal_of_fault}
use Rattle.gp_syntax.specs.ReadResults.{refusal_in}
use Rattle.gp_machine.specs.Replies.{is_refusal}
use Rattle.gp_machine.specs.State.{State, start}
use Rattle.gp_machine.specs.declared.reply.Reply.{Reply}
use Rattle.gp_machine.specs.declared.reply.Reply.TheVariants as reply
use Rattle.gp_engine.specs.Engine.{Engine, IsEngineOf, IsUnchanged, tables_of}
use Rattle.gp_script.specs.Answering.{FollowsLine, FollowsRead}
use Rattle.gp_script.specs.History.{has_refusal, replies_text}
use Rattle.gp_script.specs.Scripts.{final_state, line_outcome, replies_from, replies_of, state_after}
use Rattle.gp_script.specs.Replies.{line_text}
use Rattle.gp_script.specs.Run.{HasRun}
use Rattle.gp_engine.proofs.FollowLemmas.{engine-unchanged}
use Rattle.gp_script.proofs.Progress.{IsProgress}
use Rattle.gp_base.proofs.SmallLemmas.{or_nothing}

pub on-err : {A E P : Type 0} (result : Result A E) → P → OnErr result P
on-err (Ok a) p = tt
on-err (Err e) p = p

-- ---- one line

-- a line that is refused for a fault in its text is refused by the history
pub refused-read : (read : Result ScriptLine Fault) (refusal : Refusal) (engine : Engine) (number : ℕ) → refusal_in read ≡ Some refusal
    → FollowsRead engine engine number read (reply.Refused refusal)
refused-read (Ok line) refusal engine number fault = absurd cc
refused-read (Err fault) refusal engine number is =
    let same : refusal_of_fault fault ≡ refusal = cc in
    record { reply = λ state represented. ap reply.Refused (sym same); state = λ state represented. represented }

-- ---- a script

-- before the first line
pub starts : (script : List ℕ) (engine : Engine) (lines : List (ℕ × List ℕ)) → IsEngineOf engine start → lines ≡ script_lines script → IsProgress script engine lines [] false
starts script engine lines represented whole = record {
  state = start;
  before = [];
  all = whole;
  reached = refl;
  represented = represented;
  text_so_far = ap (λ (ls : List (ℕ × List ℕ)). replies_text (replies_from unannotated start ls)) whole;
  refused_so_far = ap (λ (ls : List (ℕ × List ℕ)). has_refusal (replies_from unannotated start ls)) whole;
}

or-again : (a b c : Bool) → ((a || b) || c) ≡ (a || (b || c))
or-again true b c = refl
or-again false b c = refl

-- one line after some
state-next : (state : State (Unit {0})) (before : List (ℕ × List ℕ)) (line : ℕ × List ℕ) → state_after unannotated state (before ++ line ∷ []) ≡ (line_outcome unannotated (state_after unannotated state before) line).0
state-next state [] line = refl
state-next state (first ∷ before) line = state-next (line_outcome unannotated state first).0 before line

-- the state that the first lines of a script leave
run-part : (script : List ℕ) (engine : Engine) (before lines : List (ℕ × List ℕ)) → before ++ lines ≡ script_lines script → IsEngineOf engine (state_after unannotated start before) → HasRun script engine
run-part script engine before lines all represented =
    let part : before ≡ take (length before) (script_lines script) = sym (take-append_seam before lines) ∙ ap (take (length before)) all in
    record { lines = length before; state = subst (λ (ls : List (ℕ × List ℕ)). IsEngineOf engine (state_after unannotated start ls)) part represented }

-- memory ran out before a line was answered
pub stops_before : (script : List ℕ) (engine new : Engine) (lines : List (ℕ × List ℕ)) (text : List ℕ) (refused : Bool) → IsProgress script engine lines text refused
    → IsUnchanged engine new → HasRun script new
stops_before script engine new lines text refused way same =
    run-part script new way.before lines way.all
    (subst (λ (state : State (Unit {0})). IsEngineOf new state) (sym way.reached) (engine-unchanged engine new way.state same way.represented))

-- memory ran out after a line was answered
pub stops_after : (script : List ℕ) (engine new : Engine) (line : ℕ × List ℕ) (lines : List (ℕ × List ℕ)) (text : List ℕ) (refused : Bool) (reply : Reply)
    → IsProgress script engine (line ∷ lines) text refused → FollowsLine engine new line.0 line.1 reply → HasRun script new
stops_after script engine new line lines text refused reply way follows =
    let next : state_after unannotated start (way.before ++ line ∷ []) ≡ (line_outcome unannotated way.state line).0 =
    state-next start way.before line ∙ ap (λ (state : State (Unit {0})). (line_outcome unannotated state line).0) way.reached in
    run-part script new (way.before ++ line ∷ []) lines (append_assoc way.before (line ∷ []) lines ∙ way.all)
    (subst (λ (state : State (Unit {0})). IsEngineOf new state) (sym next) (follows.state way.state way.represented))

-- one more line was answered
pub goes_on : (script : List ℕ) (engine new : Engine) (line : ℕ × List ℕ) (lines : List (ℕ × List ℕ)) (text : List ℕ) (refused : Bool) (reply : Reply)
    → IsProgress script engine (line ∷ lines) text refused → FollowsLine engine new line.0 line.1 reply
    → IsProgress script new lines (text ++ line_text line.0 (tables_of new) reply) (refused || is_refusal reply)
goes_on script engine new line lines text refused reply way follows =
    let outcome = line_outcome unannotated way.state line in
    let reply_is : reply ≡ outcome.1 = follows.reply way.state way.represented in
    let next : IsEngineOf new outcome.0 = follows.state way.state way.represented in
    let rest = replies_from unannotated outcome.0 lines in
    let line-is : line_text line.0 (tables_of new) reply ≡ line_text line.0 outcome.0.catalogue outcome.1 =
    ap (λ (t : List Table). line_text line.0 t reply) next.kept.catalogue ∙ ap (λ (r : Reply). line_text line.0 outcome.0.catalogue r) reply_is in
    record {
      state = outcome.0;
      before = way.before ++ line ∷ [];
      all = append_assoc way.before (line ∷ []) lines ∙ way.all;
      reached = state-next start way.before line ∙ ap (λ (state : State (Unit {0})). (line_outcome unannotated state line).0) way.reached;
      represented = next;
      text_so_far = append_assoc text (line_text line.0 (tables_of new) reply) (replies_text rest) ∙ ap (λ (l : List ℕ). text ++ (l ++ replies_text rest)) line-is ∙ way.text_so_far;
      refused_so_far = or-again refused (is_refusal reply) (has_refusal rest) ∙ ap (λ (r : Reply). refused || (is_refusal r || has_refusal rest)) reply_is ∙ way.refused_so_far;
    }

-- after the last line
pub record IsDone (script : List ℕ) (left : Engine) (written : List ℕ) (fails : Bool) : Type 0 where
  pub text : written ≡ replies_text (replies_of script)
  pub refused : fails ≡ has_refusal (replies_of script)
  pub engine : IsEngineOf left (final_state unannotated script)

pub ends : (script : List ℕ) (engine : Engine) (text : List ℕ) (refused : Bool) → IsProgress script engine [] text refused → IsDone script engine text refused
ends script engine text refused way = record {
  text = sym (append-nil text) ∙ way.text_so_far;
  refused = sym (or_nothing refused) ∙ way.refused_so_far;
  engine = subst (λ (state : State (Unit {0})). IsEngineOf engine state)
      (sym way.reached ∙ ap (state_after unannotated start) (sym (append-nil way.before) ∙ way.all)) way.represented;
}
