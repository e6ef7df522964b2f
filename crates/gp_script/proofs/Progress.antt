-- How far the run of a script is.
use Rattle.std.specs.Prelude.{◌≡◌, ℕ, Bool, ◌||◌, List, ◌++◌}
use Rattle.gp_base.specs.Annotated.{unannotated}
use Rattle.gp_syntax.specs.Lines.{script_lines}
use Rattle.gp_machine.specs.State.{State, start}
use Rattle.gp_engine.specs.Engine.{Engine, IsEngineOf}
use Rattle.gp_script.specs.History.{has_refusal, replies_text}
use Rattle.gp_script.specs.Scripts.{replies_from, replies_of, state_after}

-- The engine represents the state that the lines before leave, and the text so far with the replies to the remaining lines is the text of the
-- script.
pub record IsProgress (script : List ℕ) (engine : Engine) (lines : List (ℕ × List ℕ)) (text : List ℕ) (refused : Bool) : Type 0 where
  pub state : State (Unit {0})
  pub before : List (ℕ × List ℕ)
  pub all : before ++ lines ≡ script_lines script
  pub reached : state_after unannotated start before ≡ state
  pub represented : IsEngineOf engine state
  pub text_so_far : text ++ replies_text (replies_from unannotated state lines) ≡ replies_text (replies_of script)
  pub refused_so_far : (refused || has_refusal (replies_from unannotated state lines)) ≡ has_refusal (replies_of script)
