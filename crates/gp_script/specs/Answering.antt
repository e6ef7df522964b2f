-- Machinery: how the answer to one line relates to the history.
use Rattle.std.specs.Prelude.{◌≡◌, ℕ, List, Result}
use Rattle.gp_base.specs.Annotated.{unannotated}
use Rattle.gp_grammar.specs.Syntax.{ScriptLine}
use Rattle.gp_grammar.specs.LineReading.{Fault}
use Rattle.gp_grammar.specs.Reading.{script_line_of}
use Rattle.gp_machine.specs.State.{State}
use Rattle.gp_machine.specs.declared.reply.Reply.{Reply}
use Rattle.gp_engine.specs.Engine.{Engine, IsEngineOf}
use Rattle.gp_script.specs.History.{outcome_of}

-- For every state that the engine represents, the reply to a line of this number that is read as this is that of the history, and the engine
-- represents the next state of the history.
pub record FollowsRead (old new : Engine) (number : ℕ) (read : Result ScriptLine Fault) (answer : Reply) : Type 0 where
  pub reply : (state : State (Unit {0})) → IsEngineOf old state → answer ≡ (outcome_of unannotated state number read).1
  pub state : (state : State (Unit {0})) → IsEngineOf old state → IsEngineOf new (outcome_of unannotated state number read).0

-- by the bytes of the line
abbrev pub FollowsLine : Engine → Engine → ℕ → List ℕ → Reply → Type 0
FollowsLine old new number bytes answer = FollowsRead old new number (script_line_of bytes) answer
