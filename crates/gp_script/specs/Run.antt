-- Machinery: the engine where a script stopped, since memory ran out.
use Rattle.std.specs.Prelude.{ℕ, List, take}
use Rattle.gp_base.specs.Annotated.{unannotated}
use Rattle.gp_syntax.specs.Lines.{script_lines}
use Rattle.gp_machine.specs.State.{start}
use Rattle.gp_engine.specs.Engine.{Engine, IsEngineOf}
use Rattle.gp_script.specs.Scripts.{state_after}

-- the engine represents the state that the first lines of the script leave, this many of those that get a reply
pub record HasRun (script : List ℕ) (engine : Engine) : Type 0 where
  pub lines : ℕ
  pub state : IsEngineOf engine (state_after unannotated start (take lines (script_lines script)))
