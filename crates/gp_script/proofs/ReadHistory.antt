-- The history of the lines that a script is read as is that of its bytes, and there is no other.
use Rattle.std.proofs.Common.{◌≡◌, ℕ, List, refl}
use Rattle.gp_base.specs.Annotated.{Annotations}
use Rattle.gp_grammar.proofs.ReadOnce.{script-one, script-read}
use Rattle.gp_syntax.specs.Lines.{script_lines}
use Rattle.gp_script.specs.History.{IsScript, ReadLine, last_state, replies_to}
use Rattle.gp_script.specs.Scripts.{final_state, lines_as_read, replies_of}

pub is-script : (script : List ℕ) → IsScript script (lines_as_read script)
is-script script = script-read (script_lines script)

pub one-script : (script : List ℕ) (lines : List ReadLine) → IsScript script lines → lines ≡ lines_as_read script
one-script script lines is = script-one (script_lines script) lines is

-- the last state, by the bytes
pub state-read : {M : Type 0} (domain : Annotations M) (script : List ℕ) → last_state domain (lines_as_read script) ≡ final_state domain script
state-read domain script = refl

-- the replies, by the bytes
pub replies-read : (script : List ℕ) → replies_to (lines_as_read script) ≡ replies_of script
replies-read script = refl
