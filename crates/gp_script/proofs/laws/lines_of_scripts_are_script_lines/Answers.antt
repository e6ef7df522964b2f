use Rattle.std.proofs.Common.{arith}
use Rattle.gp_script.proofs.ScriptLineLemmas.{script-lines}
use Rattle.gp_script.proofs.laws.lines_of_scripts_are_script_lines.Goals as goal

pub returns : goal.returns
returns c = record { lines = λ script short. script-lines script (omega (arith, short)) }
