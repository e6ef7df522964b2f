use Rattle.gp_syntax.specs.Lines.{script_lines}
use Rattle.gp_machine.specs.State.{start}
use Rattle.gp_script.proofs.HistoryLemmas.{after-lines}
use Rattle.gp_script.proofs.laws.scripts_lead_to_histories.Goals as goal

pub returns : goal.returns
returns g c = record { reached = λ kind script. after-lines kind (script_lines script) start }
