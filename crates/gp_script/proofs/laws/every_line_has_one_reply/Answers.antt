use Rattle.gp_base.specs.Annotated.{unannotated}
use Rattle.gp_syntax.specs.Lines.{script_lines}
use Rattle.gp_machine.specs.State.{start}
use Rattle.gp_script.proofs.HistoryLemmas.{numbers-kept}
use Rattle.gp_script.proofs.laws.every_line_has_one_reply.Goals as goal

pub returns : goal.returns
returns c = record { one_each = λ script. numbers-kept unannotated start (script_lines script) }
