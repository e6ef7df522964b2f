use Rattle.gp_base.specs.Annotated.{unannotated}
use Rattle.gp_syntax.specs.Lines.{script_lines}
use Rattle.gp_algebra.specs.Reannotation.{forgotten}
use Rattle.gp_machine.specs.State.{start}
use Rattle.gp_log.specs.Parameters.{parameters}
use Rattle.gp_script.specs.Scripts.{lines_if_read}
use Rattle.gp_script.proofs.HistoryLemmas.{forgetting, replies-same, states-same}
use Rattle.gp_script.proofs.laws.replies_have_no_annotations.Goals as goal

pub returns-clause-replies : goal.returns-clause-replies
returns-clause-replies g c kind script =
    replies-same kind (c.annotations_change_no_reply.ensures.event kind unannotated forgotten (forgetting kind) parameters) start (script_lines script)

pub returns-clause-state : goal.returns-clause-state
returns-clause-state g c kind script = states-same kind script (c.annotations_change_no_reply.ensures.forgetting kind parameters (lines_if_read (script_lines script)))
