use Rattle.std.proofs.Common.{Global, Vec}
use Rattle.gp_algebra.specs.PlainViews.{program_view}
use Rattle.gp_base.specs.declared.row.Row.{Row}
use Rattle.gp_base.specs.Annotated.{unannotated}
use Rattle.gp_exec.specs.Running.{environment_view}
use Rattle.gp_reenact.specs.Encoding.{encoded}
use Rattle.gp_reenact.specs.Travel.{past_environment}
use Rattle.gp_reenact.proofs.BackendLemmas.{gives_over}
use Rattle.gp_reenact.proofs.replay.rows_in_env.Goals as goal

pub returns : goal.returns
returns g c =
    gives_over (λ (found : Vec Row Global). found.items) (g.B.Backend.gives c.args.backend.now) (program_view c.args.program.now) (environment_view c.in_ok-env.env) (encoded (past_environment unannotated c.args.versions.now)) c.args.asked.now
    c.in_ok-env.ensures.agree c.requires.asked c.run.result c.run.ensures.given
