use Rattle.std.proofs.Common.{◌∙◌}
use Rattle.std.proofs.lemmas.Result.{IfOk-weaker}
use Rattle.gp_kexec.specs.Rows.{environment_view}
use Rattle.gp_reenact.specs.Reenacting.{spans_of}
use Rattle.gp_history.specs.Narrowing.{narrow_versions}
use Rattle.gp_history.specs.Scanning.{AgreesOn}
use Rattle.gp_history.specs.SpanAnnotations.{versions_with}
use Rattle.gp_history.proofs.elements.k_env.Goals as goal

pub returns : goal.returns
returns g c =
    IfOk-weaker c.narrow_env.result
    (λ env. AgreesOn c.args.scans.now (environment_view env) (narrow_versions c.in_ok-whole.whole))
    (λ env. AgreesOn c.args.scans.now (environment_view env) (versions_with (spans_of c.args.versions.now) c.args.known.now))
    (λ env agrees at there. agrees at there ∙ c.in_ok-whole.ensures.versions at.version at.table) c.narrow_env.ensures
