use Rattle.std.proofs.Common.{List, ap, map, true, ◌∙◌}
use Rattle.std.proofs.lemmas.Result.{IfOk-weaker}
use Rattle.gp_algebra.specs.Scans.{AgreeOn}
use Rattle.gp_base.specs.Annotated.{Annotated}
use Rattle.gp_base.specs.Tokens.{Monomial}
use Rattle.gp_exec.specs.Running.{environment_view}
use Rattle.gp_prov.specs.Encoding.{encoded, encoded_row}
use Rattle.gp_reenact.specs.Reenacting.{spans_of}
use Rattle.gp_history.specs.Narrowing.{narrow_versions}
use Rattle.gp_history.specs.SpanAnnotations.{versions_with}
use Rattle.gp_history.proofs.monomials.env.Goals as goal

pub returns : goal.returns
returns c =
    IfOk-weaker c.narrow_env.result
    (λ env. AgreeOn c.args.scans.now (environment_view env) (encoded true (narrow_versions c.in_ok-whole.whole)))
    (λ env. AgreeOn c.args.scans.now (environment_view env) (encoded true (versions_with (spans_of c.args.versions.now) c.args.known.now)))
    (λ env agrees at there. agrees at there ∙ ap (λ (rows : List (Annotated Monomial)). map (encoded_row true) rows) (c.in_ok-whole.ensures.versions at.version at.table)) c.narrow_env.ensures
