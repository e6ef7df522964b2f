use Rattle.std.proofs.Common.{ap, true, ◌∙◌}
use Rattle.std.proofs.lemmas.List.{take_all}
use Rattle.gp_algebra.specs.Plain.{PlainEnvironment}
use Rattle.gp_prov.specs.Encoding.{encoded}
use Rattle.gp_history.specs.Narrowing.{narrow_versions}
use Rattle.gp_history.specs.Scanning.{scans_at}
use Rattle.gp_history.proofs.RunLemmas.{scans_found}
use Rattle.gp_history.proofs.monomials.narrow_env.Goals as goal

pub returns : goal.returns
returns c =
    let env : PlainEnvironment = encoded true (narrow_versions c.args.known.now) in
    rw (c.loop-at.invariant ∙ ap (scans_at env) (take_all c.loop-at.at-index c.args.scans.now c.loop-at-test.false)) (scans_found env c.args.scans.now)
