use Rattle.std.proofs.Common.{ap, ◌∙◌}
use Rattle.std.proofs.lemmas.List.{take_all}
use Rattle.gp_reenact.specs.Travel.{scans_at}
use Rattle.gp_reenact.proofs.EncodingLemmas.{found}
use Rattle.gp_reenact.proofs.env.env_at.Goals as goal

pub returns-clause-agree : goal.returns-clause-agree
returns-clause-agree c =
    rw (c.loop-at.invariant ∙ ap (scans_at c.args.versions.now) (take_all c.loop-at.at-index c.args.scans.now c.loop-at-test.false)) (found c.args.versions.now c.args.scans.now)
