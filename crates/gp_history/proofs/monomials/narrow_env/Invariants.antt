use Rattle.std.proofs.Common.{◌≡◌, take, true}
use Rattle.gp_prov.specs.Encoding.{encoded}
use Rattle.gp_history.specs.Narrowing.{narrow_versions}
use Rattle.gp_history.specs.Scanning.{scans_at}
use Rattle.gp_history.proofs.monomials.narrow_env.Given as goal

abbrev pub invariant-loop-at : goal.invariant-loop-at
invariant-loop-at l = l.found ≡ scans_at (encoded true (narrow_versions l.known)) (take l.at-index l.scans)
