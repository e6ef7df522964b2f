use Rattle.std.proofs.Common.{List, [], arith, subst, suc, sym, take, ℕ, ◌++◌, ◌+◌, ◌∷◌, ◌≡◌}
use Rattle.std.proofs.lemmas.List.{take_all}
use Rattle.gp_algebra.specs.declared.plain.ScanAt.{ScanAt}
use Rattle.gp_kexec.specs.declared.env.KScanned.{KScanned}
use Rattle.gp_history.specs.Narrowing.{narrow_versions}
use Rattle.gp_history.proofs.ElementLemmas.{AreScanned, scanned_more, scans_found}
use Rattle.gp_history.proofs.elements.narrow_env.Goals as goal

pub loop-at-preserved : goal.loop-at-preserved
loop-at-preserved g c =
    let env = narrow_versions c.args.known.now in
    let scans = c.args.scans.now in
    let at = c.loop-at.at-index in
    let next : suc at ≡ at + 1 = omega arith in
    subst (λ (all : List (KScanned g.row.K.Denot)). AreScanned env (take (at + 1) scans) all) (sym c.in_ok-push.ensures.ok)
    (subst (λ (n : ℕ). AreScanned env (take n scans) (c.loop-at.found ++ c.in_ok-scanned.field-0 ∷ [])) next
    (scanned_more env scans c.loop-at.found at _ c.in_ok-scanned.field-0 c.loop-at-test.true c.in_ok-scanned.ensures c.loop-at.invariant))

pub returns : goal.returns
returns g c =
    let env = narrow_versions c.args.known.now in
    scans_found env c.args.scans.now c.loop-at.found
    (subst (λ (scans : List ScanAt). AreScanned env scans c.loop-at.found) (take_all c.loop-at.at-index c.args.scans.now c.loop-at-test.false) c.loop-at.invariant)
