use Rattle.std.proofs.Common.{arith, inl, inr, subst, ℕ, ◌+◌, ◌<◌, ◌≡◌, ◌≤◌, ◌⊎◌}
use Rattle.std.proofs.lemmas.Bool.{cases_lt}
use Rattle.gp_versions.specs.Finding.{HasVersion}
use Rattle.gp_versions.proofs.FinderLemmas.{version-more}
use Rattle.gp_versions.proofs.finder.Finder.push_between.Goals as goal

pub loop-version-preserved : goal.loop-version-preserved
loop-version-preserved c =
    let finder = c.args.self.now in
    let before = c.loop-version.found.items in
    let places = c.push_version.new.found.items in
    let now = c.loop-version.version in
    record {
      kept = λ q there. c.in_ok-push_version.ensures.kept q (c.loop-version.invariant.kept q there);
      found = λ version above below. elim (cases_lt now version) as (λ (o : (now < version) ⊎ (version ≤ now)). HasVersion version finder places) [
        | inl last ↦ (let same : now + 1 ≡ version = omega (arith, last, below) in subst (λ (v : ℕ). HasVersion v finder places) same (c.in_ok-push_version.ensures.all c.if-not-branch.false))
        | inr earlier ↦ version-more finder version before places c.in_ok-push_version.ensures.kept (c.loop-version.invariant.found version above earlier)
      ];
    }

pub returns-clause-all : goal.returns-clause-all
returns-clause-all c = λ all version above below. c.loop-version.invariant.found version above (omega (arith, below, c.loop-version-test.false))
