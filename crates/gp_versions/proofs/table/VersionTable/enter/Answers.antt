use Rattle.std.proofs.Common.{subst, sym}
use Rattle.gp_versions.specs.declared.key.By.TheVariants as variant
use Rattle.gp_versions.specs.Chains.{AreChained}
use Rattle.gp_versions.specs.Keys.{keys_by}
use Rattle.gp_versions.specs.Listed.{IsCurrent}
use Rattle.gp_versions.proofs.table.VersionTable.enter.Goals as goal

pub enter-requires : goal.enter-requires
enter-requires c =
    record { chained = subst (λ spans. AreChained c.self.inside.chains (keys_by variant.Identity spans)) (sym c.deref.ensures.value) c.self.invariant.2 }

pub invariant_of-self : goal.invariant_of-self
invariant_of-self c = (
  c.self.invariant.0,
  c.self.invariant.1,
  subst (λ spans. AreChained c.enter.new.self (keys_by variant.Identity spans)) c.deref.ensures.value c.enter.ensures.chained,
  c.self.invariant.3,
  c.self.invariant.4,
)

pub invariant_of-self-2 : goal.invariant_of-self-2
invariant_of-self-2 c = (
  c.self.invariant.0,
  c.self.invariant.1,
  subst (λ spans. AreChained c.enter.new.self (keys_by variant.Identity spans)) c.deref.ensures.value c.enter.ensures.chained,
  subst (IsCurrent c.cover.new.self) c.deref-2.ensures.value c.cover.ensures.current,
  c.self.invariant.4,
)
