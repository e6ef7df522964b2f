use Rattle.std.proofs.Common.{◌≡◌, subst, sym, ◌∙◌}
use Rattle.indexmap.specs.IndexMap.{get}
use Rattle.gp_versions.specs.Chains.{IsLast, entered, same_keys}
use Rattle.gp_versions.proofs.chains.Chains.newest.Goals as goal

pub returns : goal.returns
returns c = λ keys chained.
    let key = c.args.key in
    let map = c.args.self.now.newest in
    let found : c.copied.result ≡ get same_keys map key = c.copied.ensures ∙ c.get.ensures.value in
    subst (IsLast keys key (entered c.args.self.now)) (sym found) (chained.last key)
