use Rattle.std.proofs.Common.{◌≡◌, [], ◌∷◌, ◌++◌, length, ap, subst, sym, ◌∙◌, arith}
use Rattle.gp_versions.specs.Chains.{HasChains}
use Rattle.gp_versions.proofs.ChainLemmas.{HasChains-entered, HasChains-unchanged}
use Rattle.gp_versions.proofs.chains.Chains.enter_next.Goals as goal

pub returns-in_err-before-clause-chained : goal.returns-in_err-before-clause-chained
returns-in_err-before-clause-chained c = λ keys at chains.
    subst (λ befores. HasChains c.insert.new.self befores keys) (sym c.reserve.ensures.items)
    (HasChains-unchanged c.args.self.now.newest c.insert.new.self c.args.self.now.befores.items keys c.in_err-before.ensures.err chains)

pub returns-clause-chained : goal.returns-clause-chained
returns-clause-chained c = λ keys at chains.
    let befores = c.args.self.now.befores.items in
    let before = c.in_ok-before.before in
    let end : c.in-Ok.place ≡ length befores = omega (arith, c.in-Ok.ensures) in
    subst (λ list. HasChains c.insert.new.self list keys) (sym (c.push_reserved.ensures.items ∙ ap (λ list. list ++ before ∷ []) c.reserve.ensures.items))
    (HasChains-entered c.args.self.now.newest c.insert.new.self befores keys c.args.key c.in-Ok.place before end at c.in_ok-before.ensures.updates.0 c.in_ok-before.ensures.old chains)
