use Rattle.std.proofs.Common.{◌≡◌, ◌≤◌, ◌∙◌, ap, sym, arith, rules, true}
use Rattle.gp_base.specs.Tokens.{greatest_count}
use Rattle.gp_base.specs.MonomialForms.{IsToken, follows}
use Rattle.gp_base.proofs.FollowingLemmas.{IsMonomial_push}
use Rattle.gp_base.proofs.monomial.Monomial.push.Goals as goal

pub invariant_of-self-2 : goal.invariant_of-self-2
invariant_of-self-2 c =
    let token : IsToken c.args.token = search rules in
    let few : c.args.count ≤ greatest_count = omega (arith, c.ranges.count.fits) in
    let some : 1 ≤ c.args.count = omega arith in
    let above : follows c.args.token c.self.inside.powers.items ≡ true = ap (follows c.args.token) (sym c.as_slice.ensures) ∙ sym c.follows.ensures ∙ c.if-not-follows.false in
    rw c.in_ok-push.ensures.ok (IsMonomial_push c.args.token c.args.count c.self.inside.powers.items c.self.invariant above token some few)
