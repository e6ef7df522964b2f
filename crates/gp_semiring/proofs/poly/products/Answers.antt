use Rattle.std.proofs.Common.{ap, subst, sym, ◌∙◌}
use Rattle.gp_semiring.specs.Adding.{with_products, with_terms}
use Rattle.gp_semiring.specs.PolynomialLaws.{poly_laws}
use Rattle.gp_semiring.specs.Polynomials.{Terms}
use Rattle.gp_semiring.specs.WitnessForms.{IsPolynomial}
use Rattle.gp_semiring.proofs.TermLemmas.{with_products_is, with_products_polynomial}
use Rattle.gp_semiring.proofs.poly.products.Goals as goal

pub invariant_of-result : goal.invariant_of-result
invariant_of-result c =
    let left = c.args.left.now in
    let right = c.args.right.now in (
      subst IsPolynomial (sym (c.in_ok-add_products.ensures ∙ ap (with_products left right) c.new-terms.ensures.items)) (with_products_polynomial left right c.requires.left c.requires.right),
      subst IsPolynomial (sym c.new.ensures.items) poly_laws.zero_in,
    )

pub returns : goal.returns
returns c =
    let left = c.args.left.now in
    let right = c.args.right.now in
    ap (λ (recent : Terms). with_terms recent c.add_products.new.terms.items) c.new.ensures.items
    ∙ c.in_ok-add_products.ensures
    ∙ ap (with_products left right) c.new-terms.ensures.items
    ∙ with_products_is left right c.requires.left c.requires.right
