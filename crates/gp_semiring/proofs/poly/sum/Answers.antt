use Rattle.std.proofs.Common.{ap, subst, sym, ◌∙◌}
use Rattle.gp_semiring.specs.Adding.{with_terms}
use Rattle.gp_semiring.specs.PolynomialLaws.{poly_laws}
use Rattle.gp_semiring.specs.Polynomials.{Terms}
use Rattle.gp_semiring.specs.WitnessForms.{IsPolynomial}
use Rattle.gp_semiring.proofs.TermLemmas.{added_to_recent, added_to_terms, with_terms_polynomial}
use Rattle.gp_semiring.proofs.poly.sum.Goals as goal

pub add_terms-requires-then-is_quick : goal.add_terms-requires-then-is_quick
add_terms-requires-then-is_quick c = (subst IsPolynomial (sym c.in_ok-add_terms.ensures) (with_terms_polynomial c.args.others.now c.args.terms.items c.requires.others c.requires.terms)).sorted

pub invariant_of-result : goal.invariant_of-result
invariant_of-result c =
    let more = c.args.more.now in
    let others = c.args.others.now in
    let terms = c.args.terms.items in (
      subst IsPolynomial (sym (c.in_ok-add_terms-2.ensures ∙ ap (with_terms more) c.in_ok-add_terms.ensures))
          (with_terms_polynomial more (with_terms others terms) c.requires.more (with_terms_polynomial others terms c.requires.others c.requires.terms)),
      c.requires.recent,
    )

pub returns-then-is_quick : goal.returns-then-is_quick
returns-then-is_quick c =
    ap (with_terms c.args.recent.items) (c.in_ok-add_terms-2.ensures ∙ ap (with_terms c.args.more.now) c.in_ok-add_terms.ensures)
    ∙ added_to_terms c.args.terms.items c.args.recent.items c.args.others.now c.args.more.now c.requires.terms c.requires.recent c.requires.others c.requires.more

pub add_terms-requires-3 : goal.add_terms-requires-3
add_terms-requires-3 c = (subst IsPolynomial (sym c.in_ok-add_terms-3.ensures) (with_terms_polynomial c.args.others.now c.args.recent.items c.requires.others c.requires.recent)).sorted

pub invariant_of-result-then-len-lt-MANY : goal.invariant_of-result-then-len-lt-MANY
invariant_of-result-then-len-lt-MANY c =
    let more = c.args.more.now in
    let others = c.args.others.now in
    let recent = c.args.recent.items in (
      c.requires.terms,
      subst IsPolynomial (sym (c.in_ok-add_terms-4.ensures ∙ ap (with_terms more) c.in_ok-add_terms-3.ensures))
          (with_terms_polynomial more (with_terms others recent) c.requires.more (with_terms_polynomial others recent c.requires.others c.requires.recent)),
    )

pub returns-then-len-lt-MANY : goal.returns-then-len-lt-MANY
returns-then-len-lt-MANY c =
    ap (λ (all : Terms). with_terms all c.args.terms.items) (c.in_ok-add_terms-4.ensures ∙ ap (with_terms c.args.more.now) c.in_ok-add_terms-3.ensures)
    ∙ added_to_recent c.args.terms.items c.args.recent.items c.args.others.now c.args.more.now c.requires.terms c.requires.recent c.requires.others c.requires.more

pub merged_terms-requires-clause-sorted : goal.merged_terms-requires-clause-sorted
merged_terms-requires-clause-sorted c =
    let more = c.args.more.now in
    let others = c.args.others.now in
    let recent = c.args.recent.items in
    (subst IsPolynomial (sym (c.deref-2.ensures.value ∙ c.in_ok-add_terms-4.ensures ∙ ap (with_terms more) c.in_ok-add_terms-3.ensures))
    (with_terms_polynomial more (with_terms others recent) c.requires.more (with_terms_polynomial others recent c.requires.others c.requires.recent))).sorted

pub invariant_of-result-2 : goal.invariant_of-result-2
invariant_of-result-2 c =
    let more = c.args.more.now in
    let others = c.args.others.now in
    let recent = c.args.recent.items in
    let terms = c.args.terms.items in
    let all = c.deref-2.ensures.value ∙ c.in_ok-add_terms-4.ensures ∙ ap (with_terms more) c.in_ok-add_terms-3.ensures in (
      subst IsPolynomial (sym (c.in_ok-terms.ensures ∙ ap (λ (first : Terms). with_terms first terms) all))
          (with_terms_polynomial (with_terms more (with_terms others recent)) terms
          (with_terms_polynomial more (with_terms others recent) c.requires.more (with_terms_polynomial others recent c.requires.others c.requires.recent)) c.requires.terms),
      subst IsPolynomial (sym c.new.ensures.items) poly_laws.zero_in,
    )

pub returns : goal.returns
returns c =
    let more = c.args.more.now in
    let all = c.deref-2.ensures.value ∙ c.in_ok-add_terms-4.ensures ∙ ap (with_terms more) c.in_ok-add_terms-3.ensures in
    ap (λ (recent : Terms). with_terms recent c.in_ok-terms.terms.items) c.new.ensures.items
    ∙ c.in_ok-terms.ensures
    ∙ ap (λ (first : Terms). with_terms first c.args.terms.items) all
    ∙ added_to_recent c.args.terms.items c.args.recent.items c.args.others.now more c.requires.terms c.requires.recent c.requires.others c.requires.more
