use Rattle.std.proofs.Common.{[], ◌∷◌, ◌++◌, ◌-◌, ◌≡◌, ap, arith, drop, length, rules, sym, ◌∙◌}
use Rattle.std.proofs.lemmas.List.{length-drop, nil_from_length, take_all}
use Rattle.std.specs.Vec.Iter.{into_iter_items}
use Rattle.gp_semiring.specs.Adding.{with_terms}
use Rattle.gp_semiring.specs.Polynomials.{Terms}
use Rattle.gp_semiring.proofs.MergeLemmas.{merge-end}
use Rattle.gp_semiring.proofs.terms.merged_terms.Goals as goal

pub push_before-requires-clause-within : goal.push_before-requires-clause-within
push_before-requires-clause-within c = c.loop-own.invariant.within

pub loop-own-preserved : goal.loop-own-preserved
loop-own-preserved c =
    let rest = into_iter_items c.next.new.self in
    let items : c.in-Some.own ∷ rest ≡ into_iter_items c.loop-own.own-iterator = search rules in
    record {
      within = c.in_ok-next-2.ensures.within;
      same =
          c.in_ok-next-2.ensures.same rest
          ∙ c.in_ok-next.ensures.same c.in-Some.own.1 rest
          ∙ ap (λ (others : Terms). c.loop-own.done.items ++ with_terms (drop c.loop-own.next c.args.terms.now) others) items
          ∙ c.loop-own.invariant.same;
    }

pub returns : goal.returns
returns c =
    let terms = c.args.terms.now in
    let next = c.loop-own.next in
    let done = c.loop-own.done.items in
    let none : into_iter_items c.loop-own.own-iterator ≡ [] = nil_from_length (into_iter_items c.loop-own.own-iterator) (sym c.loop-own.own-iterator.rest.ok.0 ∙ c.in-None.ensures.steps.0) in
    c.in_ok-push_copies.ensures
    ∙ ap (λ (rest : Terms). done ++ rest) (take_all (length terms - next) (drop next terms) (omega (arith, length-drop next terms)) ∙ sym (merge-end terms next c.requires.sorted))
    ∙ ap (λ (others : Terms). done ++ with_terms (drop next terms) others) (sym none)
    ∙ c.loop-own.invariant.same
