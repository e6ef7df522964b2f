use Rattle.std.proofs.Common.{[], ◌∷◌, ◌++◌, ap, arith, slice_get, sym, ◌∙◌}
use Rattle.std.specs.Ordering.{is_lt}
use Rattle.gp_semiring.proofs.MergeLemmas.{found-at, got-within, pass-one}
use Rattle.gp_semiring.proofs.terms.push_before.Goals as goal

pub loop-term-preserved : goal.loop-term-preserved
loop-term-preserved c =
    let terms = c.args.terms.now in
    let monomial = c.args.monomial.now in
    let done = c.loop-term.done.items in
    let next = c.loop-term.next in
    let term = c.in-Some.term.now in
    let found = sym c.in-Some.ensures in
    let here = found-at is_lt (slice_get terms next) monomial term found in
    let low = got-within terms next term here.0 in
    let new = c.in_ok-push.ensures.items ∙ ap (λ m. done ++ (m, term.1) ∷ []) c.in_ok-clone.ensures.cases in
    record {
      within = omega (arith, low);
      same = λ amount es. pass-one terms next term monomial c.requires.sorted found done c.push.new.self.items _ new amount es (c.loop-term.invariant.same amount es);
    }

pub loop-term-smaller : goal.loop-term-smaller
loop-term-smaller c =
    let terms = c.args.terms.now in
    let term = c.in-Some.term.now in
    let found = sym c.in-Some.ensures in
    let here = found-at is_lt (slice_get terms c.loop-term.next) c.args.monomial.now term found in
    let low = got-within terms c.loop-term.next term here.0 in
    omega (arith, low)

pub returns : goal.returns
returns c = record {
  within = c.loop-term.invariant.within;
  behind = sym c.in_default.ensures;
  same = c.loop-term.invariant.same;
}
