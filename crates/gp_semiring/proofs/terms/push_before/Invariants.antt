use Rattle.std.proofs.Common.{ℕ, ◌≡◌, ◌≤◌, ◌-◌, ◌++◌, ◌∷◌, drop, length}
use Rattle.gp_semiring.specs.Adding.{with_terms}
use Rattle.gp_semiring.specs.Polynomials.{Terms}
use Rattle.gp_semiring.proofs.terms.push_before.Given as goal

abbrev pub invariant-loop-term : goal.invariant-loop-term
invariant-loop-term l = record {
  within : l.next ≤ length l.terms;
  same : (c : ℕ) (es : Terms) → l.done.items ++ with_terms (drop l.next l.terms) ((l.monomial, c) ∷ es) ≡ l.initial.done.items ++ with_terms (drop l.fn.from l.terms) ((l.monomial, c) ∷ es);
}

abbrev pub decreases-loop-term : goal.decreases-loop-term
decreases-loop-term l = length l.terms - l.next
