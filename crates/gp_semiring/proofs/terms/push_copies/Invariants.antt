use Rattle.std.proofs.Common.{◌≡◌, drop, ◌++◌}
use Rattle.gp_semiring.proofs.terms.push_copies.Given as goal

abbrev pub invariant-loop-term : goal.invariant-loop-term
invariant-loop-term l = l.done.items ++ drop l.term-index l.terms ≡ l.initial.done.items ++ l.terms
