use Rattle.std.proofs.Common.{◌≡◌, ◌≤◌, ◌++◌, drop, length}
use Rattle.std.specs.Vec.Iter.{into_iter_items}
use Rattle.gp_semiring.specs.Adding.{with_terms}
use Rattle.gp_semiring.proofs.terms.merged_terms.Given as goal

-- the terms that remain on both sides
abbrev pub invariant-loop-own : goal.invariant-loop-own
invariant-loop-own l = record {
  within : l.next ≤ length l.terms;
  same : l.done.items ++ with_terms (drop l.next l.terms) (into_iter_items l.own-iterator) ≡ with_terms l.terms l.fn.others.items;
}
