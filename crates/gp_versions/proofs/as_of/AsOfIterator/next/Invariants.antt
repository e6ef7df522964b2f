use Rattle.std.proofs.Common.{◌≡◌, [], ◌++◌, length}
use Rattle.gp_versions.specs.Listed.{listed}
use Rattle.gp_versions.specs.Spans.{spans_at}
use Rattle.gp_versions.proofs.as_of.AsOfIterator.next.Given as goal

abbrev pub invariant-loop-place : goal.invariant-loop-place
invariant-loop-place l =
    spans_at l.self-inside.v (listed l.self-inside.all.now l.self-inside.places.now) ++ spans_at l.self-inside.v l.self-inside.others.now
    ≡ spans_at l.initial.self-inside.v (listed l.initial.self-inside.all.now l.initial.self-inside.places.now) ++ spans_at l.initial.self-inside.v l.initial.self-inside.others.now

abbrev pub decreases-loop-place : goal.decreases-loop-place
decreases-loop-place l = length l.self-inside.places.now

-- all places have been passed
abbrev pub invariant-loop-span : goal.invariant-loop-span
invariant-loop-span l = record {
  none : l.self-inside.places.now ≡ [];
  rest : spans_at l.self-inside.v l.self-inside.others.now ≡ spans_at l.initial.self-inside.v l.initial.self-inside.others.now;
}

abbrev pub decreases-loop-span : goal.decreases-loop-span
decreases-loop-span l = length l.self-inside.others.now
