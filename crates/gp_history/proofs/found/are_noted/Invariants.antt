use Rattle.std.proofs.Common.{◌≡◌, drop, map}
use Rattle.gp_history.specs.Changes.{are_noted}
use Rattle.gp_history.proofs.found.are_noted.Given as goal

abbrev pub invariant-loop-span : goal.invariant-loop-span
invariant-loop-span g l = are_noted l.version l.notes (map (λ span. span.now) (drop l.span-index l.spans)) ≡ are_noted l.version l.notes (map (λ span. span.now) l.spans)
