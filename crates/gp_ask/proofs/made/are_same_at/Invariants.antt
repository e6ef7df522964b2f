use Rattle.std.proofs.Common.{drop, map, ◌≡◌}
use Rattle.std.specs.List.{slice_get}
use Rattle.gp_ask.proofs.made.are_same_at.Given as goal

-- the places that remain decide
abbrev pub invariant-loop-at : goal.invariant-loop-at
invariant-loop-at l = map (slice_get l.table.spans) (drop l.at l.places) ≡ map (slice_get l.other.spans) (drop l.at l.others) → map (slice_get l.table.spans) l.places ≡ map (slice_get l.other.spans) l.others
