use Rattle.std.proofs.Common.{◌-◌, length}
use Rattle.std.specs.Prelude.{slice_get}
use Rattle.gp_replay.proofs.SameLemmas.{GoesOn}
use Rattle.gp_replay.proofs.same_rows.are_same.Given as goal

-- if the spans at the places that are left are equal, so are those at all places
abbrev pub invariant-loop-at : goal.invariant-loop-at
invariant-loop-at l = GoesOn (slice_get l.spans) (slice_get l.others) l.places l.other_places l.at

abbrev pub decreases-loop-at : goal.decreases-loop-at
decreases-loop-at l = length l.places - l.at
