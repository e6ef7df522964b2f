use Rattle.std.proofs.Common.{◌≡◌, take}
use Rattle.gp_versions.specs.Listed.{open_places}
use Rattle.gp_versions.proofs.current.open_places.Given as goal

abbrev pub invariant-loop-place : goal.invariant-loop-place
invariant-loop-place l = l.open_ones.items ≡ open_places l.spans (take l.place-index l.places)
