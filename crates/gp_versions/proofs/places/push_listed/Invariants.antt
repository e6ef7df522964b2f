use Rattle.std.proofs.Common.{◌≡◌, ◌++◌, take}
use Rattle.gp_versions.specs.Search.{among, is_sought}
use Rattle.gp_versions.proofs.places.push_listed.Given as goal

abbrev pub invariant-loop-place : goal.invariant-loop-place
invariant-loop-place l = l.found.items ≡ l.initial.found.items ++ among (is_sought l.sought) l.spans (take l.place-index l.places)
