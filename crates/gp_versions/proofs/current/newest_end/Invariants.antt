use Rattle.std.proofs.Common.{◌≡◌, drop}
use Rattle.gp_versions.specs.Listed.{newest_end}
use Rattle.gp_versions.proofs.current.newest_end.Given as goal

abbrev pub invariant-loop-place : goal.invariant-loop-place
invariant-loop-place l = newest_end l.floor l.spans (drop l.place-index l.places) ≡ newest_end l.initial.floor l.spans l.places
