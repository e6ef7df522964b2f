use Rattle.std.proofs.Common.{◌≡◌, ◌++◌, ◌-◌}
use Rattle.std.specs.List.{range_with_len}
use Rattle.gp_versions.specs.Search.{among, is_sought}
use Rattle.gp_versions.proofs.places.push_from.Given as goal

abbrev pub invariant-loop-place : goal.invariant-loop-place
invariant-loop-place l = l.found.items ≡ l.initial.found.items ++ among (is_sought l.sought) l.spans (range_with_len l.from (l.place - l.from))
