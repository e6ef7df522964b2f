use Rattle.std.proofs.Common.{◌≡◌, map, take}
use Rattle.gp_versions.specs.Written.{id_of}
use Rattle.gp_versions.proofs.writes.sorted_ids.Given as goal

abbrev pub invariant-loop-write : goal.invariant-loop-write
invariant-loop-write l = l.ids.items ≡ map id_of (take l.write-index l.list)
