use Rattle.std.proofs.Common.{◌≡◌, ◌+◌, ◌≤◌, ◌++◌, vec_len, vec_capacity, length}
use Rattle.std.specs.List.{filter_map}
use Rattle.std.specs.Vec.Iter.{into_iter_items}
use Rattle.gp_versions.specs.Commits.{begun}
use Rattle.gp_versions.proofs.commit.begin_spans.Given as goal

abbrev pub invariant-loop-write : goal.invariant-loop-write
invariant-loop-write l = record {
  begun : l.spans.items ++ filter_map (begun l.version) (into_iter_items l.write-iterator) ≡ l.initial.spans.items ++ filter_map (begun l.version) (into_iter_items l.initial.write-iterator);
  room : vec_len l.spans + length (into_iter_items l.write-iterator) ≤ vec_capacity l.spans;
}
