use Rattle.std.proofs.Common.{◌≡◌, ◌++◌, map, drop, take}
use Rattle.gp_versions.specs.Commits.{ended}
use Rattle.gp_versions.proofs.commit.end_spans.Given as goal

abbrev pub invariant-loop-span : goal.invariant-loop-span
invariant-loop-span l = l.spans ≡ map (ended l.version l.writes) (take l.span-index l.initial.spans) ++ drop l.span-index l.initial.spans
