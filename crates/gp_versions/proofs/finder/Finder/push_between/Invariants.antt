use Rattle.std.proofs.Common.{ℕ, ◌<◌, ◌≤◌}
use Rattle.gp_versions.specs.Finding.{AreAmong, HasVersion}
use Rattle.gp_versions.proofs.finder.Finder.push_between.Given as goal

-- the spans of the versions up to this one are found
abbrev pub invariant-loop-version : goal.invariant-loop-version
invariant-loop-version l = record {
  kept : AreAmong l.initial.found.items l.found.items;
  found : (version : ℕ) → l.first < version → version ≤ l.version → HasVersion version l.self l.found.items;
}
