use Rattle.std.proofs.Common.{◌≡◌, drop}
use Rattle.gp_versions.specs.TableSpans.{written_after, least}
use Rattle.gp_versions.proofs.later.written_after.Given as goal

abbrev pub invariant-loop-span : goal.invariant-loop-span
invariant-loop-span l = least l.found (written_after l.id l.v (drop l.span-index l.spans)) ≡ written_after l.id l.v l.spans
