use Rattle.std.proofs.Common.{◌≡◌, take}
use Rattle.gp_versions.specs.Chains.{IsKeyAt, entered, up_to}
use Rattle.gp_versions.specs.TableSpans.{least, written_after}
use Rattle.gp_versions.proofs.chains.Chains.written_after.Given as goal

-- what was found, and the later writes up to the place of the walk
abbrev pub invariant-loop-walk : goal.invariant-loop-walk
invariant-loop-walk l =
    record {
      at : IsKeyAt l.spans l.id (entered l.self) l.walk;
      after : least (written_after l.id l.v (take (up_to l.walk) l.spans)) l.found ≡ written_after l.id l.v (take (entered l.self) l.spans);
    }

abbrev pub decreases-loop-walk : goal.decreases-loop-walk
decreases-loop-walk l = up_to l.walk
