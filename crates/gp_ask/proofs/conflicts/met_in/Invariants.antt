use Rattle.std.proofs.Common.{◌≡◌, drop}
use Rattle.std.specs.BTreeMap.{get}
use Rattle.gp_base.specs.Identities.{Identity, identity_cmp}
use Rattle.gp_versions.specs.TableSpans.{least}
use Rattle.gp_ask.specs.ConflictForms.{met_in}
use Rattle.gp_ask.proofs.conflicts.met_in.Given as goal

-- with the spans that remain
abbrev pub invariant-loop-span : goal.invariant-loop-span
invariant-loop-span l = (id : Identity) → least (get identity_cmp l.met id) (met_in l.base l.upto id (drop l.span-index l.spans)) ≡ met_in l.base l.upto id l.spans
