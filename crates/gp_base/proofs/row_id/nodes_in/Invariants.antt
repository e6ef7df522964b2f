use Rattle.std.proofs.Common.{◌≡◌, ◌<◌, ◌+◌, drop}
use Rattle.gp_base.specs.declared.row_id.TheConstants.{MAX_NODES}
use Rattle.gp_base.specs.Identities.{nodes_in}
use Rattle.gp_base.specs.IdentityForms.{AreIdentities, sources_of}
use Rattle.gp_base.proofs.row_id.nodes_in.Given as goal

-- the nodes so far and those that remain are all; the identities so far are valid
abbrev pub invariant-loop-id : goal.invariant-loop-id
invariant-loop-id l =
    record {
      count : l.count + nodes_in (sources_of (drop l.id-index l.ids)) ≡ nodes_in (sources_of l.ids);
      few : l.count < MAX_NODES;
      valid : AreIdentities (sources_of (drop l.id-index l.ids)) → AreIdentities (sources_of l.ids);
    }
