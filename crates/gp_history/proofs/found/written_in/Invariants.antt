use Rattle.std.proofs.Common.{◌≡◌, drop, map}
use Rattle.std.specs.BTreeMap.{get}
use Rattle.std.specs.Option.{option_or}
use Rattle.gp_base.specs.Identities.{Identity, identity_cmp}
use Rattle.gp_history.specs.Noted.{first_written, row_view}
use Rattle.gp_history.proofs.found.written_in.Given as goal

abbrev pub invariant-loop-row : goal.invariant-loop-row
invariant-loop-row g l = (id : Identity) → option_or (get identity_cmp l.found id) (first_written id (map row_view (drop l.row-index l.rows))) ≡ first_written id (map row_view l.rows)
