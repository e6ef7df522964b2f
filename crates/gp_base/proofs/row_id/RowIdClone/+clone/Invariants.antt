use Rattle.std.proofs.Common.{◌≡◌, take}
use Rattle.gp_base.proofs.row_id.RowIdClone.+clone.Given as goal

-- the sources so far are copied
abbrev pub invariant-loop-source : goal.invariant-loop-source
invariant-loop-source l = l.sources.items ≡ take l.source-index l.source-items
