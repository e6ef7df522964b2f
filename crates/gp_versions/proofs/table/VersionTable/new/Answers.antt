use Rattle.std.proofs.Common.{[]}
use Rattle.gp_versions.proofs.table.VersionTable.new.Goals as goal

pub invariant_of-result : goal.invariant_of-result
invariant_of-result c = rw (c.new.ensures.items, c.new-4.ensures.items) (tt, tt, c.new-2.ensures [], c.new-3.ensures [], tt)
