use Rattle.gp_versions.specs.Chains.{keys_of}
use Rattle.gp_versions.proofs.table.VersionTable.from_spans.Goals as goal

pub invariant_of-result : goal.invariant_of-result
invariant_of-result c = rw c.new-3.ensures.items (c.requires.apart, c.requires.whole, c.new.ensures (keys_of c.args.spans.items), c.new-2.ensures c.args.spans.items, tt)
