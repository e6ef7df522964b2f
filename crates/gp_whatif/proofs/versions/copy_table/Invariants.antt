use Rattle.std.proofs.Common.{◌≡◌, ◌++◌, drop}
use Rattle.gp_whatif.proofs.versions.copy_table.Given as goal

-- the copies so far and what remains are all
abbrev pub invariant-loop-span : goal.invariant-loop-span
invariant-loop-span l = l.copy.items ++ drop l.span-index l.spans ≡ l.spans
