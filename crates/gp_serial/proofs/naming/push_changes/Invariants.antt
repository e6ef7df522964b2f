use Rattle.std.proofs.Common.{◌≡◌, ◌++◌, drop}
use Rattle.gp_serial.proofs.naming.push_changes.Given as goal

-- the changes that remain are appended
abbrev pub invariant-loop-change : goal.invariant-loop-change
invariant-loop-change l = l.all.items ++ drop l.change-index l.changes ≡ l.initial.all.items ++ l.changes
