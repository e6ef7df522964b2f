use Rattle.std.proofs.Common.{◌≡◌, ◌++◌, drop}
use Rattle.std.specs.Prelude.{filter}
use Rattle.gp_serial.specs.NameForms.{is_of_row}
use Rattle.gp_serial.proofs.naming.changes_of_row.Given as goal

-- the changes that remain give the others
abbrev pub invariant-loop-other : goal.invariant-loop-other
invariant-loop-other l = l.found.items ++ filter (is_of_row l.change) (drop l.other-index l.changes) ≡ filter (is_of_row l.change) l.changes
