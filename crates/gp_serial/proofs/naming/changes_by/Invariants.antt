use Rattle.std.proofs.Common.{◌≡◌, ◌++◌, drop}
use Rattle.std.specs.Prelude.{filter}
use Rattle.gp_serial.specs.NameForms.{is_by}
use Rattle.gp_serial.proofs.naming.changes_by.Given as goal

-- the changes that remain give the others
abbrev pub invariant-loop-change : goal.invariant-loop-change
invariant-loop-change l = l.found.items ++ filter (is_by l.t) (drop l.change-index l.changes) ≡ filter (is_by l.t) l.changes
