use Rattle.std.proofs.Common.{◌≡◌, ◌++◌, drop, map}
use Rattle.gp_log.specs.Contents.{entries}
use Rattle.gp_machine.specs.RowChanges.{tables_changes}
use Rattle.gp_serial.specs.Changes.{AreMade, change_view, tables_of}
use Rattle.gp_serial.proofs.changes.changes_of.Given as goal

-- the tables that remain give the other changes
abbrev pub invariant-loop-place : goal.invariant-loop-place
invariant-loop-place l =
    (map change_view l.changes.items ++ tables_changes l.place (tables_of (drop l.place l.versions)) ≡ tables_changes 0 (tables_of l.versions)) × AreMade (entries l.log) l.changes.items
