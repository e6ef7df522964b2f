use Rattle.std.proofs.Common.{◌≡◌, ◌++◌, drop, map, None}
use Rattle.std.specs.Option.{option_map}
use Rattle.gp_log.specs.Contents.{entries}
use Rattle.gp_machine.specs.RowChanges.{spans_changes}
use Rattle.gp_serial.specs.Changes.{AreMade, change_view}
use Rattle.gp_serial.proofs.changes.push_table.Given as goal

-- the spans that remain give the other changes
abbrev pub invariant-loop-i : goal.invariant-loop-i
invariant-loop-i l =
    (map change_view l.changes.items ++ spans_changes l.table (option_map (λ span. span.now) l.last) (drop l.i l.spans)
    ≡ map change_view l.initial.changes.items ++ spans_changes l.table None l.spans)
    × (AreMade (entries l.log) l.initial.changes.items → AreMade (entries l.log) l.changes.items)
