use Rattle.std.proofs.Common.{◌≡◌, Some, drop}
use Rattle.gp_machine.specs.Precedence.{side_differs_in}
use Rattle.gp_serial.proofs.meeting.rows_differ_in.Given as goal

-- the columns that remain decide
abbrev pub invariant-loop-column : goal.invariant-loop-column
invariant-loop-column l =
    side_differs_in (drop l.column-index l.columns) (Some l.row) (Some l.other) ≡ side_differs_in l.columns (Some l.row) (Some l.other)
