use Rattle.std.proofs.Common.{◌≡◌, ◌++◌, drop}
use Rattle.std.specs.List.{flat_map}
use Rattle.gp_algebra.specs.Views.{statement_view}
use Rattle.gp_ask.specs.Keyed.{keyed_lines}
use Rattle.gp_ask.proofs.changes.shown_lines.Given as goal

-- the rows that remain give the other lines
abbrev pub invariant-loop-row : goal.invariant-loop-row
invariant-loop-row l = l.lines ++ flat_map (keyed_lines l.name (statement_view l.stmt)) (drop l.row-index l.row-items) ≡ flat_map (keyed_lines l.name (statement_view l.stmt)) l.row-items
