use Rattle.std.proofs.Common.{◌≡◌, ◌++◌, drop, map}
use Rattle.gp_history.specs.Decoded.{decoded}
use Rattle.gp_history.specs.Noted.{row_view}
use Rattle.gp_history.proofs.monomials.decoded.Given as goal

-- the rows that remain give the others
abbrev pub invariant-loop-row : goal.invariant-loop-row
invariant-loop-row l = map row_view l.held.items ++ decoded (drop l.row-index l.rows) ≡ decoded l.rows
