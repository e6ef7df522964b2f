use Rattle.std.proofs.Common.{◌≡◌, drop, map}
use Rattle.std.specs.List.{list_any}
use Rattle.gp_algebra.specs.Views.{statement_view}
use Rattle.gp_history.specs.Narrowing.{sweeps}
use Rattle.gp_history.proofs.inert.are_swept.Given as goal

-- the statements that remain decide
abbrev pub invariant-loop-stmt : goal.invariant-loop-stmt
invariant-loop-stmt l = list_any (sweeps l.table) (map (λ stmt. statement_view stmt.now) (drop l.stmt-index l.statements)) ≡ list_any (sweeps l.table) (map (λ stmt. statement_view stmt.now) l.statements)
