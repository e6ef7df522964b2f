use Rattle.std.proofs.Common.{Some, ◌≡◌, drop, map}
use Rattle.std.specs.List.{list_any}
use Rattle.gp_algebra.specs.Views.{statement_view}
use Rattle.gp_compose.specs.Composed.{writes}
use Rattle.gp_history.proofs.inert.write_to.Given as goal

-- the statements that remain decide
abbrev pub invariant-loop-stmt : goal.invariant-loop-stmt
invariant-loop-stmt l = list_any (λ stmt. writes (Some stmt) l.table) (map (λ stmt. statement_view stmt.now) (drop l.stmt-index l.statements)) ≡ list_any (λ stmt. writes (Some stmt) l.table) (map (λ stmt. statement_view stmt.now) l.statements)
