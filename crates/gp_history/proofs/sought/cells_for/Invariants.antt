use Rattle.std.proofs.Common.{drop, map}
use Rattle.gp_algebra.specs.Views.{statement_view}
use Rattle.gp_history.specs.Narrowing.{leaves}
use Rattle.gp_history.proofs.SeekingLemmas.{Seeks}
use Rattle.gp_history.proofs.sought.cells_for.Given as goal

-- the statements that remain are still to be asked
abbrev pub invariant-loop-stmt : goal.invariant-loop-stmt
invariant-loop-stmt l = Seeks (leaves l.table) (map (λ stmt. statement_view stmt.now) l.statements) (map (λ stmt. statement_view stmt.now) (drop l.stmt-index l.statements)) l.cells.items
