use Rattle.std.proofs.Common.{◌≡◌, drop, map, true}
use Rattle.std.specs.List.{list_all}
use Rattle.gp_algebra.specs.Views.{statement_view}
use Rattle.gp_history.specs.Narrowing.{leaves, tests_are_simple}
use Rattle.gp_history.proofs.inert.all_leave.Given as goal

-- the statements that remain decide, and their conditions are simple
abbrev pub invariant-loop-stmt : goal.invariant-loop-stmt
invariant-loop-stmt l = record {
  leaves : list_all (leaves l.table l.row) (map (λ stmt. statement_view stmt.now) (drop l.stmt-index l.statements)) ≡ list_all (leaves l.table l.row) (map (λ stmt. statement_view stmt.now) l.statements);
  simple : list_all tests_are_simple (map (λ stmt. statement_view stmt.now) (drop l.stmt-index l.statements)) ≡ true;
}
