use Rattle.std.proofs.Common.{◌≡◌, ◌+◌, drop}
use Rattle.gp_check.specs.Scopes.{place_behind}
use Rattle.gp_check.proofs.scope.place_behind.Given as goal

abbrev pub invariant-loop-column : goal.invariant-loop-column
invariant-loop-column l = record {
  counted : l.number ≡ l.before + l.column-index;
  rest : place_behind l.number l.col (drop l.column-index l.columns) ≡ place_behind l.before l.col l.columns;
}
