use Rattle.std.proofs.Common.{◌≡◌, drop}
use Rattle.gp_sql.specs.Types.{common_types}
use Rattle.gp_sql.proofs.CodeLemmas.{types_behind}
use Rattle.gp_sql.proofs.query_types.common_types.Given as goal

-- the types that were found and those that remain are all types
abbrev pub invariant-loop-i : goal.invariant-loop-i
invariant-loop-i l = types_behind l.found (common_types (drop l.i l.left) (drop l.i l.right)) ≡ common_types l.left l.right
