use Rattle.std.proofs.Common.{◌≡◌, map, drop}
use Rattle.gp_expr.specs.Views.{expr_view}
use Rattle.gp_sql.specs.Types.{exprs_types}
use Rattle.gp_sql.proofs.CodeLemmas.{types_behind}
use Rattle.gp_sql.proofs.query_types.exprs_types.Given as goal

-- the types that were found and those that remain are all types
abbrev pub invariant-loop-expr : goal.invariant-loop-expr
invariant-loop-expr l = types_behind l.found (exprs_types l.types (map expr_view (drop l.expr-index l.exprs))) ≡ exprs_types l.types (map expr_view l.exprs)
