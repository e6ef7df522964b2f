-- Of the contracts of `check` (gp_check) and `choose` (gp_exec): the statements and queries of the code without the pointers in their expressions.
use Rattle.std.specs.Prelude.{map}
use Rattle.std.specs.Option.{option_map}
use Rattle.gp_expr.specs.Views.{expr_view, cond_view}
use Rattle.gp_algebra.specs.Statements as s
use Rattle.gp_algebra.specs.declared.statement.SetExpr.{SetExpr}
use Rattle.gp_algebra.specs.declared.statement.Branch.{Branch}
use Rattle.gp_algebra.specs.declared.statement.Select.{Select}
use Rattle.gp_algebra.specs.declared.statement.Stmt.{Stmt}
use Rattle.gp_algebra.specs.declared.statement.Stmt.TheVariants.{Insert, InsertSelect, Update, Delete, Read}

abbrev pub set_view : SetExpr → s.SetExpr
set_view set = record { col = set.col; expr = expr_view set.expr }

abbrev pub branch_view : Branch → s.Branch
branch_view branch = record { from = branch.from; cond = option_map cond_view branch.cond; items = map expr_view branch.items }

abbrev pub select_view : Select → s.Select
select_view select = map branch_view select.branches

abbrev pub statement_view : Stmt → s.Statement
statement_view (Insert table rows) = s.insert table rows
statement_view (InsertSelect table select) = s.insert_select table (select_view select)
statement_view (Update table sets cond) = s.update table (map set_view sets) (cond_view cond)
statement_view (Delete table cond) = s.delete table (cond_view cond)
statement_view (Read select) = s.read (select_view select)
