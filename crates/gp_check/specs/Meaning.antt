-- Part of the statement: the statement that a command without faults means, with tables and columns by number.
use Rattle.std.specs.Prelude.{ℕ, List, [], map, Option, unwrap_or}
use Rattle.std.specs.Option.{option_map, option_map_or}
use Rattle.gp_base.specs.declared.cell.Cell.TheVariants as cell
use Rattle.gp_base.specs.declared.table.Table.{Table}
use Rattle.gp_base.specs.Catalogs.{place_of}
use Rattle.gp_grammar.specs.declared.op.Op.TheVariants as op
use Rattle.gp_grammar.specs.Syntax as y
use Rattle.gp_grammar.specs.Syntax.{Bytes, Term, SetTerm, Item, Items, Block, Query, Command}
use Rattle.gp_expr.specs.declared.expr.Cmp.TheVariants as cmp
use Rattle.gp_expr.specs.Expressions as e
use Rattle.gp_expr.specs.Expressions.{Expr, Cond}
use Rattle.gp_algebra.specs.Statements as s
use Rattle.gp_algebra.specs.Statements.{SetExpr, Branch, Select, Statement, columns_behind}
use Rattle.gp_check.specs.declared.place.Resolution.{Resolution}
use Rattle.gp_check.specs.declared.place.Resolution.TheVariants.{Found}
use Rattle.gp_check.specs.Scopes.{Scope, scope_of, target_scope, resolution}
use Rattle.gp_check.specs.Faults.{scope_width, set_name}

abbrev pub column_expr : Resolution → Expr
column_expr (Found place) = e.col place.number
column_expr _ = e.constant cell.Null

-- a term that is a value, and a term that is a condition; a term that is not well typed has some meaning, which nothing uses
abbrev mutual
  pub expr_of : Scope → Term → Expr
  expr_of scope y.null = e.constant cell.Null
  expr_of scope (y.int n) = e.constant (cell.Int n)
  expr_of scope (y.text bytes) = e.constant (cell.Text bytes)
  expr_of scope (y.col item name) = column_expr (resolution scope (record { item = item; col = name }))
  expr_of scope (y.binary op.Add x z) = e.add (expr_of scope x) (expr_of scope z)
  expr_of scope (y.binary op.Sub x z) = e.sub (expr_of scope x) (expr_of scope z)
  expr_of scope (y.binary op.Mul x z) = e.mul (expr_of scope x) (expr_of scope z)
  expr_of scope (y.neg x) = e.neg (expr_of scope x)
  expr_of scope (y.case x z u) = e.case (cond_of scope x) (expr_of scope z) (expr_of scope u)
  expr_of scope _ = e.constant cell.Null

  pub cond_of : Scope → Term → Cond
  cond_of scope (y.binary op.Eq x z) = e.compare cmp.Eq (expr_of scope x) (expr_of scope z)
  cond_of scope (y.binary op.Ne x z) = e.compare cmp.Ne (expr_of scope x) (expr_of scope z)
  cond_of scope (y.binary op.Lt x z) = e.compare cmp.Lt (expr_of scope x) (expr_of scope z)
  cond_of scope (y.binary op.Le x z) = e.compare cmp.Le (expr_of scope x) (expr_of scope z)
  cond_of scope (y.binary op.Gt x z) = e.compare cmp.Gt (expr_of scope x) (expr_of scope z)
  cond_of scope (y.binary op.Ge x z) = e.compare cmp.Ge (expr_of scope x) (expr_of scope z)
  cond_of scope (y.binary op.And x z) = e.and (cond_of scope x) (cond_of scope z)
  cond_of scope (y.binary op.Or x z) = e.or (cond_of scope x) (cond_of scope z)
  cond_of scope (y.not x) = e.not (cond_of scope x)
  cond_of scope (y.is_null x holds) = e.is_null (expr_of scope x) holds
  cond_of scope (y.is_true x holds) = e.is_true (cond_of scope x) holds
  cond_of scope _ = e.always

-- a missing WHERE is the condition that is always true
abbrev pub where_of : Scope → Option Term → Cond
where_of scope cond = option_map_or (cond_of scope) cond e.always

abbrev pub exprs_of : Scope → Items → List Expr
exprs_of scope y.star = columns_behind 0 (scope_width scope)
exprs_of scope (y.list terms) = map (expr_of scope) terms

abbrev pub number_of_table : List Table → Bytes → ℕ
number_of_table tables name = unwrap_or (place_of name tables) 0

unfoldable pub branch_of : List Table → Block → Branch
branch_of tables block = record {
  from = map (λ (item : Item). number_of_table tables item.table) block.from;
  cond = option_map (cond_of (scope_of tables block.from)) block.cond;
  items = exprs_of (scope_of tables block.from) block.items;
}

abbrev pub select_of : List Table → Query → Select
select_of tables = map (branch_of tables)

abbrev pub column_number : Resolution → ℕ
column_number (Found place) = place.number
column_number _ = 0

abbrev pub set_expr_of : Scope → SetTerm → SetExpr
set_expr_of scope set = record { col = column_number (resolution scope (set_name set)); expr = expr_of scope set.term }

abbrev pub meant_statement : List Table → Command → Statement
meant_statement tables (y.insert table rows) = s.insert (number_of_table tables table) rows
meant_statement tables (y.insert_select table query) = s.insert_select (number_of_table tables table) (select_of tables query)
meant_statement tables (y.update table sets cond) =
    s.update (number_of_table tables table) (map (set_expr_of (target_scope tables table)) sets) (where_of (target_scope tables table) cond)
meant_statement tables (y.delete table cond) = s.delete (number_of_table tables table) (where_of (target_scope tables table) cond)
meant_statement tables (y.select query) = s.read (select_of tables query)
meant_statement tables _ = s.read []
