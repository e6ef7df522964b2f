-- Of the contracts of `looks_of` and `meets`: the looks of the code as those of the history machine.
use Rattle.std.specs.Prelude.{◌≡◌, true, List, [], length, map, Option}
use Rattle.std.specs.List.{AllByRecursion}
use Rattle.std.specs.Option.{option_map, option_map_or}
use Rattle.gp_expr.specs.ExpressionForms.{cond_is_simple, is_simple}
use Rattle.gp_expr.specs.Expressions as e
use Rattle.gp_expr.specs.Views.{cond_view, expr_view}
use Rattle.gp_expr.specs.declared.expr.Cond.{Cond}
use Rattle.gp_expr.specs.declared.expr.Expr.{Expr}
use Rattle.gp_algebra.specs.declared.statement.SetExpr.{SetExpr}
use Rattle.gp_algebra.specs.declared.statement.Branch.{Branch}
use Rattle.gp_machine.specs.Looks as m
use Rattle.gp_machine.specs.Looks.{members}
use Rattle.gp_serial.specs.declared.looks.Look.{Look}

abbrev pub look_view : Look → m.Look
look_view look = record { table = look.table; before = length look.before.items; conds = map (λ c. cond_view c.now) look.conds.items; columns = look.columns.items }

-- the members of a WHERE
abbrev pub members_of : Option Cond → List e.Cond
members_of cond = option_map_or members (option_map cond_view cond) []

-- the condition of a WHERE is simple, as those of checked statements are
abbrev pub IsSimpleWhere : Option Cond → Type 0
IsSimpleWhere cond = option_map_or (λ c. cond_is_simple (cond_view c)) cond true ≡ true

-- and so are the terms of a SELECT, and those of assignments
abbrev pub AreSimpleItems : List Expr → Type 0
AreSimpleItems = AllByRecursion (λ (expr : Expr). is_simple (expr_view expr) ≡ true)

abbrev pub AreSimpleSets : List SetExpr → Type 0
AreSimpleSets = AllByRecursion (λ (set : SetExpr). is_simple (expr_view set.expr) ≡ true)

abbrev pub IsSimpleBranch : Branch → Type 0
IsSimpleBranch branch = IsSimpleWhere branch.cond × AreSimpleItems branch.items

abbrev pub AreSimpleBranches : List Branch → Type 0
AreSimpleBranches = AllByRecursion IsSimpleBranch
