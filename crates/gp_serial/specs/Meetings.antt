-- Of the contract of `meets`, as its premises: looks of checked statements.
use Rattle.std.specs.Prelude.{◌≡◌, true, List, length, replicate}
use Rattle.std.specs.Borrow.{Bor}
use Rattle.std.specs.List.{AllByRecursion}
use Rattle.gp_base.specs.declared.cell.Cell.TheVariants as cell
use Rattle.gp_expr.specs.ExpressionForms.{cond_is_simple}
use Rattle.gp_expr.specs.Views.{cond_view}
use Rattle.gp_expr.specs.declared.expr.Cond.{Cond}
use Rattle.gp_serial.specs.declared.looks.Look.{Look}

-- these conditions are simple
abbrev pub AreSimple : List (Bor Cond) → Type 0
AreSimple = AllByRecursion (λ (c : Bor Cond). cond_is_simple (cond_view c.now) ≡ true)

-- its conditions are simple
abbrev pub LooksSimply : Look → Type 0
LooksSimply look = AreSimple look.conds.items

-- the cells that a row stands behind are NULL
abbrev pub HasNulls : Look → Type 0
HasNulls look = look.before.items ≡ replicate (length look.before.items) cell.Null

abbrev pub IsReady : Look → Type 0
IsReady look = LooksSimply look × HasNulls look

abbrev pub AreReady : List Look → Type 0
AreReady = AllByRecursion IsReady
