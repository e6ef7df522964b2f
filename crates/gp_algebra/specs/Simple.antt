-- Of the contract of `choose` (gp_exec) and of the law `fitting_queries_are_simple`: queries that compute neither identities nor provenance, as every query of
-- a user.
use Rattle.std.specs.Prelude.{◌^◌, nat_lt, Bool, true, ◌&&◌, length, Option, Some, None}
use Rattle.std.specs.List.{list_all}
use Rattle.gp_expr.specs.Expressions.{Cond}
use Rattle.gp_expr.specs.ExpressionForms.{is_simple, cond_is_simple}
use Rattle.gp_algebra.specs.Statements.{Branch, Select}

abbrev pub where_is_simple : Option Cond → Bool
where_is_simple None = true
where_is_simple (Some c) = cond_is_simple c

abbrev pub branch_is_simple : Branch → Bool
branch_is_simple branch = list_all is_simple branch.items && where_is_simple branch.cond

-- its expressions are simple, and its branches can be numbered by 32 bits
abbrev pub select_is_simple : Select → Bool
select_is_simple select = nat_lt (length select) (2 ^ 32) && list_all branch_is_simple select
