-- Of the contracts of `run` (gp_exec) and `merge` (gp_merge), and of the law `plain_programs_are_well_built` (gp_prov): when a plain program is well built: its
-- steps rise and read earlier steps only, its conditions are simple, and new identities are made in the projections of INSERT steps alone.
use Rattle.std.specs.Prelude.{ℕ, nat_lt, ◌==◌, Bool, true, false, ◌&&◌, List, [], ◌∷◌}
use Rattle.std.specs.List.{list_all, list_any}
use Rattle.gp_expr.specs.Expressions as e
use Rattle.gp_expr.specs.Expressions.{Expr, Parts}
use Rattle.gp_expr.specs.ExpressionForms.{cond_is_simple}
use Rattle.gp_algebra.specs.Plain.{Plain, scan, step, select, project, product, union, given, publish, PlainStep, PlainProgram}

-- provenance is multiplied, and no identity is made
abbrev pub makes_no_identity : Expr → Bool
makes_no_identity (e.col n) = true
makes_no_identity (e.constant x) = true
makes_no_identity (e.add a b) = makes_no_identity a && makes_no_identity b
makes_no_identity (e.sub a b) = makes_no_identity a && makes_no_identity b
makes_no_identity (e.mul a b) = makes_no_identity a && makes_no_identity b
makes_no_identity (e.neg a) = makes_no_identity a
makes_no_identity (e.case c a b) = cond_is_simple c && (makes_no_identity a && makes_no_identity b)
makes_no_identity (e.new_id t k b parts) = false
makes_no_identity (e.times a b) = makes_no_identity a && makes_no_identity b

abbrev pub parts_make_no_identity : Parts → Bool
parts_make_no_identity e.no_parts = true
parts_make_no_identity (e.part a others) = makes_no_identity a && parts_make_no_identity others

-- an expression that may be a new identity as a whole
abbrev pub may_be_identity : Expr → Bool
may_be_identity (e.new_id t k b parts) = parts_make_no_identity parts
may_be_identity e = makes_no_identity e

-- one of these numbers
abbrev pub is_among : List ℕ → ℕ → Bool
is_among numbers j = list_any (λ i. i == j) numbers

-- a query that makes no identities and reads these steps only
abbrev pub query_is_built : List ℕ → Plain → Bool
query_is_built earlier (scan table version) = true
query_is_built earlier (step j) = is_among earlier j
query_is_built earlier (select query c) = query_is_built earlier query && cond_is_simple c
query_is_built earlier (project query exprs) = query_is_built earlier query && list_all makes_no_identity exprs
query_is_built earlier (product left right) = query_is_built earlier left && query_is_built earlier right
query_is_built earlier (union left right) = query_is_built earlier left && query_is_built earlier right
query_is_built earlier (given rows) = true
query_is_built earlier (publish at base mine later) = query_is_built earlier base && (query_is_built earlier mine && query_is_built earlier later)

-- rows that are appended: new identities are made in projections that only unions are above
abbrev pub rows_are_built : List ℕ → Plain → Bool
rows_are_built earlier (union left right) = rows_are_built earlier left && rows_are_built earlier right
rows_are_built earlier (project query exprs) = query_is_built earlier query && list_all may_be_identity exprs
rows_are_built earlier query = query_is_built earlier query

-- the query of a step: that of an INSERT step is a union
abbrev pub step_is_built : List ℕ → Plain → Bool
step_is_built earlier (union left right) = rows_are_built earlier left && rows_are_built earlier right
step_is_built earlier query = query_is_built earlier query

-- this number is above all of these
abbrev pub is_above : List ℕ → ℕ → Bool
is_above earlier j = list_all (λ i. nat_lt i j) earlier

abbrev pub steps_are_built : List ℕ → List PlainStep → Bool
steps_are_built earlier [] = true
steps_are_built earlier (first ∷ others) = is_above earlier first.j && (step_is_built earlier first.query && steps_are_built (first.j ∷ earlier) others)

abbrev pub numbers_after : List ℕ → List PlainStep → List ℕ
numbers_after earlier [] = earlier
numbers_after earlier (first ∷ others) = numbers_after (first.j ∷ earlier) others

abbrev pub is_well_built : PlainProgram → Bool
is_well_built program = steps_are_built [] program.steps && query_is_built (numbers_after [] program.steps) program.last
