-- Of the law `rewritten_statements_mean_the_statements` and of the contract of `query`: a statement as a query of the annotated algebra, which gives the new
-- contents of the table that it writes. An UPDATE is a projection with CASE, a DELETE a selection, an INSERT a union: reenactment (Arab, Gawlick, Krishnaswamy,
-- Radhakrishnan and Glavic, Reenactment for Read-Committed Snapshot Isolation, 2016). The queries of the tables that it reads are a parameter.
use Rattle.std.specs.Prelude.{ℕ, zero, suc, false, List, [], ◌∷◌, Option, Some, None}
use Rattle.std.specs.List.{fold}
use Rattle.gp_base.specs.declared.token.Token.TheVariants.{Updated}
use Rattle.gp_expr.specs.Expressions.{Expr, Cond, col, case, is_true}
use Rattle.gp_algebra.specs.Statements as s
use Rattle.gp_algebra.specs.Statements.{SetExpr, Branch, Select, Statement}
use Rattle.gp_algebra.specs.Effects.{set_for}
use Rattle.gp_algebra.specs.AnnotatedQueries as q
use Rattle.gp_algebra.specs.AnnotatedQueries.{Query}

-- ---- UPDATE and DELETE

-- the new value of a column: every expression reads the old row, and a column that is not set keeps its value
abbrev pub cased : Cond → ℕ → Option Expr → Expr
cased c n None = col n
cased c n (Some e) = case c e (col n)

-- those of the next columns, this many
abbrev pub updated_from : List SetExpr → Cond → ℕ → ℕ → List Expr
updated_from sets c n zero = []
updated_from sets c n (suc more) = cased c (suc n) (set_for (suc n) sets) ∷ updated_from sets c (suc n) more

abbrev pub update_query : ℕ → ℕ → ℕ → List SetExpr → Cond → Query → Query
update_query width t k sets c query = q.project query (updated_from sets c 0 width) (Some (record { cond = c; token = Updated t k }))

-- a row stays where the condition is false or unknown
abbrev pub delete_query : Cond → Query → Query
delete_query c query = q.select query (is_true c false)

-- ---- queries

-- every choice of one row from each table: products nest to the left, and a branch has a table at least
abbrev pub product_of : (ℕ → Query) → List ℕ → Query
product_of tables [] = q.scan zero zero
product_of tables (table ∷ others) = fold (λ query other. q.product query (tables other)) (tables table) others

abbrev pub selected_by : Option Cond → Query → Query
selected_by None query = query
selected_by (Some c) query = q.select query c

abbrev pub branch_of : (ℕ → Query) → Branch → Query
branch_of tables branch = q.project (selected_by branch.cond (product_of tables branch.from)) branch.items None

-- the rows of a query: unions nest to the left, and a query has a branch at least
abbrev pub query_of : (ℕ → Query) → Select → Query
query_of tables [] = q.scan zero zero
query_of tables (branch ∷ others) = fold (λ query other. q.union query (branch_of tables other)) (branch_of tables branch) others

-- ---- INSERT

-- the rows that branches make, the first of which has this number, after those of a query
abbrev pub made_onto : ℕ → ℕ → ℕ → (ℕ → Query) → Query → List Branch → Query
made_onto t k b tables query [] = query
made_onto t k b tables query (branch ∷ others) = made_onto t k (suc b) tables (q.union query (q.new_rows t k b (branch_of tables branch))) others

abbrev pub made_of : ℕ → ℕ → (ℕ → Query) → Select → Query
made_of t k tables [] = q.scan zero zero
made_of t k tables (branch ∷ others) = made_onto t k 2 tables (q.new_rows t k 1 (branch_of tables branch)) others

-- ---- statements

-- the new contents of its table, given the number of columns of each table; a SELECT writes none
abbrev pub rewritten : (ℕ → ℕ) → ℕ → ℕ → Statement → (ℕ → Query) → Query
rewritten columns t k (s.insert table rows) tables = q.union (tables table) (q.given t k rows)
rewritten columns t k (s.insert_select table select) tables = q.union (tables table) (made_of t k tables select)
rewritten columns t k (s.update table sets c) tables = update_query (columns table) t k sets c (tables table)
rewritten columns t k (s.delete table c) tables = delete_query c (tables table)
rewritten columns t k (s.read select) tables = q.scan zero zero
