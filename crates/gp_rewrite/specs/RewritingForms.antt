-- Machinery: rewriting as the code does it: products and unions one by one, if a table is written, with the queries of the tables in a list.
use Rattle.std.specs.Prelude.{ℕ, zero, List, Option, get_or}
use Rattle.std.specs.List.{fold}
use Rattle.std.specs.Option.{option_map}
use Rattle.gp_algebra.specs.Statements.{Branch, Statement, target}
use Rattle.gp_algebra.specs.AnnotatedQueries as q
use Rattle.gp_algebra.specs.AnnotatedQueries.{Query}
use Rattle.gp_rewrite.specs.Rewriting.{branch_of, rewritten}

-- the product of a query and tables, and the union of a query and branches
abbrev pub product_onto : (ℕ → Query) → Query → List ℕ → Query
product_onto tables query others = fold (λ query other. q.product query (tables other)) query others

abbrev pub union_onto : (ℕ → Query) → Query → List Branch → Query
union_onto tables query others = fold (λ query other. q.union query (branch_of tables other)) query others

abbrev pub rewriting : (ℕ → ℕ) → ℕ → ℕ → Statement → (ℕ → Query) → Option Query
rewriting columns t k statement tables = option_map (λ table. rewritten columns t k statement tables) (target statement)

-- the query that stands for each table, from a list in the order of the catalogue
abbrev pub query_at : List Query → ℕ → Query
query_at queries place = get_or queries place (q.scan zero zero)
