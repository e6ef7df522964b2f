-- Rewritten statements and queries read the steps that the queries of the tables read.
use Rattle.std.proofs.Common.{◌≡◌, ℕ, suc, true, List, [], ◌∷◌, refl, Option, Some, None}
use Rattle.gp_expr.specs.Expressions.{Cond}
use Rattle.gp_algebra.specs.Statements.{Branch, Select, Statement, insert, insert_select, update, delete, read}
use Rattle.gp_algebra.specs.AnnotatedQueries as q
use Rattle.gp_algebra.specs.AnnotatedQueries.{Query}
use Rattle.gp_algebra.specs.QueryForms.{reads_only}
use Rattle.gp_rewrite.specs.Rewriting.{branch_of, made_of, made_onto, product_of, query_of, rewritten, selected_by}
use Rattle.gp_rewrite.specs.RewritingForms.{product_onto, union_onto}
use Rattle.std.proofs.lemmas.Bool.{and_from}

module _ (earlier : List ℕ) (tables : ℕ → Query) (are : (table : ℕ) → reads_only earlier (tables table) ≡ true) where
  onto_reads : (others : List ℕ) (query : Query) → reads_only earlier query ≡ true → reads_only earlier (product_onto tables query others) ≡ true
  onto_reads [] query s = s
  onto_reads (table ∷ others) query s = onto_reads others (q.product query (tables table)) (and_from (reads_only earlier query) (reads_only earlier (tables table)) s (are table))

  product_reads : (from : List ℕ) → reads_only earlier (product_of tables from) ≡ true
  product_reads [] = refl
  product_reads (table ∷ others) = onto_reads others (tables table) (are table)

  selected_reads : (o : Option Cond) (query : Query) → reads_only earlier query ≡ true → reads_only earlier (selected_by o query) ≡ true
  selected_reads None query s = s
  selected_reads (Some c) query s = s

  branch_reads : (branch : Branch) → reads_only earlier (branch_of tables branch) ≡ true
  branch_reads branch = selected_reads branch.cond (product_of tables branch.from) (product_reads branch.from)

  union_reads : (branches : List Branch) (query : Query) → reads_only earlier query ≡ true → reads_only earlier (union_onto tables query branches) ≡ true
  union_reads [] query s = s
  union_reads (branch ∷ branches) query s = union_reads branches (q.union query (branch_of tables branch)) (and_from (reads_only earlier query) (reads_only earlier (branch_of tables branch)) s (branch_reads branch))

  pub query_reads : (select : Select) → reads_only earlier (query_of tables select) ≡ true
  query_reads [] = refl
  query_reads (branch ∷ branches) = union_reads branches (branch_of tables branch) (branch_reads branch)

  made_onto_reads : (t k b : ℕ) (branches : List Branch) (query : Query) → reads_only earlier query ≡ true → reads_only earlier (made_onto t k b tables query branches) ≡ true
  made_onto_reads t k b [] query s = s
  made_onto_reads t k b (branch ∷ branches) query s =
      made_onto_reads t k (suc b) branches (q.union query (q.new_rows t k b (branch_of tables branch))) (and_from (reads_only earlier query) (reads_only earlier (branch_of tables branch)) s (branch_reads branch))

  made_reads : (t k : ℕ) (select : Select) → reads_only earlier (made_of t k tables select) ≡ true
  made_reads t k [] = refl
  made_reads t k (branch ∷ branches) = made_onto_reads t k 2 branches (q.new_rows t k 1 (branch_of tables branch)) (branch_reads branch)

  pub rewritten_reads : (columns : ℕ → ℕ) (t k : ℕ) (statement : Statement) → reads_only earlier (rewritten columns t k statement tables) ≡ true
  rewritten_reads columns t k (insert written rows) = and_from (reads_only earlier (tables written)) true (are written) refl
  rewritten_reads columns t k (insert_select written select) = and_from (reads_only earlier (tables written)) (reads_only earlier (made_of t k tables select)) (are written) (made_reads t k select)
  rewritten_reads columns t k (update written sets c) = are written
  rewritten_reads columns t k (delete written c) = are written
  rewritten_reads columns t k (read select) = refl
