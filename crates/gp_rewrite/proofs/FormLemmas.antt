-- Rewritten statements and queries have the forms that a program needs.
use Rattle.std.proofs.Common.{◌≡◌, ℕ, zero, suc, true, List, [], ◌∷◌, length, refl, sym, ap, subst, Option, Some, None}
use Rattle.std.specs.List.{AllByRecursion}
use Rattle.gp_base.specs.declared.cell.Cell.{Cell}
use Rattle.gp_base.specs.declared.table.Table.{Table}
use Rattle.gp_expr.specs.Expressions.{Cond}
use Rattle.gp_algebra.specs.Statements.{SetExpr, Branch, Select, Statement, insert, insert_select, update, delete, read, target, width_of}
use Rattle.gp_algebra.specs.Fitting.{select_fits, select_width, statement_fits}
use Rattle.gp_algebra.specs.AnnotatedQueries as q
use Rattle.gp_algebra.specs.AnnotatedQueries.{Query}
use Rattle.gp_algebra.specs.QueryForms.{AreNew, AreWide, IsAnswer, IsJoin, IsSomeTable, IsSource, IsStep, IsTable}
use Rattle.gp_rewrite.specs.Rewriting.{branch_of, made_of, made_onto, product_of, query_of, rewritten, selected_by, updated_from}
use Rattle.gp_rewrite.specs.RewritingForms.{product_onto, union_onto}
use Rattle.gp_rewrite.proofs.FitLemmas.{AreFit, IsFit, given_are_wide, inserted_are_fit, select_is_fit}
use Rattle.std.proofs.lemmas.Option.{none-some, same_Some}

updated_long : (sets : List SetExpr) (c : Cond) (n more : ℕ) → length (updated_from sets c n more) ≡ more
updated_long sets c n zero = refl
updated_long sets c n (suc more) = ap suc (updated_long sets c (suc n) more)

module _ (columns of_step : ℕ → ℕ) where
  rows_are_wide : (width : ℕ) (rows : List (List Cell)) → AllByRecursion (λ row. length row ≡ width) rows → AreWide columns of_step width rows
  rows_are_wide width [] a = tt
  rows_are_wide width (row ∷ rows) a = (a.0, rows_are_wide width rows a.1)

  join_of_table : (query : Query) → IsSomeTable columns of_step query → IsJoin columns of_step query
  join_of_table (q.product left right) s = absurd s.1
  join_of_table (q.scan table version) s = s
  join_of_table (q.step j) s = s
  join_of_table (q.select query c) s = s
  join_of_table (q.project query exprs change) s = s
  join_of_table (q.union left right) s = s
  join_of_table (q.given t k rows) s = s
  join_of_table (q.new_rows t k b query) s = s
  join_of_table (q.publish base mine later) s = s

  source_of_join : (query : Query) → IsJoin columns of_step query → IsSource columns of_step query
  source_of_join (q.select query c) s = join_of_table query s
  source_of_join (q.product left right) s = s
  source_of_join (q.scan table version) s = s
  source_of_join (q.step j) s = s
  source_of_join (q.project query exprs change) s = s
  source_of_join (q.union left right) s = s
  source_of_join (q.given t k rows) s = s
  source_of_join (q.new_rows t k b query) s = s
  source_of_join (q.publish base mine later) s = s

  module _ (tables : ℕ → Query) (are : (table : ℕ) → IsTable columns of_step table (tables table)) where
    onto_joins : (others : List ℕ) (query : Query) → IsJoin columns of_step query → IsJoin columns of_step (product_onto tables query others)
    onto_joins [] query s = s
    onto_joins (table ∷ others) query s = onto_joins others (q.product query (tables table)) (s, (table, are table))

    selected_source : (o : Option Cond) (query : Query) → IsJoin columns of_step query → IsSource columns of_step (selected_by o query)
    selected_source None query s = source_of_join query s
    selected_source (Some c) query s = s

    branch_source : (width : ℕ) (branch : Branch) → IsFit width branch → IsSource columns of_step (selected_by branch.cond (product_of tables branch.from))
    branch_source width branch fit =
        subst (λ from. IsSource columns of_step (selected_by branch.cond (product_of tables from))) (sym fit.from)
        (selected_source branch.cond (product_onto tables (tables fit.first) fit.others) (onto_joins fit.others (tables fit.first) (join_of_table (tables fit.first) (fit.first, are fit.first))))

    -- ---- the rows that an INSERT appends

    onto_new : (t k b table : ℕ) (branches : List Branch) (query : Query) → AreNew columns of_step table query → AllByRecursion (IsFit (columns table)) branches → AreNew columns of_step table (made_onto t k b tables query branches)
    onto_new t k b table [] query s a = s
    onto_new t k b table (branch ∷ branches) query s a =
        onto_new t k (suc b) table branches (q.union query (q.new_rows t k b (branch_of tables branch))) (s, (branch_source (columns table) branch a.0, a.0.items)) a.1

    made_new : (t k table : ℕ) (select : Select) → AreFit (columns table) select → AreNew columns of_step table (made_of t k tables select)
    made_new t k table [] fit = absurd fit
    made_new t k table (branch ∷ branches) fit = onto_new t k 2 table branches (q.new_rows t k 1 (branch_of tables branch)) (branch_source (columns table) branch fit.0, fit.0.items) fit.1

    -- ---- the branches of a query

    onto_answers : (width : ℕ) (branches : List Branch) (query : Query) → IsAnswer columns of_step query → AllByRecursion (IsFit width) branches → IsAnswer columns of_step (union_onto tables query branches)
    onto_answers width [] query s a = s
    onto_answers width (branch ∷ branches) query s a = onto_answers width branches (q.union query (branch_of tables branch)) (s, branch_source width branch a.0) a.1

    fit_answers : (width : ℕ) (select : Select) → AreFit width select → IsAnswer columns of_step (query_of tables select)
    fit_answers width [] fit = absurd fit
    fit_answers width (branch ∷ branches) fit = onto_answers width branches (branch_of tables branch) (branch_source width branch fit.0) fit.1

module _ (catalogue : List Table) (of_step : ℕ → ℕ) (tables : ℕ → Query) (are : (table : ℕ) → IsTable (width_of catalogue) of_step table (tables table)) where
  abbrev IsOf : ℕ → ℕ → Statement → ℕ → Type 0
  IsOf t k statement table = IsStep (width_of catalogue) of_step table (rewritten (width_of catalogue) t k statement tables)

  -- a rewritten statement is a step of the table that it writes
  pub rewritten_step : (t k table : ℕ) (statement : Statement) → statement_fits catalogue statement ≡ true → target statement ≡ Some table → IsOf t k statement table
  rewritten_step t k table (insert written rows) fits e =
      subst (IsOf t k (insert written rows)) (same_Some written table e) (are written, rows_are_wide (width_of catalogue) of_step (width_of catalogue written) rows (given_are_wide catalogue written rows fits))
  rewritten_step t k table (insert_select written select) fits e =
      subst (IsOf t k (insert_select written select)) (same_Some written table e) (are written, made_new (width_of catalogue) of_step tables are t k written select (inserted_are_fit catalogue written select fits))
  rewritten_step t k table (update written sets c) fits e = subst (IsOf t k (update written sets c)) (same_Some written table e) (are written, updated_long sets c 0 (width_of catalogue written))
  rewritten_step t k table (delete written c) fits e = subst (IsOf t k (delete written c)) (same_Some written table e) (are written)
  rewritten_step t k table (read select) fits e = absurd (none-some table e)

  -- a query is an answer
  pub query_answers : (select : Select) → select_fits catalogue select ≡ true → IsAnswer (width_of catalogue) of_step (query_of tables select)
  query_answers select fits = fit_answers (width_of catalogue) of_step tables are (select_width select) select (select_is_fit catalogue select fits)
