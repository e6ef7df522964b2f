-- Rewritten statements and queries are in range, if they fit the catalogue, join few tables, and the queries of its tables are.
use Rattle.gp_explain.proofs.Prelude.{◌≡◌, ◌≤◌, ◌<◌, ℕ, zero, suc, ◌+◌, ◌*◌, Bool, true, false, cond, List, [], ◌∷◌, length, arith, Option, Some, None, ◌&&◌, ◌==◌, ◌^◌, nat_lt, AllByRecursion, list_all, ltb-true, Cell, Table, AreInRange, is_user_cell, MAX_COLUMNS, Expr, Cond, SetExpr, Branch, Select, Statement, insert, insert_select, update, delete, read, width_of, set_for, is_countable, is_there, is_column, joined_width, expr_fits, cond_fits, optional_cond_fits, row_fits, set_fits, branch_fits, branches_fit, select_width, select_fits, statement_fits, Query, branch_of, cased, made_of, made_onto, query_of, rewritten, selected_by, updated_from, product_onto, union_onto, IsU32, HasFewTables, StatementIsSmall, left_true, right_true}
use Rattle.gp_grammar.specs.declared.limits.TheConstants.{MAX_FROM}
use Rattle.gp_algebra.specs.AnnotatedQueries as q
use Rattle.gp_rewrite.specs.Rewriting.{product_of}
use Rattle.gp_explain.proofs.PlainRanges.{AnnotatedInRange, IsNarrow, reach, reach-append, widths}
use Rattle.gp_explain.proofs.SubstitutionRanges.{IsFree, CondIsFree, all_free, chosen_range, fit_free, fit_cond_free, users_range}

-- ---- the columns of an UPDATE

abbrev SetIsFree : Option Expr → Type 0
SetIsFree None = Unit {0}
SetIsFree (Some x) = IsFree x

module _ (width : ℕ) where
  set_free : (n : ℕ) (sets : List SetExpr) → list_all (set_fits width) sets ≡ true → SetIsFree (set_for n sets)
  set_free n [] so = tt
  set_free n (set ∷ sets) so = go (set.col == n) (set_free n sets (right_true (set_fits width set) (list_all (set_fits width) sets) so))
    where
      go : (b : Bool) → SetIsFree (set_for n sets) → SetIsFree (cond b (Some set.expr) (set_for n sets))
      go true others = fit_free width set.expr (right_true (is_column width set.col) (expr_fits width set.expr) (left_true (set_fits width set) (list_all (set_fits width) sets) so))
      go false others = others

  cased_free : (c : Cond) (n : ℕ) (o : Option Expr) → CondIsFree c → SetIsFree o → IsFree (cased c n o)
  cased_free c n None free so inner all = chosen_range inner all n
  cased_free c n (Some x) free so inner all = (free inner all, (so inner all, chosen_range inner all n))

  updated_free : (sets : List SetExpr) (c : Cond) (n more : ℕ) → CondIsFree c → list_all (set_fits width) sets ≡ true → AllByRecursion IsFree (updated_from sets c n more)
  updated_free sets c n zero free so = tt
  updated_free sets c n (suc more) free so = (cased_free c (suc n) (set_for (suc n) sets) free (set_free (suc n) sets so), updated_free sets c (suc n) more free so)

-- ---- lists that can be numbered

countable : {X : Type 0} (xs : List X) → is_countable xs ≡ true → 1 + length xs ≤ 0x1_0000_0000
countable xs so =
    let few : length xs < 2 ^ 32 = ltb-true (length xs) (2 ^ 32) (right_true (nat_lt 0 (length xs)) (nat_lt (length xs) (2 ^ 32)) so) in omega (arith, few)

rows_range : (width : ℕ) (rows : List (List Cell)) → list_all (row_fits width) rows ≡ true → AllByRecursion AreInRange rows
rows_range width [] fit = tt
rows_range width (row ∷ rows) fit = (
  users_range row (right_true (length row == width) (list_all is_user_cell row) (left_true (row_fits width row) (list_all (row_fits width) rows) fit)),
  rows_range width rows (right_true (row_fits width row) (list_all (row_fits width) rows) fit),
)

-- ---- queries and statements

module _ (catalogue : List Table) (few : (table : ℕ) → width_of catalogue table ≤ MAX_COLUMNS) (of_step : ℕ → ℕ) (prov : Bool) where
  abbrev pub InRange : Query → Type 0
  InRange query = AnnotatedInRange (width_of catalogue) of_step prov query

  -- how far its columns reach
  abbrev pub far : Query → ℕ
  far query = reach (widths (width_of catalogue) of_step prov query)

  module _ (tables : ℕ → Query) (are : (table : ℕ) → InRange (tables table)) (one : (table : ℕ) → far (tables table) ≤ 19) where
    onto_range : (others : List ℕ) (query : Query) → InRange query → InRange (product_onto tables query others)
    onto_range [] query so = so
    onto_range (table ∷ others) query so = onto_range others (q.product query (tables table)) (so, are table)

    onto_far : (others : List ℕ) (query : Query) → far (product_onto tables query others) ≤ far query + 19 * length others
    onto_far [] query = omega arith
    onto_far (table ∷ others) query =
        let rest = onto_far others (q.product query (tables table)) in
        let here = reach-append (widths (width_of catalogue) of_step prov query) (widths (width_of catalogue) of_step prov (tables table)) in
        let own = one table in
        omega (arith, rest, here, own)

    product_range : (from : List ℕ) → InRange (product_of tables from)
    product_range [] = omega arith
    product_range (table ∷ others) = onto_range others (tables table) (are table)

    product_narrow : (from : List ℕ) → length from ≤ MAX_FROM → IsNarrow (widths (width_of catalogue) of_step prov (product_of tables from))
    product_narrow [] short = let own = few zero in omega (arith, own)
    product_narrow (table ∷ others) short = let own = one table in let all = onto_far others (tables table) in omega (arith, own, all, short)

    selected_range : (width : ℕ) (o : Option Cond) (query : Query) → optional_cond_fits width o ≡ true → InRange query → IsNarrow (widths (width_of catalogue) of_step prov query)
        → InRange (selected_by o query)
    selected_range width None query fits so narrow = so
    selected_range width (Some c) query fits so narrow = (so, (narrow, fit_cond_free width c fits))

    selected_narrow : (o : Option Cond) (query : Query) → IsNarrow (widths (width_of catalogue) of_step prov query)
        → IsNarrow (widths (width_of catalogue) of_step prov (selected_by o query))
    selected_narrow None query narrow = narrow
    selected_narrow (Some c) query narrow = narrow

    branch_range : (width : ℕ) (branch : Branch) → branch_fits catalogue width branch ≡ true → length branch.from ≤ MAX_FROM → InRange (branch_of tables branch)
    branch_range width branch fits short =
        let inner = joined_width catalogue branch.from in
        let items = list_all (expr_fits inner) branch.items in
        let last : Bool = items && optional_cond_fits inner branch.cond in
        let same : Bool = (length branch.items == width) && last in
        let some : Bool = nat_lt 0 (length branch.items) && same in
        let there : Bool = list_all (is_there catalogue) branch.from && some in
        let beyond : there ≡ true = right_true (nat_lt 0 (length branch.from)) there fits in
        let shown : some ≡ true = right_true (list_all (is_there catalogue) branch.from) some beyond in
        let ends : last ≡ true = right_true (length branch.items == width) last (right_true (nat_lt 0 (length branch.items)) same shown) in
        let narrow = product_narrow branch.from short in (
          selected_range inner branch.cond (product_of tables branch.from) (right_true items (optional_cond_fits inner branch.cond) ends) (product_range branch.from) narrow,
          (
            selected_narrow branch.cond (product_of tables branch.from) narrow,
            (all_free inner branch.items (left_true items (optional_cond_fits inner branch.cond) ends), tt),
          ),
        )

    union_range : (width : ℕ) (branches : List Branch) (query : Query) → InRange query → list_all (branch_fits catalogue width) branches ≡ true → HasFewTables branches
        → InRange (union_onto tables query branches)
    union_range width [] query so fit short = so
    union_range width (branch ∷ branches) query so fit short =
        let here = left_true (branch_fits catalogue width branch) (list_all (branch_fits catalogue width) branches) fit in
        union_range width branches (q.union query (branch_of tables branch)) (so, branch_range width branch here short.0)
        (right_true (branch_fits catalogue width branch) (list_all (branch_fits catalogue width) branches) fit) short.1

    branches_range : (width : ℕ) (select : Select) → branches_fit catalogue width select ≡ true → HasFewTables select → InRange (query_of tables select)
    branches_range width [] fits short = omega arith
    branches_range width (branch ∷ branches) fits short =
        let all = right_true (is_countable (branch ∷ branches)) (list_all (branch_fits catalogue width) (branch ∷ branches)) fits in
        let here = left_true (branch_fits catalogue width branch) (list_all (branch_fits catalogue width) branches) all in
        union_range width branches (branch_of tables branch) (branch_range width branch here short.0)
        (right_true (branch_fits catalogue width branch) (list_all (branch_fits catalogue width) branches) all) short.1

    pub query_range : (select : Select) → select_fits catalogue select ≡ true → HasFewTables select → InRange (query_of tables select)
    query_range select fits short = branches_range (select_width select) select fits short

    module _ (t k : ℕ) (of_transaction : IsU32 t) (of_statement : IsU32 k) where
      made_onto_range : (b width : ℕ) (branches : List Branch) (query : Query) → b + length branches ≤ 0x1_0000_0000 → InRange query
          → list_all (branch_fits catalogue width) branches ≡ true → HasFewTables branches → InRange (made_onto t k b tables query branches)
      made_onto_range b width [] query count so fit short = so
      made_onto_range b width (branch ∷ branches) query count so fit short =
          let here = left_true (branch_fits catalogue width branch) (list_all (branch_fits catalogue width) branches) fit in
          let number : IsU32 b = omega (arith, count) in
          made_onto_range (suc b) width branches (q.union query (q.new_rows t k b (branch_of tables branch))) (omega (arith, count))
          (so, ((of_transaction, (of_statement, number)), branch_range width branch here short.0))
          (right_true (branch_fits catalogue width branch) (list_all (branch_fits catalogue width) branches) fit) short.1

      made_range : (width : ℕ) (select : Select) → branches_fit catalogue width select ≡ true → HasFewTables select → InRange (made_of t k tables select)
      made_range width [] fits short = omega arith
      made_range width (branch ∷ branches) fits short =
          let all = right_true (is_countable (branch ∷ branches)) (list_all (branch_fits catalogue width) (branch ∷ branches)) fits in
          let here = left_true (branch_fits catalogue width branch) (list_all (branch_fits catalogue width) branches) all in
          let count = countable (branch ∷ branches) (left_true (is_countable (branch ∷ branches)) (list_all (branch_fits catalogue width) (branch ∷ branches)) fits) in
          made_onto_range 2 width branches (q.new_rows t k 1 (branch_of tables branch)) (omega (arith, count))
          ((of_transaction, (of_statement, omega arith)), branch_range width branch here short.0)
          (right_true (branch_fits catalogue width branch) (list_all (branch_fits catalogue width) branches) all) short.1

      table_narrow : (table : ℕ) → IsNarrow (widths (width_of catalogue) of_step prov (tables table))
      table_narrow table = let own = one table in omega (arith, own)

      -- the query of a step; that of a SELECT is in range too
      pub rewritten_range : (statement : Statement) → statement_fits catalogue statement ≡ true → StatementIsSmall statement
          → InRange (rewritten (width_of catalogue) t k statement tables)
      rewritten_range (insert table rows) fits small =
          let fit = list_all (row_fits (width_of catalogue table)) rows in
          let inner : (is_countable rows && fit) ≡ true = right_true (is_there catalogue table) (is_countable rows && fit) fits in
          (are table, ((of_transaction, of_statement), (countable rows (left_true (is_countable rows) fit inner), rows_range (width_of catalogue table) rows (right_true (is_countable rows) fit inner))))
      rewritten_range (insert_select table select) fits small =
          (are table, made_range (width_of catalogue table) select (right_true (is_there catalogue table) (branches_fit catalogue (width_of catalogue table) select) fits) small)
      rewritten_range (update table sets c) fits small =
          let width = width_of catalogue table in
          let fit = list_all (set_fits width) sets in
          let inner : (fit && cond_fits width c) ≡ true = right_true (is_there catalogue table) (fit && cond_fits width c) fits in
          let free = fit_cond_free width c (right_true fit (cond_fits width c) inner) in
          (are table, (table_narrow table, (updated_free width sets c 0 width free (left_true fit (cond_fits width c) inner), (free, (of_transaction, of_statement)))))
      rewritten_range (delete table c) fits small =
          let width = width_of catalogue table in
          (are table, (table_narrow table, fit_cond_free width c (right_true (is_there catalogue table) (cond_fits width c) fits)))
      rewritten_range (read select) fits small = omega arith
