-- Rewritten statements and queries are shaped, if they fit the catalogue and the queries of its tables are.
use Rattle.gp_explain.proofs.Prelude.{◌≡◌, ◌<◌, ℕ, zero, suc, Bool, true, false, cond, List, [], ◌∷◌, length, refl, subst, arith, Option, Some, None, ◌&&◌, ◌==◌, ◌^◌, nat_lt, nat_le, list_all, false≢true, and_from, nat_tests, Cell, Table, is_user_cell, Expr, Cond, SetExpr, Branch, Select, Statement, insert, insert_select, update, delete, read, target, set_for, is_countable, is_there, is_column, joined_width, expr_fits, cond_fits, optional_cond_fits, row_fits, set_fits, branch_fits, branches_fit, select_width, select_fits, statement_fits, width_of, Query, has_item, branch_of, cased, made_of, made_onto, query_of, rewritten, selected_by, updated_from, product_onto, union_onto, cell_is_shaped, expr_is_shaped, cond_is_shaped, annotated_is_shaped, has_tables, has_sources, all_weaker, left_true, right_true, none-some}
use Rattle.gp_algebra.specs.AnnotatedQueries as q
use Rattle.gp_rewrite.specs.Rewriting.{product_of}
use Rattle.gp_explain.proofs.FittingShapes.{user_cells, fit_shaped, fit_cond_shaped}

some_item : {X : Type 0} (xs : List X) → nat_lt 0 (length xs) ≡ true → has_item xs ≡ true
some_item [] so = so
some_item (x ∷ xs) so = refl

from_one : (n : ℕ) → 0 < n → nat_le 1 n ≡ true
from_one n l = grind (arith, nat_tests)

-- ---- the columns of an UPDATE

abbrev set_is_shaped : Option Expr → Bool
set_is_shaped None = true
set_is_shaped (Some x) = expr_is_shaped x

module _ (width : ℕ) where
  set_shaped : (n : ℕ) (sets : List SetExpr) → list_all (set_fits width) sets ≡ true → set_is_shaped (set_for n sets) ≡ true
  set_shaped n [] so = refl
  set_shaped n (set ∷ sets) so = go (set.col == n) (set_shaped n sets (right_true (set_fits width set) (list_all (set_fits width) sets) so))
    where
      go : (b : Bool) → set_is_shaped (set_for n sets) ≡ true → set_is_shaped (cond b (Some set.expr) (set_for n sets)) ≡ true
      go true others = fit_shaped width set.expr (right_true (is_column width set.col) (expr_fits width set.expr) (left_true (set_fits width set) (list_all (set_fits width) sets) so))
      go false others = others

  cased_shaped : (c : Cond) (n : ℕ) (o : Option Expr) → cond_is_shaped c ≡ true → set_is_shaped o ≡ true → expr_is_shaped (cased c n o) ≡ true
  cased_shaped c n None shaped so = refl
  cased_shaped c n (Some x) shaped so = and_from (cond_is_shaped c) (expr_is_shaped x && true) shaped (and_from (expr_is_shaped x) true so refl)

  updated_shaped : (sets : List SetExpr) (c : Cond) (n more : ℕ) → cond_is_shaped c ≡ true → list_all (set_fits width) sets ≡ true
      → list_all expr_is_shaped (updated_from sets c n more) ≡ true
  updated_shaped sets c n zero shaped so = refl
  updated_shaped sets c n (suc more) shaped so =
      and_from (expr_is_shaped (cased c (suc n) (set_for (suc n) sets))) (list_all expr_is_shaped (updated_from sets c (suc n) more))
      (cased_shaped c (suc n) (set_for (suc n) sets) shaped (set_shaped (suc n) sets so)) (updated_shaped sets c (suc n) more shaped so)

-- ---- queries and statements

module _ (catalogue : List Table) (tables : ℕ → Query) (are : (table : ℕ) → is_there catalogue table ≡ true → annotated_is_shaped catalogue (tables table) ≡ true)
    (have : (table : ℕ) → has_tables (tables table) ≡ true) where
  abbrev shaped : Query → Bool
  shaped query = annotated_is_shaped catalogue query

  onto_shaped : (others : List ℕ) (query : Query) → list_all (is_there catalogue) others ≡ true → shaped query ≡ true → shaped (product_onto tables query others) ≡ true
  onto_shaped [] query there so = so
  onto_shaped (table ∷ others) query there so =
      onto_shaped others (q.product query (tables table)) (right_true (is_there catalogue table) (list_all (is_there catalogue) others) there)
      (and_from (shaped query) (shaped (tables table)) so (are table (left_true (is_there catalogue table) (list_all (is_there catalogue) others) there)))

  onto_have : (others : List ℕ) (query : Query) → has_tables query ≡ true → has_tables (product_onto tables query others) ≡ true
  onto_have [] query so = so
  onto_have (table ∷ others) query so = onto_have others (q.product query (tables table)) so

  product_shaped : (from : List ℕ) → nat_lt 0 (length from) ≡ true → list_all (is_there catalogue) from ≡ true → shaped (product_of tables from) ≡ true
  product_shaped [] some there = absurd (false≢true some)
  product_shaped (table ∷ others) some there =
      onto_shaped others (tables table) (right_true (is_there catalogue table) (list_all (is_there catalogue) others) there)
      (are table (left_true (is_there catalogue table) (list_all (is_there catalogue) others) there))

  product_has : (from : List ℕ) → has_tables (product_of tables from) ≡ true
  product_has [] = refl
  product_has (table ∷ others) = onto_have others (tables table) (have table)

  selected_shaped : (width : ℕ) (o : Option Cond) (query : Query) → optional_cond_fits width o ≡ true → shaped query ≡ true → shaped (selected_by o query) ≡ true
  selected_shaped width None query fits so = so
  selected_shaped width (Some c) query fits so = and_from (shaped query) (cond_is_shaped c) so (fit_cond_shaped width c fits)

  selected_has : (o : Option Cond) (query : Query) → has_tables query ≡ true → has_tables (selected_by o query) ≡ true
  selected_has None query so = so
  selected_has (Some c) query so = so

  branch_shaped : (width : ℕ) (branch : Branch) → branch_fits catalogue width branch ≡ true → shaped (branch_of tables branch) ≡ true
  branch_shaped width branch fits =
      let inner = joined_width catalogue branch.from in
      let items = list_all (expr_fits inner) branch.items in
      let last : Bool = items && optional_cond_fits inner branch.cond in
      let same : Bool = (length branch.items == width) && last in
      let some : Bool = nat_lt 0 (length branch.items) && same in
      let there : Bool = list_all (is_there catalogue) branch.from && some in
      let beyond : there ≡ true = right_true (nat_lt 0 (length branch.from)) there fits in
      let shown : some ≡ true = right_true (list_all (is_there catalogue) branch.from) some beyond in
      let ends : last ≡ true = right_true (length branch.items == width) last (right_true (nat_lt 0 (length branch.items)) same shown) in
      and_from (shaped (selected_by branch.cond (product_of tables branch.from))) (list_all expr_is_shaped branch.items && has_item branch.items)
      (selected_shaped inner branch.cond (product_of tables branch.from) (right_true items (optional_cond_fits inner branch.cond) ends)
      (product_shaped branch.from (left_true (nat_lt 0 (length branch.from)) there fits) (left_true (list_all (is_there catalogue) branch.from) some beyond)))
      (and_from (list_all expr_is_shaped branch.items) (has_item branch.items)
      (all_weaker (expr_fits inner) expr_is_shaped (fit_shaped inner) branch.items (left_true items (optional_cond_fits inner branch.cond) ends))
      (some_item branch.items (left_true (nat_lt 0 (length branch.items)) same shown)))

  union_shaped : (width : ℕ) (branches : List Branch) (query : Query) → shaped query ≡ true → list_all (branch_fits catalogue width) branches ≡ true → shaped (union_onto tables query branches) ≡ true
  union_shaped width [] query so fit = so
  union_shaped width (branch ∷ branches) query so fit =
      let here = left_true (branch_fits catalogue width branch) (list_all (branch_fits catalogue width) branches) fit in
      union_shaped width branches (q.union query (branch_of tables branch)) (and_from (shaped query) (shaped (branch_of tables branch)) so (branch_shaped width branch here))
      (right_true (branch_fits catalogue width branch) (list_all (branch_fits catalogue width) branches) fit)

  branches_shaped : (width : ℕ) (select : Select) → branches_fit catalogue width select ≡ true → shaped (query_of tables select) ≡ true
  branches_shaped width [] fits = absurd (false≢true fits)
  branches_shaped width (branch ∷ branches) fits =
      let all = right_true (is_countable (branch ∷ branches)) (list_all (branch_fits catalogue width) (branch ∷ branches)) fits in
      let here = left_true (branch_fits catalogue width branch) (list_all (branch_fits catalogue width) branches) all in
      union_shaped width branches (branch_of tables branch) (branch_shaped width branch here)
      (right_true (branch_fits catalogue width branch) (list_all (branch_fits catalogue width) branches) all)

  pub query_shaped : (select : Select) → select_fits catalogue select ≡ true → shaped (query_of tables select) ≡ true
  query_shaped select fits = branches_shaped (select_width select) select fits

  module _ (t k : ℕ) (some_transaction : 0 < t) (some_statement : 0 < k) where
    new_shaped : (b width : ℕ) (branch : Branch) → branch_fits catalogue width branch ≡ true → shaped (q.new_rows t k b (branch_of tables branch)) ≡ true
    new_shaped b width branch fits =
        and_from (shaped (branch_of tables branch)) (has_sources (branch_of tables branch)) (branch_shaped width branch fits)
        (selected_has branch.cond (product_of tables branch.from) (product_has branch.from))

    made_onto_shaped : (b width : ℕ) (branches : List Branch) (query : Query) → shaped query ≡ true → list_all (branch_fits catalogue width) branches ≡ true
        → shaped (made_onto t k b tables query branches) ≡ true
    made_onto_shaped b width [] query so fit = so
    made_onto_shaped b width (branch ∷ branches) query so fit =
        let here = left_true (branch_fits catalogue width branch) (list_all (branch_fits catalogue width) branches) fit in
        made_onto_shaped (suc b) width branches (q.union query (q.new_rows t k b (branch_of tables branch)))
        (and_from (shaped query) (shaped (q.new_rows t k b (branch_of tables branch))) so (new_shaped b width branch here))
        (right_true (branch_fits catalogue width branch) (list_all (branch_fits catalogue width) branches) fit)

    made_shaped : (width : ℕ) (select : Select) → branches_fit catalogue width select ≡ true → shaped (made_of t k tables select) ≡ true
    made_shaped width [] fits = absurd (false≢true fits)
    made_shaped width (branch ∷ branches) fits =
        let all = right_true (is_countable (branch ∷ branches)) (list_all (branch_fits catalogue width) (branch ∷ branches)) fits in
        let here = left_true (branch_fits catalogue width branch) (list_all (branch_fits catalogue width) branches) all in
        made_onto_shaped 2 width branches (q.new_rows t k 1 (branch_of tables branch)) (new_shaped 1 width branch here)
        (right_true (branch_fits catalogue width branch) (list_all (branch_fits catalogue width) branches) all)

    rows_shaped : (width : ℕ) (rows : List (List Cell)) → list_all (row_fits width) rows ≡ true → list_all (list_all cell_is_shaped) rows ≡ true
    rows_shaped width rows fit =
        all_weaker (row_fits width) (list_all cell_is_shaped) (λ row e. user_cells row (right_true (length row == width) (list_all is_user_cell row) e)) rows fit

    -- the query of a step; a SELECT makes none
    pub rewritten_shaped : (own : ℕ) (statement : Statement) → target statement ≡ Some own → statement_fits catalogue statement ≡ true
        → shaped (rewritten (width_of catalogue) t k statement tables) ≡ true
    rewritten_shaped own (insert table rows) is fits =
        let fit = list_all (row_fits (width_of catalogue table)) rows in
        let inner : (is_countable rows && fit) ≡ true = right_true (is_there catalogue table) (is_countable rows && fit) fits in
        and_from (shaped (tables table)) (shaped (q.given t k rows)) (are table (left_true (is_there catalogue table) (is_countable rows && fit) fits))
        (and_from (nat_le 1 t) (nat_le 1 k && (has_item rows && list_all (list_all cell_is_shaped) rows)) (from_one t some_transaction)
        (and_from (nat_le 1 k) (has_item rows && list_all (list_all cell_is_shaped) rows) (from_one k some_statement)
        (and_from (has_item rows) (list_all (list_all cell_is_shaped) rows)
        (some_item rows (left_true (nat_lt 0 (length rows)) (nat_lt (length rows) (2 ^ 32)) (left_true (is_countable rows) fit inner)))
        (rows_shaped (width_of catalogue table) rows (right_true (is_countable rows) fit inner)))))
    rewritten_shaped own (insert_select table select) is fits =
        let fit = branches_fit catalogue (width_of catalogue table) select in
        and_from (shaped (tables table)) (shaped (made_of t k tables select)) (are table (left_true (is_there catalogue table) fit fits))
        (made_shaped (width_of catalogue table) select (right_true (is_there catalogue table) fit fits))
    rewritten_shaped own (update table sets c) is fits =
        let width = width_of catalogue table in
        let fit = list_all (set_fits width) sets in
        let inner : (fit && cond_fits width c) ≡ true = right_true (is_there catalogue table) (fit && cond_fits width c) fits in
        let shape : cond_is_shaped c ≡ true = fit_cond_shaped width c (right_true fit (cond_fits width c) inner) in
        and_from (shaped (tables table)) (list_all expr_is_shaped (updated_from sets c 0 width) && cond_is_shaped c) (are table (left_true (is_there catalogue table) (fit && cond_fits width c) fits))
        (and_from (list_all expr_is_shaped (updated_from sets c 0 width)) (cond_is_shaped c) (updated_shaped width sets c 0 width shape (left_true fit (cond_fits width c) inner)) shape)
    rewritten_shaped own (delete table c) is fits =
        let width = width_of catalogue table in
        and_from (shaped (tables table)) (cond_is_shaped c) (are table (left_true (is_there catalogue table) (cond_fits width c) fits))
        (fit_cond_shaped width c (right_true (is_there catalogue table) (cond_fits width c) fits))
    rewritten_shaped own (read select) is fits = absurd (none-some own is)

-- a statement writes a table of the catalogue
pub target_there : (catalogue : List Table) (own : ℕ) (statement : Statement) → target statement ≡ Some own → statement_fits catalogue statement ≡ true → is_there catalogue own ≡ true
target_there catalogue own (insert table rows) is fits =
    let e : table ≡ own = cc in subst (λ n. is_there catalogue n ≡ true) e (left_true (is_there catalogue table) (is_countable rows && list_all (row_fits (width_of catalogue table)) rows) fits)
target_there catalogue own (insert_select table select) is fits =
    let e : table ≡ own = cc in subst (λ n. is_there catalogue n ≡ true) e (left_true (is_there catalogue table) (branches_fit catalogue (width_of catalogue table) select) fits)
target_there catalogue own (update table sets c) is fits =
    let e : table ≡ own = cc in
    subst (λ n. is_there catalogue n ≡ true) e (left_true (is_there catalogue table) (list_all (set_fits (width_of catalogue table)) sets && cond_fits (width_of catalogue table) c) fits)
target_there catalogue own (delete table c) is fits =
    let e : table ≡ own = cc in subst (λ n. is_there catalogue n ≡ true) e (left_true (is_there catalogue table) (cond_fits (width_of catalogue table) c) fits)
target_there catalogue own (read select) is fits = absurd (none-some own is)
