-- Plain programs are shaped, if the annotated ones that they are made of are.
use Rattle.gp_explain.proofs.Prelude.{◌≡◌, ℕ, zero, suc, ◌+◌, Bool, true, false, List, [], ◌∷◌, ◌++◌, map, refl, ◌∙◌, arith, Option, Some, None, ◌&&◌, nat_le, list_all, false≢true, and_from, nat_tests, list_all-append, Cell, Table, Queried, monomials, Expr, Cond, Parts, chosen, substituted, substituted_cond, substituted_parts, substituted_each, Change, Query, QueryStep, Program, given_from, step_table, has_item, has_part, table_is_spellable, encoded_row, noted, system_width, users_from, identities_from, times_from, product_of, changed_columns, new_columns, answer_columns, widths_of, plain_query, plain_last, plain_step, plain_program, columns_behind, cell_is_shaped, expr_is_shaped, cond_is_shaped, parts_are_shaped, row_is_shaped, query_is_shaped, step_is_shaped, is_shaped, has_tables, has_sources, annotated_is_shaped, annotated_step_is_shaped, both_follow, left_true, right_true}
use Rattle.std.specs.Prelude.{get_or}
use Rattle.gp_base.specs.declared.cell.Cell.TheVariants as cell
use Rattle.gp_base.specs.Tokens as m
use Rattle.gp_expr.specs.Expressions as e
use Rattle.gp_algebra.specs.AnnotatedQueries as q
use Rattle.gp_algebra.specs.Plain as p
use Rattle.gp_explain.specs.Shapes.{change_is_shaped}

-- one test follows from another, for both parts

pub all_joined : {X : Type 0} (f : X → Bool) (xs ys : List X) → list_all f xs ≡ true → list_all f ys ≡ true → list_all f (xs ++ ys) ≡ true
all_joined f xs ys all others = list_all-append f xs ys ∙ and_from (list_all f xs) (list_all f ys) all others

item_in_front : {X : Type 0} (xs ys : List X) → has_item xs ≡ true → has_item (xs ++ ys) ≡ true
item_in_front [] ys some = absurd (false≢true some)
item_in_front (x ∷ xs) ys some = refl

item_behind : {X : Type 0} (xs : List X) (y : X) (ys : List X) → has_item (xs ++ y ∷ ys) ≡ true
item_behind [] y ys = refl
item_behind (x ∷ xs) y ys = refl

-- ---- expressions in the place of columns

module _ (inner : List Expr) (all : list_all expr_is_shaped inner ≡ true) where
  at_place : (n : ℕ) (exprs : List Expr) → list_all expr_is_shaped exprs ≡ true → expr_is_shaped (get_or exprs n (e.constant cell.Null)) ≡ true
  at_place n [] so = refl
  at_place zero (x ∷ exprs) so = left_true (expr_is_shaped x) (list_all expr_is_shaped exprs) so
  at_place (suc n) (x ∷ exprs) so = at_place n exprs (right_true (expr_is_shaped x) (list_all expr_is_shaped exprs) so)

  chosen_shaped : (n : ℕ) → expr_is_shaped (chosen n inner) ≡ true
  chosen_shaped zero = refl
  chosen_shaped (suc n) = at_place n inner all

  same_part : (parts : Parts) → has_part (substituted_parts parts inner) ≡ has_part parts
  same_part e.no_parts = refl
  same_part (e.part a others) = refl

  mutual
    pub expr_stays : (x : Expr) → expr_is_shaped x ≡ true → expr_is_shaped (substituted x inner) ≡ true
    expr_stays (e.col n) so = chosen_shaped n
    expr_stays (e.constant cell) so = so
    expr_stays (e.add a b) so = both_follow _ _ _ _ (expr_stays a) (expr_stays b) so
    expr_stays (e.sub a b) so = both_follow _ _ _ _ (expr_stays a) (expr_stays b) so
    expr_stays (e.mul a b) so = both_follow _ _ _ _ (expr_stays a) (expr_stays b) so
    expr_stays (e.neg a) so = expr_stays a so
    expr_stays (e.case c a b) so = both_follow _ _ _ _ (cond_stays c) (both_follow _ _ _ _ (expr_stays a) (expr_stays b)) so
    expr_stays (e.new_id t k b parts) so = both_follow _ _ _ _ (λ some. same_part parts ∙ some) (parts_stay parts) so
    expr_stays (e.times a b) so = both_follow _ _ _ _ (expr_stays a) (expr_stays b) so

    pub cond_stays : (c : Cond) → cond_is_shaped c ≡ true → cond_is_shaped (substituted_cond c inner) ≡ true
    cond_stays e.always so = refl
    cond_stays (e.compare cmp a b) so = both_follow _ _ _ _ (expr_stays a) (expr_stays b) so
    cond_stays (e.is_null a wanted) so = expr_stays a so
    cond_stays (e.is_true c wanted) so = cond_stays c so
    cond_stays (e.and c d) so = both_follow _ _ _ _ (cond_stays c) (cond_stays d) so
    cond_stays (e.or c d) so = both_follow _ _ _ _ (cond_stays c) (cond_stays d) so
    cond_stays (e.not c) so = cond_stays c so

    parts_stay : (parts : Parts) → parts_are_shaped parts ≡ true → parts_are_shaped (substituted_parts parts inner) ≡ true
    parts_stay e.no_parts so = refl
    parts_stay (e.part a others) so = both_follow _ _ _ _ (expr_stays a) (parts_stay others) so

  pub each_stays : (exprs : List Expr) → list_all expr_is_shaped exprs ≡ true → list_all expr_is_shaped (substituted_each exprs inner) ≡ true
  each_stays [] so = refl
  each_stays (x ∷ exprs) so = both_follow _ _ _ _ (expr_stays x) (each_stays exprs) so

  pub same_items : (exprs : List Expr) → has_item (substituted_each exprs inner) ≡ has_item exprs
  same_items [] = refl
  same_items (x ∷ exprs) = refl

-- ---- the columns of projections

columns_shaped : (at width : ℕ) → list_all expr_is_shaped (columns_behind at width) ≡ true
columns_shaped at zero = refl
columns_shaped at (suc more) = columns_shaped (suc at) more

noted_all : {X : Type 0} (f : X → Bool) (prov : Bool) (x : X) → f x ≡ true → list_all f (noted prov x) ≡ true
noted_all f true x so = and_from (f x) true so refl
noted_all f false x so = refl

module _ (prov : Bool) where
  users_shaped : (at : ℕ) (widths : List ℕ) → list_all expr_is_shaped (users_from prov at widths) ≡ true
  users_shaped at [] = refl
  users_shaped at (width ∷ widths) =
      all_joined expr_is_shaped (columns_behind at width) (users_from prov (at + (width + system_width prov)) widths) (columns_shaped at width)
      (users_shaped (at + (width + system_width prov)) widths)

  identities_shaped : (at : ℕ) (widths : List ℕ) → parts_are_shaped (identities_from prov at widths) ≡ true
  identities_shaped at [] = refl
  identities_shaped at (width ∷ widths) = identities_shaped (at + (width + system_width prov)) widths

  identities_some : (at : ℕ) (widths : List ℕ) → has_item widths ≡ true → has_part (identities_from prov at widths) ≡ true
  identities_some at [] some = absurd (false≢true some)
  identities_some at (width ∷ widths) some = refl

  times_shaped : (at : ℕ) (widths : List ℕ) (expr : Expr) → expr_is_shaped expr ≡ true → expr_is_shaped (times_from prov at widths expr) ≡ true
  times_shaped at [] expr so = so
  times_shaped at (width ∷ widths) expr so =
      times_shaped (at + (width + system_width prov)) widths (e.times expr (e.col (suc (suc (suc (at + width)))))) (and_from (expr_is_shaped expr) true so refl)

  monomials_shaped : (widths : List ℕ) → expr_is_shaped (product_of prov widths) ≡ true
  monomials_shaped [] = refl
  monomials_shaped (width ∷ widths) = times_shaped (width + system_width prov) widths (e.col (suc (suc (suc width)))) refl

  module _ (widths : List ℕ) where
    each_shaped : (exprs : List Expr) → list_all expr_is_shaped exprs ≡ true → list_all expr_is_shaped (substituted_each exprs (users_from prov 0 widths)) ≡ true
    each_shaped exprs so = each_stays (users_from prov 0 widths) (users_shaped 0 widths) exprs so

    test_shaped : (c : Cond) → cond_is_shaped c ≡ true → cond_is_shaped (substituted_cond c (users_from prov 0 widths)) ≡ true
    test_shaped c so = cond_stays (users_from prov 0 widths) (users_shaped 0 widths) c so

    -- a projection with at least its system columns
    changed_shaped : (exprs : List Expr) (change : Option Change) → list_all expr_is_shaped exprs ≡ true → change_is_shaped exprs change ≡ true
        → (has_item (changed_columns prov widths exprs change) && list_all expr_is_shaped (changed_columns prov widths exprs change)) ≡ true
    changed_shaped exprs None so change =
        and_from _ _ (item_behind (substituted_each exprs (users_from prov 0 widths)) _ _)
        (all_joined expr_is_shaped (substituted_each exprs (users_from prov 0 widths)) _ (each_shaped exprs so) (noted_all expr_is_shaped prov _ refl))
    changed_shaped exprs (Some change) so test =
        let shape = test_shaped change.cond test in
        and_from _ _ (item_behind (substituted_each exprs (users_from prov 0 widths)) _ _)
        (all_joined expr_is_shaped (substituted_each exprs (users_from prov 0 widths)) _ (each_shaped exprs so)
        (and_from (cond_is_shaped (substituted_cond change.cond (users_from prov 0 widths)) && true) _ (and_from (cond_is_shaped (substituted_cond change.cond (users_from prov 0 widths))) true shape refl)
        (noted_all expr_is_shaped prov _ (and_from (cond_is_shaped (substituted_cond change.cond (users_from prov 0 widths))) true shape refl))))

    new_shaped : (t k b : ℕ) (exprs : List Expr) → list_all expr_is_shaped exprs ≡ true → has_item widths ≡ true
        → (has_item (new_columns prov t k b widths exprs) && list_all expr_is_shaped (new_columns prov t k b widths exprs)) ≡ true
    new_shaped t k b exprs so some =
        and_from _ _ (item_behind (substituted_each exprs (users_from prov 0 widths)) _ _)
        (all_joined expr_is_shaped (substituted_each exprs (users_from prov 0 widths)) _ (each_shaped exprs so)
        (and_from (has_part (identities_from prov 0 widths) && parts_are_shaped (identities_from prov 0 widths)) _
        (and_from (has_part (identities_from prov 0 widths)) (parts_are_shaped (identities_from prov 0 widths)) (identities_some 0 widths some) (identities_shaped 0 widths))
        (noted_all expr_is_shaped prov _ (times_shaped 0 widths (e.constant (cell.Mono (m.once (Queried t k)))) refl))))

    answer_shaped : (exprs : List Expr) → list_all expr_is_shaped exprs ≡ true → has_item exprs ≡ true
        → (has_item (answer_columns prov widths exprs) && list_all expr_is_shaped (answer_columns prov widths exprs)) ≡ true
    answer_shaped exprs so some =
        and_from _ _ (item_in_front (substituted_each exprs (users_from prov 0 widths)) _ (same_items (users_from prov 0 widths) (users_shaped 0 widths) exprs ∙ some))
        (all_joined expr_is_shaped (substituted_each exprs (users_from prov 0 widths)) _ (each_shaped exprs so) (noted_all expr_is_shaped prov (product_of prov widths) (monomials_shaped widths)))

  -- ---- the rows of a VALUES list

  positive : (n : ℕ) → nat_le 1 (suc n) ≡ true
  positive n = grind (arith, nat_tests)

  given_shaped : (t k n : ℕ) (rows : List (List Cell)) → nat_le 1 t ≡ true → nat_le 1 k ≡ true → nat_le 1 n ≡ true → list_all (list_all cell_is_shaped) rows ≡ true
      → list_all row_is_shaped (map (encoded_row prov) (given_from monomials t k n rows)) ≡ true
  given_shaped t k n [] tt kk nn so = refl
  given_shaped t k n (row ∷ rows) tt kk nn so =
      and_from _ _
      (and_from _ _ (item_behind row _ _)
      (all_joined cell_is_shaped row _ (left_true (list_all cell_is_shaped row) (list_all (list_all cell_is_shaped) rows) so)
      (and_from (nat_le 1 t && (nat_le 1 k && (nat_le 1 n && true))) _
      (and_from (nat_le 1 t) _ tt (and_from (nat_le 1 k) _ kk (and_from (nat_le 1 n) true nn refl))) (noted_all cell_is_shaped prov _ refl))))
      (given_shaped t k (suc n) rows tt kk (positive n) (right_true (list_all cell_is_shaped row) (list_all (list_all cell_is_shaped) rows) so))

  given_some : (t k n : ℕ) (rows : List (List Cell)) → has_item (map (encoded_row prov) (given_from monomials t k n rows)) ≡ has_item rows
  given_some t k n [] = refl
  given_some t k n (row ∷ rows) = refl

-- ---- queries

module _ (tables : List Table) (columns : ℕ → ℕ) (of_step : ℕ → ℕ) (prov : Bool) where
  abbrev widths : Query → List ℕ
  widths query = widths_of columns of_step prov query

  abbrev made : Query → p.Plain
  made query = plain_query columns of_step prov query

  abbrev shaped : Query → Bool
  shaped query = annotated_is_shaped tables query

  widths_some : (query : Query) → has_tables query ≡ true → has_item (widths query) ≡ true
  widths_some (q.scan table version) so = refl
  widths_some (q.step j) so = refl
  widths_some (q.select query c) so = widths_some query so
  widths_some (q.project query exprs change) so = refl
  widths_some (q.product left right) so = item_in_front (widths left) (widths right) (widths_some left so)
  widths_some (q.union left right) so = widths_some left so
  widths_some (q.given t k rows) so = absurd (false≢true so)
  widths_some (q.new_rows t k b query) so = widths_some query so
  widths_some (q.publish base mine later) so = widths_some base so

  plain_shaped : (query : Query) → shaped query ≡ true → query_is_shaped tables (made query) ≡ true
  plain_shaped (q.scan table version) so = so
  plain_shaped (q.step j) so = refl
  plain_shaped (q.select query c) so = both_follow (shaped query) (cond_is_shaped c) _ _ (plain_shaped query) (test_shaped prov (widths query) c) so
  plain_shaped (q.project query exprs change) so =
      both_follow (shaped query) (list_all expr_is_shaped exprs && change_is_shaped exprs change) _ _ (plain_shaped query)
      (λ both. changed_shaped prov (widths query) exprs change (left_true (list_all expr_is_shaped exprs) (change_is_shaped exprs change) both)
      (right_true (list_all expr_is_shaped exprs) (change_is_shaped exprs change) both)) so
  plain_shaped (q.product left right) so = both_follow (shaped left) (shaped right) _ _ (plain_shaped left) (plain_shaped right) so
  plain_shaped (q.union left right) so = both_follow (shaped left) (shaped right) _ _ (plain_shaped left) (plain_shaped right) so
  plain_shaped (q.given t k rows) so =
      let cells = list_all (list_all cell_is_shaped) rows in
      let inner : (nat_le 1 k && (has_item rows && cells)) ≡ true = right_true (nat_le 1 t) (nat_le 1 k && (has_item rows && cells)) so in
      let rest : (has_item rows && cells) ≡ true = right_true (nat_le 1 k) (has_item rows && cells) inner in
      and_from _ _ (given_some prov t k 1 rows ∙ left_true (has_item rows) cells rest)
      (given_shaped prov t k 1 rows (left_true (nat_le 1 t) (nat_le 1 k && (has_item rows && cells)) so) (left_true (nat_le 1 k) (has_item rows && cells) inner) refl
      (right_true (has_item rows) cells rest))
  plain_shaped (q.new_rows t k b (q.project query exprs change)) so =
      let rest : Bool = list_all expr_is_shaped exprs && change_is_shaped exprs change in
      let both : (shaped query && rest) ≡ true = left_true (shaped query && rest) (has_tables query) so in
      and_from _ _ (plain_shaped query (left_true (shaped query) rest both))
      (new_shaped prov (widths query) t k b exprs (left_true (list_all expr_is_shaped exprs) (change_is_shaped exprs change) (right_true (shaped query) rest both))
      (widths_some query (right_true (shaped query && rest) (has_tables query) so)))
  plain_shaped (q.new_rows t k b query) so = plain_shaped query (left_true (shaped query) (has_sources query) so)
  plain_shaped (q.publish base mine later) so =
      both_follow (shaped base) (shaped mine && shaped later) _ _ (plain_shaped base) (both_follow (shaped mine) (shaped later) _ _ (plain_shaped mine) (plain_shaped later)) so

  last_shaped : (query : Query) → shaped query ≡ true → query_is_shaped tables (plain_last columns of_step prov query) ≡ true
  last_shaped (q.project query exprs None) so =
      both_follow (shaped query) (list_all expr_is_shaped exprs && has_item exprs) _ _ (plain_shaped query)
      (λ both. answer_shaped prov (widths query) exprs (left_true (list_all expr_is_shaped exprs) (has_item exprs) both) (right_true (list_all expr_is_shaped exprs) (has_item exprs) both)) so
  last_shaped (q.union left right) so = both_follow (shaped left) (shaped right) _ _ (last_shaped left) (last_shaped right) so
  last_shaped query so = plain_shaped query so

  steps_shaped : (steps : List QueryStep) → list_all (annotated_step_is_shaped tables) steps ≡ true
      → list_all (step_is_shaped tables) (map (plain_step columns of_step prov) steps) ≡ true
  steps_shaped [] so = refl
  steps_shaped (s ∷ steps) so =
      both_follow (annotated_step_is_shaped tables s) (list_all (annotated_step_is_shaped tables) steps) _ _
      (both_follow (table_is_spellable tables s.table) (shaped s.query) (table_is_spellable tables s.table) _ (λ e. e) (plain_shaped s.query)) (steps_shaped steps) so

pub program_shaped : (tables : List Table) (columns : ℕ → ℕ) (prov : Bool) (program : Program)
    → list_all (annotated_step_is_shaped tables) program.steps ≡ true → annotated_is_shaped tables program.last ≡ true
    → is_shaped tables (plain_program columns prov program) ≡ true
program_shaped tables columns prov program steps last =
    and_from _ _ (steps_shaped tables columns (step_table program.steps) prov program.steps steps) (last_shaped tables columns (step_table program.steps) prov program.last last)
