-- What it says that a statement or a query fits a catalogue: its branches have tables and are as wide as the rows that they give, the rows of a VALUES list
-- are as wide as their table, and every expression is simple.
use Rattle.std.proofs.Common.{◌≡◌, ℕ, Bool, true, List, [], ◌∷◌, length, refl, Option, Some, None}
use Rattle.std.specs.Prelude.{◌&&◌, ◌==◌, ◌^◌, nat_lt}
use Rattle.std.specs.List.{AllByRecursion, list_all}
use Rattle.std.proofs.lemmas.Bool.{false≢true, eqb-true}
use Rattle.gp_base.specs.declared.cell.Cell.{Cell}
use Rattle.gp_base.specs.declared.table.Table.{Table}
use Rattle.gp_base.specs.UserCells.{is_user_cell}
use Rattle.gp_expr.specs.Expressions.{Cond}
use Rattle.gp_expr.specs.ExpressionForms.{is_simple, cond_is_simple, cond_all_leaves}
use Rattle.gp_algebra.specs.Statements.{SetExpr, Branch, Select, insert, insert_select, update, delete}
use Rattle.gp_algebra.specs.Fitting.{is_countable, is_there, is_column, joined_width, expr_fits, cond_fits, optional_cond_fits, row_fits, set_fits, branch_fits, branches_fit, select_width, select_fits, statement_fits}
use Rattle.gp_algebra.specs.Statements.{width_of}
use Rattle.gp_algebra.specs.Simple.{where_is_simple}
use Rattle.gp_rewrite.proofs.Each.{each_passes}
use Rattle.gp_base.proofs.SmallLemmas.{all_weaker, left_true, right_true}
use Rattle.gp_algebra.proofs.SimpleLemmas.{expr-simple}

-- a branch that gives rows of this width
pub record IsFit (width : ℕ) (branch : Branch) : Type 0 where
  pub first : ℕ
  pub others : List ℕ
  pub from : branch.from ≡ first ∷ others
  pub items : length branch.items ≡ width
  pub simple : list_all is_simple branch.items ≡ true
  pub condition : where_is_simple branch.cond ≡ true

-- the branches of a query, one at least
abbrev pub AreFit : ℕ → Select → Type 0
AreFit width [] = ⊥
AreFit width (branch ∷ branches) = IsFit width branch × AllByRecursion (IsFit width) branches

cond_simple : (width : ℕ) (c : Cond) → cond_fits width c ≡ true → cond_is_simple c ≡ true
cond_simple width c fits = left_true (cond_is_simple c) (cond_all_leaves (is_column width) is_user_cell c) fits

where_simple : (width : ℕ) (c : Option Cond) → optional_cond_fits width c ≡ true → where_is_simple c ≡ true
where_simple width None fits = refl
where_simple width (Some c) fits = cond_simple width c fits

module _ (catalogue : List Table) where
  branch_fit : (width : ℕ) (branch : Branch) → branch_fits catalogue width branch ≡ true → IsFit width branch
  branch_fit width branch fits =
      let inner = joined_width catalogue branch.from in
      let items = list_all (expr_fits inner) branch.items in
      let last : Bool = items && optional_cond_fits inner branch.cond in
      let same : Bool = (length branch.items == width) && last in
      let some : Bool = nat_lt 0 (length branch.items) && same in
      let there : Bool = list_all (is_there catalogue) branch.from && some in
      let alike : same ≡ true = right_true (nat_lt 0 (length branch.items)) same (right_true (list_all (is_there catalogue) branch.from) some (right_true (nat_lt 0 (length branch.from)) there fits)) in
      let ends : last ≡ true = right_true (length branch.items == width) last alike in
      let head : (first : ℕ) × (others : List ℕ) × (branch.from ≡ first ∷ others) = some_table branch.from (left_true (nat_lt 0 (length branch.from)) there fits) in
      record {
        first = head.0;
        others = head.1;
        from = head.2;
        items = eqb-true (length branch.items) width (left_true (length branch.items == width) last alike);
        simple = all_weaker (expr_fits inner) is_simple (expr-simple inner) branch.items (left_true items (optional_cond_fits inner branch.cond) ends);
        condition = where_simple inner branch.cond (right_true items (optional_cond_fits inner branch.cond) ends);
      }
    where
      some_table : (from : List ℕ) → nat_lt 0 (length from) ≡ true → (first : ℕ) × (others : List ℕ) × (from ≡ first ∷ others)
      some_table [] e = absurd (false≢true e)
      some_table (first ∷ others) e = (first, others, refl)

  branches_are_fit : (width : ℕ) (select : Select) → branches_fit catalogue width select ≡ true → AreFit width select
  branches_are_fit width [] fits = absurd (false≢true fits)
  branches_are_fit width (branch ∷ branches) fits =
      each_passes (IsFit width) (branch_fits catalogue width) (branch_fit width) (branch ∷ branches)
      (right_true (is_countable (branch ∷ branches)) (list_all (branch_fits catalogue width) (branch ∷ branches)) fits)

  pub select_is_fit : (select : Select) → select_fits catalogue select ≡ true → AreFit (select_width select) select
  select_is_fit select fits = branches_are_fit (select_width select) select fits

  pub inserted_are_fit : (table : ℕ) (select : Select) → statement_fits catalogue (insert_select table select) ≡ true → AreFit (width_of catalogue table) select
  inserted_are_fit table select fits =
      branches_are_fit (width_of catalogue table) select (right_true (is_there catalogue table) (branches_fit catalogue (width_of catalogue table) select) fits)

  pub given_are_wide : (table : ℕ) (rows : List (List Cell)) → statement_fits catalogue (insert table rows) ≡ true → AllByRecursion (λ row. length row ≡ width_of catalogue table) rows
  given_are_wide table rows fits =
      each_passes (λ row. length row ≡ width_of catalogue table) (row_fits (width_of catalogue table))
      (λ row e. eqb-true (length row) (width_of catalogue table) (left_true (length row == width_of catalogue table) (list_all is_user_cell row) e)) rows
      (right_true (is_countable rows) (list_all (row_fits (width_of catalogue table)) rows)
      (right_true (is_there catalogue table) (is_countable rows && list_all (row_fits (width_of catalogue table)) rows) fits))

  pub given_are_few : (table : ℕ) (rows : List (List Cell)) → statement_fits catalogue (insert table rows) ≡ true → nat_lt (length rows) (2 ^ 32) ≡ true
  given_are_few table rows fits =
      right_true (nat_lt 0 (length rows)) (nat_lt (length rows) (2 ^ 32))
      (left_true (is_countable rows) (list_all (row_fits (width_of catalogue table)) rows)
      (right_true (is_there catalogue table) (is_countable rows && list_all (row_fits (width_of catalogue table)) rows) fits))

  pub sets_are_simple : (table : ℕ) (sets : List SetExpr) (c : Cond) → statement_fits catalogue (update table sets c) ≡ true → list_all (λ (set : SetExpr). is_simple set.expr) sets ≡ true
  sets_are_simple table sets c fits =
      let width = width_of catalogue table in
      all_weaker (set_fits width) (λ (set : SetExpr). is_simple set.expr) (λ set e. expr-simple width set.expr (right_true (is_column width set.col) (expr_fits width set.expr) e)) sets
      (left_true (list_all (set_fits width) sets) (cond_fits width c) (right_true (is_there catalogue table) (list_all (set_fits width) sets && cond_fits width c) fits))

  pub update_is_simple : (table : ℕ) (sets : List SetExpr) (c : Cond) → statement_fits catalogue (update table sets c) ≡ true → cond_is_simple c ≡ true
  update_is_simple table sets c fits =
      let width = width_of catalogue table in
      cond_simple width c (right_true (list_all (set_fits width) sets) (cond_fits width c) (right_true (is_there catalogue table) (list_all (set_fits width) sets && cond_fits width c) fits))

  pub delete_is_simple : (table : ℕ) (c : Cond) → statement_fits catalogue (delete table c) ≡ true → cond_is_simple c ≡ true
  delete_is_simple table c fits = cond_simple (width_of catalogue table) c (right_true (is_there catalogue table) (cond_fits (width_of catalogue table) c) fits)
