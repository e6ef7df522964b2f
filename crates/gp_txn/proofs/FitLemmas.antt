-- What fits the tables of a catalogue can be applied: a checked statement, and a checked query.
use Rattle.std.proofs.Common.{◌≡◌, ℕ, ◌^◌, true, ◌&&◌, ◌==◌, ltb, nat_lt, List, length}
use Rattle.std.specs.List.{list_all}
use Rattle.std.proofs.lemmas.Bool.{and_parts, and_from}
use Rattle.gp_base.specs.declared.table.Table.{Table}
use Rattle.gp_base.specs.UserCells.{is_user_cell}
use Rattle.gp_expr.specs.Expressions.{Cond}
use Rattle.gp_expr.specs.ExpressionForms.{is_simple, cond_is_simple, cond_all_leaves}
use Rattle.gp_algebra.specs.Statements.{SetExpr, Branch, Select, Statement, insert, insert_select, update, delete, read}
use Rattle.gp_algebra.specs.Fitting.{is_there, is_countable, is_column, joined_width, row_fits, set_fits, expr_fits, cond_fits, optional_cond_fits, branch_fits, branches_fit, select_fits, select_width, statement_fits}
use Rattle.gp_algebra.specs.Statements.{width_of}
use Rattle.gp_algebra.specs.Simple.{select_is_simple}
use Rattle.gp_algebra.proofs.SimpleLemmas.{fitting_query-simple, fitting_insert-simple, expr-simple}
use Rattle.gp_txn.specs.Applying.{is_applicable, is_readable, reads_below}
use Rattle.gp_base.proofs.SmallLemmas.{all_weaker}

cond-simple : (width : ℕ) (c : Cond) → cond_fits width c ≡ true → cond_is_simple c ≡ true
cond-simple width c fits = (and_parts (cond_is_simple c) (cond_all_leaves (is_column width) is_user_cell c) fits).0

set-simple : (width : ℕ) (set : SetExpr) → set_fits width set ≡ true → is_simple set.expr ≡ true
set-simple width set fits = expr-simple width set.expr (and_parts (is_column width set.col) (expr_fits width set.expr) fits).1

module _ (tables : List Table) where
  branch-there : (width : ℕ) (branch : Branch) → branch_fits tables width branch ≡ true → list_all (is_there tables) branch.from ≡ true
  branch-there width branch fits =
      let items = nat_lt 0 (length branch.items) && ((length branch.items == width) && (list_all (expr_fits (joined_width tables branch.from)) branch.items && optional_cond_fits (joined_width tables branch.from) branch.cond)) in
      (and_parts (list_all (is_there tables) branch.from) items (and_parts (ltb 0 (length branch.from)) (list_all (is_there tables) branch.from && items) fits).1).0

  reads-there : (width : ℕ) (select : Select) → branches_fit tables width select ≡ true → reads_below (length tables) select ≡ true
  reads-there width select fits =
      all_weaker (branch_fits tables width) (λ (branch : Branch). list_all (is_there tables) branch.from) (branch-there width) select
      (and_parts (is_countable select) (list_all (branch_fits tables width) select) fits).1

  -- a query that fits can be answered
  pub select-readable : (select : Select) → select_fits tables select ≡ true → is_readable (length tables) select ≡ true
  select-readable select fits = and_from (select_is_simple select) (reads_below (length tables) select) (fitting_query-simple tables select fits) (reads-there (select_width select) select fits)

  -- it is no SELECT
  abbrev pub IsWrite : Statement → Type 0
  IsWrite (read select) = ⊥
  IsWrite _ = Unit {0}

  -- a statement that fits and is no SELECT can be applied
  pub statement-applicable : (statement : Statement) → IsWrite statement → statement_fits tables statement ≡ true → is_applicable (length tables) statement ≡ true
  statement-applicable (insert table rows) writes fits =
      let parts = and_parts (is_there tables table) (is_countable rows && list_all (row_fits (width_of tables table)) rows) fits in
      let few = (and_parts (ltb 0 (length rows)) (ltb (length rows) (2 ^ 32)) (and_parts (is_countable rows) (list_all (row_fits (width_of tables table)) rows) parts.1).0).1 in
      and_from (is_there tables table) (ltb (length rows) (2 ^ 32)) parts.0 few
  statement-applicable (insert_select table select) writes fits =
      let parts = and_parts (is_there tables table) (branches_fit tables (width_of tables table) select) fits in
      and_from (is_there tables table) (is_readable (length tables) select) parts.0
      (and_from (select_is_simple select) (reads_below (length tables) select) (fitting_insert-simple tables table select fits) (reads-there (width_of tables table) select parts.1))
  statement-applicable (update table sets c) writes fits =
      let parts = and_parts (is_there tables table) (list_all (set_fits (width_of tables table)) sets && cond_fits (width_of tables table) c) fits in
      let rest = and_parts (list_all (set_fits (width_of tables table)) sets) (cond_fits (width_of tables table) c) parts.1 in
      and_from (is_there tables table) (list_all (λ (set : SetExpr). is_simple set.expr) sets && cond_is_simple c) parts.0
      (and_from (list_all (λ (set : SetExpr). is_simple set.expr) sets) (cond_is_simple c)
      (all_weaker (set_fits (width_of tables table)) (λ (set : SetExpr). is_simple set.expr) (set-simple (width_of tables table)) sets rest.0) (cond-simple (width_of tables table) c rest.1))
  statement-applicable (delete table c) writes fits =
      let parts = and_parts (is_there tables table) (cond_fits (width_of tables table) c) fits in
      and_from (is_there tables table) (cond_is_simple c) parts.0 (cond-simple (width_of tables table) c parts.1)
  statement-applicable (read select) writes fits = absurd writes
