-- The conditions and terms of checked statements are simple; the looks of the items that remain of a FROM.
use Rattle.gp_serial.proofs.Prelude.{◌≡◌, ◌+◌, ◌<◌, ℕ, suc, Bool, true, false, List, [], ◌∷◌, ◌++◌, drop, get_or, map, length, Option, Some, None, refl, sym, ap, ◌∙◌, ◌&&◌, ◌==◌, filter, if◌then◌else◌, arith, nat_lt, list_all, option_map, and_parts, drop_more, Table, statement_fits, width_of}
use Rattle.std.proofs.Common.{append_assoc, append-nil}
use Rattle.std.proofs.lemmas.List.{map_push}
use Rattle.gp_expr.specs.ExpressionForms.{cond_is_simple, is_simple}
use Rattle.gp_expr.specs.Expressions as e
use Rattle.gp_expr.specs.Views.{cond_view, expr_view}
use Rattle.gp_expr.specs.declared.expr.Cond.{Cond}
use Rattle.gp_expr.specs.declared.expr.Expr.{Expr}
use Rattle.gp_algebra.specs.Fitting.{branch_fits, expr_fits, is_column, is_countable, is_there, joined_width, optional_cond_fits, select_width, set_fits}
use Rattle.gp_algebra.specs.Statements as statement
use Rattle.gp_algebra.specs.Views.{branch_view, set_view}
use Rattle.gp_algebra.specs.declared.statement.Branch.{Branch}
use Rattle.gp_algebra.specs.declared.statement.SetExpr.{SetExpr}
use Rattle.gp_machine.specs.Looks as m
use Rattle.gp_machine.specs.Looks.{is_about, item_looks, used}
use Rattle.gp_serial.specs.LookViews.{AreSimpleBranches, AreSimpleItems, AreSimpleSets, IsSimpleBranch, IsSimpleWhere, look_view}
use Rattle.gp_serial.specs.declared.looks.Look.{Look}

simple_where : (width : ℕ) (cond : Option Cond) → optional_cond_fits width (option_map cond_view cond) ≡ true → IsSimpleWhere cond
simple_where width None fits = refl
simple_where width (Some c) fits = (and_parts (cond_is_simple (cond_view c)) _ fits).0

simple_items : (width : ℕ) (items : List Expr) → list_all (expr_fits width) (map expr_view items) ≡ true → AreSimpleItems items
simple_items width [] fits = tt
simple_items width (item ∷ items) fits =
    let parts = and_parts (expr_fits width (expr_view item)) (list_all (expr_fits width) (map expr_view items)) fits in
    ((and_parts (is_simple (expr_view item)) _ parts.0).0, simple_items width items parts.1)

simple_sets : (width : ℕ) (sets : List SetExpr) → list_all (set_fits width) (map set_view sets) ≡ true → AreSimpleSets sets
simple_sets width [] fits = tt
simple_sets width (set ∷ sets) fits =
    let parts = and_parts (set_fits width (set_view set)) (list_all (set_fits width) (map set_view sets)) fits in
    let own = and_parts (is_column width set.col) (expr_fits width (expr_view set.expr)) parts.0 in
    ((and_parts (is_simple (expr_view set.expr)) _ own.1).0, simple_sets width sets parts.1)

pub simple_update : (tables : List Table) (table : ℕ) (sets : List SetExpr) (cond : Cond) → statement_fits tables (statement.update table (map set_view sets) (cond_view cond)) ≡ true → AreSimpleSets sets
simple_update tables table sets cond fits =
    let own = and_parts (is_there tables table) _ fits in
    simple_sets (width_of tables table) sets (and_parts (list_all (set_fits (width_of tables table)) (map set_view sets)) _ own.1).0

module _ (tables : List Table) (width : ℕ) where
  simple_branch : (branch : Branch) → branch_fits tables width (branch_view branch) ≡ true → IsSimpleBranch branch
  simple_branch branch fits =
      let own = branch_view branch in
      let one = and_parts (nat_lt 0 (length own.from)) _ fits in
      let two = and_parts (list_all (is_there tables) own.from) _ one.1 in
      let three = and_parts (nat_lt 0 (length own.items)) _ two.1 in
      let four = and_parts (length own.items == width) _ three.1 in
      let five = and_parts (list_all (expr_fits (joined_width tables own.from)) own.items) _ four.1 in
      (simple_where (joined_width tables own.from) branch.cond five.1, simple_items (joined_width tables own.from) branch.items five.0)

  pub simple_branches : (branches : List Branch) → list_all (branch_fits tables width) (map branch_view branches) ≡ true → AreSimpleBranches branches
  simple_branches [] fits = tt
  simple_branches (branch ∷ branches) fits =
      let parts = and_parts (branch_fits tables width (branch_view branch)) (list_all (branch_fits tables width) (map branch_view branches)) fits in
      (simple_branch branch parts.0, simple_branches branches parts.1)

pub simple_insert : (tables : List Table) (table : ℕ) (branches : List Branch) → statement_fits tables (statement.insert_select table (map branch_view branches)) ≡ true → AreSimpleBranches branches
simple_insert tables table branches fits =
    let own = and_parts (is_there tables table) (is_countable (map branch_view branches) && list_all (branch_fits tables (width_of tables table)) (map branch_view branches)) fits in
    let all = and_parts (is_countable (map branch_view branches)) (list_all (branch_fits tables (width_of tables table)) (map branch_view branches)) own.1 in
    simple_branches tables (width_of tables table) branches all.1

pub simple_read : (tables : List Table) (branches : List Branch) → statement_fits tables (statement.read (map branch_view branches)) ≡ true → AreSimpleBranches branches
simple_read tables branches fits =
    let all = and_parts (is_countable (map branch_view branches)) (list_all (branch_fits tables (select_width (map branch_view branches))) (map branch_view branches)) fits in
    simple_branches tables (select_width (map branch_view branches)) branches all.1

-- ---- the columns that occur

-- of one place more
pub used_more : (occurs : ℕ → Bool) (before place : ℕ) (columns : List ℕ) → columns ≡ used occurs before place → occurs (before + suc place) ≡ true
    → columns ++ place ∷ [] ≡ used occurs before (place + 1)
used_more occurs before place columns is there =
    let next : suc place ≡ place + 1 = omega arith in
    ap (λ list. list ++ place ∷ []) is
    ∙ ap (λ own. used occurs before place ++ (if own then place ∷ [] else [])) (sym there)
    ∙ ap (used occurs before) next

pub used_same : (occurs : ℕ → Bool) (before place : ℕ) (columns : List ℕ) → columns ≡ used occurs before place → occurs (before + suc place) ≡ false
    → columns ≡ used occurs before (place + 1)
used_same occurs before place columns is there =
    let next : suc place ≡ place + 1 = omega arith in
    is
    ∙ sym (append-nil (used occurs before place))
    ∙ ap (λ own. used occurs before place ++ (if own then place ∷ [] else [])) (sym there)
    ∙ ap (used occurs before) next

-- ---- the looks of the items that remain

abbrev pub look_at : (ℕ → Bool) → ℕ → ℕ → ℕ → List e.Cond → m.Look
look_at occurs table before width conds =
    record { table = table; before = before; conds = filter (is_about before width) conds; columns = used occurs before width }

pub items_more : (tables : List Table) (occurs : ℕ → Bool) (conds : List e.Cond) (from : List ℕ) (i before width after : ℕ) (looks : List Look) (look : Look) → i < length from
    → width ≡ width_of tables (get_or from i 0) → after ≡ before + width → look_view look ≡ look_at occurs (get_or from i 0) before width conds
    → map look_view (looks ++ look ∷ []) ++ item_looks tables occurs conds after (drop (i + 1) from) ≡ map look_view looks ++ item_looks tables occurs conds before (drop i from)
items_more tables occurs conds from i before width after looks look within wide later is =
    let table = get_or from i 0 in
    let rest = drop (i + 1) from in
    ap (λ all. all ++ item_looks tables occurs conds after rest) (map_push look_view looks look)
    ∙ append_assoc (map look_view looks) (look_view look ∷ []) (item_looks tables occurs conds after rest)
    ∙ ap (λ own. map look_view looks ++ own ∷ item_looks tables occurs conds after rest) (is ∙ ap (λ n. look_at occurs table before n conds) wide)
    ∙ ap (λ n. map look_view looks ++ look_at occurs table before (width_of tables table) conds ∷ item_looks tables occurs conds n rest) (later ∙ ap (λ n. before + n) wide)
    ∙ ap (λ list. map look_view looks ++ item_looks tables occurs conds before list) (sym (drop_more from i 0 within))
