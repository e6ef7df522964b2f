-- A query that fits a catalogue is simple.
use Rattle.std.proofs.Common.{◌≡◌, ℕ, Bool, true, List, [], ◌∷◌, length, map, refl, ap}
use Rattle.std.specs.Prelude.{◌&&◌, ◌^◌, ◌==◌, nat_lt, Option, Some, None}
use Rattle.std.specs.List.{list_all}
use Rattle.std.proofs.lemmas.Bool.{and_from}
use Rattle.gp_base.specs.declared.table.Table.{Table}
use Rattle.gp_base.specs.UserCells.{is_user_cell}
use Rattle.gp_expr.specs.Expressions.{Expr, Cond}
use Rattle.gp_expr.specs.ExpressionForms.{is_simple, cond_is_simple, all_leaves, cond_all_leaves}
use Rattle.gp_algebra.specs.Statements.{Branch, Select, insert_select}
use Rattle.gp_algebra.specs.Fitting.{is_countable, is_there, is_column, joined_width, expr_fits, optional_cond_fits, branch_fits, branches_fit, select_width, select_fits, statement_fits}
use Rattle.gp_algebra.specs.Statements.{width_of}
use Rattle.gp_algebra.specs.Simple.{where_is_simple, branch_is_simple, select_is_simple}
use Rattle.gp_base.proofs.SmallLemmas.{all_weaker, left_true, length-map, right_true}

-- a weaker test of each item

pub expr-simple : (width : ℕ) (e : Expr) → expr_fits width e ≡ true → is_simple e ≡ true
expr-simple width e fits = left_true (is_simple e) (all_leaves (is_column width) is_user_cell e) fits

where-simple : (width : ℕ) (c : Option Cond) → optional_cond_fits width c ≡ true → where_is_simple c ≡ true
where-simple width None fits = refl
where-simple width (Some c) fits = left_true (cond_is_simple c) (cond_all_leaves (is_column width) is_user_cell c) fits

branch-simple : (tables : List Table) (width : ℕ) (branch : Branch) → branch_fits tables width branch ≡ true → branch_is_simple branch ≡ true
branch-simple tables width branch fits =
    let inner = joined_width tables branch.from in
    let items = list_all (expr_fits inner) branch.items in
    let last : Bool = items && optional_cond_fits inner branch.cond in
    let same : Bool = (length branch.items == width) && last in
    let some : Bool = nat_lt 0 (length branch.items) && same in
    let there : Bool = list_all (is_there tables) branch.from && some in
    let ends : last ≡ true =
    right_true (length branch.items == width) last (right_true (nat_lt 0 (length branch.items)) same (right_true (list_all (is_there tables) branch.from) some (right_true (nat_lt 0 (length branch.from)) there fits))) in
    and_from (list_all is_simple branch.items) (where_is_simple branch.cond)
    (all_weaker (expr_fits inner) is_simple (expr-simple inner) branch.items (left_true items (optional_cond_fits inner branch.cond) ends))
    (where-simple inner branch.cond (right_true items (optional_cond_fits inner branch.cond) ends))

branches-simple : (tables : List Table) (width : ℕ) (select : Select) → branches_fit tables width select ≡ true → select_is_simple select ≡ true
branches-simple tables width select fits =
    let counted : is_countable select ≡ true = left_true (is_countable select) (list_all (branch_fits tables width) select) fits in
    and_from (nat_lt (length select) (2 ^ 32)) (list_all branch_is_simple select)
    (right_true (nat_lt 0 (length select)) (nat_lt (length select) (2 ^ 32)) counted)
    (all_weaker (branch_fits tables width) branch_is_simple (branch-simple tables width) select (right_true (is_countable select) (list_all (branch_fits tables width) select) fits))

pub fitting_query-simple : (tables : List Table) (select : Select) → select_fits tables select ≡ true → select_is_simple select ≡ true
fitting_query-simple tables select fits = branches-simple tables (select_width select) select fits

pub fitting_insert-simple : (tables : List Table) (table : ℕ) (select : Select) → statement_fits tables (insert_select table select) ≡ true → select_is_simple select ≡ true
fitting_insert-simple tables table select fits =
    branches-simple tables (width_of tables table) select (right_true (is_there tables table) (branches_fit tables (width_of tables table) select) fits)

-- ---- for the tests of the code

-- a test of the views of some items
pub all-map : {X Y : Type 0} (test : Y → Bool) (view : X → Y) (xs : List X) → list_all test (map view xs) ≡ list_all (λ x. test (view x)) xs
all-map test view [] = refl
all-map test view (x ∷ xs) = ap (λ b. test (view x) && b) (all-map test view xs)

pub ruleset tests = (all-map, length-map)
