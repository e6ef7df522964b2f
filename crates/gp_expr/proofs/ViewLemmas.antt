-- Lemmas of the views of expressions.
use Rattle.std.proofs.Common.{◌≡◌, ℕ, zero, suc, ◌+◌, ◌-◌, ◌<◌, ◌≤◌, List, [], ◌∷◌, length, map, get_or, drop, Vec, Global, refl, ap, sym, subst, arith, ◌∙◌, add-one, drop-cons}
use Rattle.std.proofs.lemmas.List.{drop_all, get_or-map}
use mathlib.Core.Former.{Count}
use Rattle.gp_base.specs.declared.cell.Cell.TheVariants.{Null}
use Rattle.gp_expr.specs.Expressions as e
use Rattle.gp_expr.specs.declared.expr.Expr.{Expr, NewId, NewId', Row_of-Expr, end_of-Expr, more_of-Expr, items-the_row-Expr, items_hidden-the_row-Expr-0}
use Rattle.gp_expr.specs.Substitution.{chosen}
use Rattle.gp_expr.specs.Views.{expr_view, parts_view, parts_of}

-- the parts of a row are those of its list
parts_of_row : (n : _) (row : Row_of-Expr n) → parts_view row ≡ parts_of (items-the_row-Expr n row)
parts_of_row n end_of-Expr = refl
parts_of_row n (more_of-Expr a others) = ap (e.part (expr_view a)) (parts_of_row _ others)

abbrev row_of : Expr → (n : Count) × Row_of-Expr n
row_of (NewId' t k b shape row) = (_, row)
row_of _ = (_, end_of-Expr)

view_of_new_id : (t k b : ℕ) (parts : Vec Expr Global) → expr_view (NewId t k b parts) ≡ e.new_id t k b (parts_of parts.items)
view_of_new_id t k b parts =
    let row = row_of (NewId t k b parts) in
    ap (e.new_id t k b) (parts_of_row row.0 row.1 ∙ ap parts_of (items_hidden-the_row-Expr-0 parts))

-- the parts of a new identity are those of its list
pub new_id_view : (expr : Expr) (t k b : ℕ) (parts : Vec Expr Global) (items : List Expr) → expr ≡ NewId t k b parts → items ≡ parts.items →
    expr_view expr ≡ e.new_id t k b (parts_of items)
new_id_view expr t k b parts items is same = ap expr_view is ∙ (view_of_new_id t k b parts ∙ ap (λ list. e.new_id t k b (parts_of list)) (sym same))

-- parts from a list of expressions
abbrev pub parts_from : List e.Expr → e.Parts
parts_from [] = e.no_parts
parts_from (a ∷ others) = e.part a (parts_from others)

-- the parts of an identity are those from the views of its list
pub parts_of_views : (parts : List Expr) → parts_of parts ≡ parts_from (map expr_view parts)
parts_of_views [] = refl
parts_of_views (a ∷ others) = ap (e.part (expr_view a)) (parts_of_views others)

-- a new identity whose parts have these views
pub new_id_of_views : (t k b : ℕ) (parts : Vec Expr Global) (views : List e.Expr) → map expr_view parts.items ≡ views →
    expr_view (NewId t k b parts) ≡ e.new_id t k b (parts_from views)
new_id_of_views t k b parts views are = view_of_new_id t k b parts ∙ ap (e.new_id t k b) (parts_of_views parts.items ∙ ap parts_from are)

-- the first of the parts from a place on
pub parts_of_drop : (parts : List Expr) (i : ℕ) (a : Expr) → i < length parts → a ≡ get_or parts i a →
    parts_of (drop i parts) ≡ e.part (expr_view a) (parts_of (drop (i + 1) parts))
parts_of_drop parts i a below is = rw (add-one, drop-cons parts i a) (ap (λ b. e.part (expr_view b) (parts_of (drop (suc i) parts))) (sym is))

-- no parts are left at the end
pub parts_of_end : (parts : List Expr) (i : ℕ) → length parts ≤ i → parts_of (drop i parts) ≡ e.no_parts
parts_of_end parts i at_end = ap parts_of (drop_all i parts at_end)

-- the view of an expression that is there is chosen for its column
pub chosen_view : (n : ℕ) (inner : List Expr) (a : Expr) → (n ≡ 0 → ⊥) → n - 1 < length inner → a ≡ get_or inner (n - 1) a →
    expr_view a ≡ chosen n (map expr_view inner)
chosen_view zero inner a is_column below is = absurd (is_column refl)
chosen_view (suc n) inner a is_column below is =
    let place : suc n - 1 ≡ n = omega arith in
    ap expr_view (is ∙ ap (λ i. get_or inner i a) place) ∙ sym (get_or-map expr_view inner n a (e.constant Null) (subst (λ i. i < length inner) place below))
