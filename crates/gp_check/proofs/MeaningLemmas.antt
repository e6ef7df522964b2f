-- The columns that `*` stands for.
use Rattle.std.proofs.Common.{◌≡◌, ◌<◌, ◌+◌, ◌-◌, ℕ, suc, List, [], ◌∷◌, ◌++◌, map, append_assoc, sym, ap, ◌∙◌, arith}
use Rattle.std.proofs.lemmas.List.{map-append}
use Rattle.gp_expr.specs.Expressions as e
use Rattle.gp_expr.specs.declared.expr.Expr.{Expr, Col}
use Rattle.gp_expr.specs.Views.{expr_view}
use Rattle.gp_algebra.specs.Statements.{columns_behind}

pub next_column : (before width : ℕ) → before < width → columns_behind before (width - before) ≡ e.col (before + 1) ∷ columns_behind (before + 1) (width - (before + 1))
next_column before width less =
    let left : width - before ≡ suc (width - (before + 1)) = omega arith in
    let next : suc before ≡ before + 1 = omega arith in
    ap (columns_behind before) left ∙ ap (λ n. e.col n ∷ columns_behind n (width - (before + 1))) next

-- one column more is there, and one fewer is left
pub pushed_column : (exprs new : List Expr) (before width : ℕ) → new ≡ exprs ++ Col (before + 1) ∷ [] → before < width
    → map expr_view new ++ columns_behind (before + 1) (width - (before + 1)) ≡ map expr_view exprs ++ columns_behind before (width - before)
pushed_column exprs new before width is less =
    let left : List e.Expr = columns_behind (before + 1) (width - (before + 1)) in
    ap (λ xs. map expr_view xs ++ left) is ∙ ap (λ xs. xs ++ left) (map-append expr_view exprs _) ∙ append_assoc (map expr_view exprs) _ left
    ∙ ap (λ xs. map expr_view exprs ++ xs) (sym (next_column before width less))
