-- The items that a loop comes to: the query of a table, tables and branches that pass a test, and the columns of an UPDATE.
use Rattle.std.proofs.Common.{◌≡◌, ◌<◌, ◌+◌, ◌-◌, ℕ, zero, suc, Bool, true, List, [], ◌∷◌, ◌++◌, length, map, get_or, ap, sym, ◌∙◌, subst, append_assoc, arith}
use Rattle.std.specs.List.{list_all}
use Rattle.std.proofs.lemmas.List.{get_or-map, map-append}
use Rattle.gp_expr.specs.Expressions as e
use Rattle.gp_expr.specs.declared.expr.Expr.{Expr}
use Rattle.gp_expr.specs.Views.{expr_view}
use Rattle.gp_algebra.specs.AnnotatedQueries as q
use Rattle.gp_algebra.specs.Effects.{set_for}
use Rattle.gp_algebra.specs.QueryViews.{annotated_view}
use Rattle.gp_algebra.specs.Statements.{SetExpr}
use Rattle.gp_algebra.specs.declared.annotated.AQuery.{AQuery}
use Rattle.gp_rewrite.specs.Rewriting.{cased, updated_from}
use Rattle.gp_rewrite.specs.RewritingForms.{query_at}
use Rattle.std.proofs.lemmas.Bool.{and_parts}

-- the query of a table
pub query_at_place : (tables : List AQuery) (i : ℕ) (query : AQuery) → i < length tables → query ≡ get_or tables i query → annotated_view query ≡ query_at (map annotated_view tables) i
query_at_place tables i query within is = ap annotated_view is ∙ sym (get_or-map annotated_view tables i query (q.scan zero zero) within)

passes_at : {X Y : Type 0} (p : Y → Bool) (f : X → Y) (xs : List X) (i : ℕ) (d : X) → i < length xs → list_all p (map f xs) ≡ true → p (f (get_or xs i d)) ≡ true
passes_at p f [] i d within all = absurd (omega arith)
passes_at p f (x ∷ xs) zero d within all = (and_parts (p (f x)) (list_all p (map f xs)) all).0
passes_at p f (x ∷ xs) (suc i) d within all = passes_at p f xs i d (omega arith) (and_parts (p (f x)) (list_all p (map f xs)) all).1

-- an item of a list whose items all pass
pub item_passes : {X Y : Type 0} (p : Y → Bool) (f : X → Y) (xs : List X) (i : ℕ) (x : X) → i < length xs → x ≡ get_or xs i x → list_all p (map f xs) ≡ true → p (f x) ≡ true
item_passes p f xs i x within is all = subst (λ item. p (f item) ≡ true) (sym is) (passes_at p f xs i x within all)

next_column : (sets : List SetExpr) (c : e.Cond) (before width : ℕ) → before < width
    → updated_from sets c before (width - before) ≡ cased c (before + 1) (set_for (before + 1) sets) ∷ updated_from sets c (before + 1) (width - (before + 1))
next_column sets c before width less =
    let left : width - before ≡ suc (width - (before + 1)) = omega arith in
    let next : suc before ≡ before + 1 = omega arith in
    ap (updated_from sets c before) left ∙ ap (λ n. cased c n (set_for n sets) ∷ updated_from sets c n (width - (before + 1))) next

-- one column more is there, and one fewer is left
pub pushed_column : (sets : List SetExpr) (c : e.Cond) (exprs new : List Expr) (expr : Expr) (before width : ℕ) → new ≡ exprs ++ expr ∷ []
    → expr_view expr ≡ cased c (before + 1) (set_for (before + 1) sets) → before < width
    → map expr_view new ++ updated_from sets c (before + 1) (width - (before + 1)) ≡ map expr_view exprs ++ updated_from sets c before (width - before)
pushed_column sets c exprs new expr before width pushed is less =
    let left : List e.Expr = updated_from sets c (before + 1) (width - (before + 1)) in
    ap (λ xs. map expr_view xs ++ left) pushed ∙ (ap (λ xs. xs ++ left) (map-append expr_view exprs (expr ∷ []))
    ∙ (append_assoc (map expr_view exprs) (expr_view expr ∷ []) left
    ∙ (ap (λ x. map expr_view exprs ++ (x ∷ left)) is ∙ ap (λ xs. map expr_view exprs ++ xs) (sym (next_column sets c before width less)))))
