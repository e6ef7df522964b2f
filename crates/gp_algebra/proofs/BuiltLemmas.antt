-- Lemmas of well-built programs: the numbers of the steps so far, the newest first, and the steps in their order.
use Rattle.std.proofs.Common.{◌≡◌, ℕ, suc, ◌+◌, ◌<◌, Bool, true, false, List, [], ◌∷◌, ◌++◌, map, length, get_or, take, drop, refl, sym, ap, ◌∙◌, add-one, drop-cons}
use Rattle.std.specs.Prelude.{◌&&◌, ◌||◌, ◌==◌, nat_lt}
use Rattle.std.specs.List.{list_all, list_any}
use Rattle.std.proofs.lemmas.List.{take_more}
use Rattle.gp_expr.specs.declared.expr.Expr.{Expr}
use Rattle.gp_expr.specs.Views.{expr_view, parts_of}
use Rattle.gp_algebra.specs.declared.plain.PQuery.{PQuery}
use Rattle.gp_algebra.specs.declared.program.Step.{Step}
use Rattle.gp_algebra.specs.PlainViews.{query_view, step_view}
use Rattle.gp_algebra.specs.WellBuilt.{makes_no_identity, parts_make_no_identity, is_among, is_above, step_is_built, steps_are_built, numbers_after}
use Rattle.gp_base.proofs.SmallLemmas.{and_nothing, or_nothing}

or_moved : (a b c : Bool) → (a || (b || c)) ≡ ((b || a) || c)
or_moved true true c = refl
or_moved true false c = refl
or_moved false true c = refl
or_moved false false c = refl

and_moved : (a b c : Bool) → (a && (b && c)) ≡ ((b && a) && c)
and_moved true true c = refl
and_moved true false c = refl
and_moved false true c = refl
and_moved false false c = refl

and_grouped : (a b c : Bool) → (a && (b && c)) ≡ ((a && b) && c)
and_grouped true b c = refl
and_grouped false b c = refl

any_number : (f : ℕ → Bool) (earlier : List ℕ) (steps : List (Step PQuery)) → list_any f (numbers_after earlier (map step_view steps)) ≡ (list_any (λ (s : Step PQuery). f s.j) steps || list_any f earlier)
any_number f earlier [] = refl
any_number f earlier (s ∷ steps) = any_number f (s.j ∷ earlier) steps ∙ or_moved (list_any (λ (s : Step PQuery). f s.j) steps) (f s.j) (list_any f earlier)

all_numbers : (f : ℕ → Bool) (earlier : List ℕ) (steps : List (Step PQuery)) → list_all f (numbers_after earlier (map step_view steps)) ≡ (list_all (λ (s : Step PQuery). f s.j) steps && list_all f earlier)
all_numbers f earlier [] = refl
all_numbers f earlier (s ∷ steps) = all_numbers f (s.j ∷ earlier) steps ∙ and_moved (list_all (λ (s : Step PQuery). f s.j) steps) (f s.j) (list_all f earlier)

-- a step has the number
pub is_among-is : (steps : List (Step PQuery)) (j : ℕ) → list_any (λ (s : Step PQuery). s.j == j) steps ≡ is_among (numbers_after [] (map step_view steps)) j
is_among-is steps j = sym (any_number (λ i. i == j) [] steps ∙ or_nothing (list_any (λ (s : Step PQuery). s.j == j) steps))

-- the number is above those of all steps
pub is_above-is : (steps : List (Step PQuery)) (j : ℕ) → list_all (λ (s : Step PQuery). nat_lt s.j j) steps ≡ is_above (numbers_after [] (map step_view steps)) j
is_above-is steps j = sym (all_numbers (λ i. nat_lt i j) [] steps ∙ and_nothing (list_all (λ (s : Step PQuery). nat_lt s.j j) steps))

-- one more step
pub numbers_after-push : (earlier : List ℕ) (steps : List (Step PQuery)) (s : Step PQuery) → numbers_after earlier (map step_view (steps ++ s ∷ [])) ≡ s.j ∷ numbers_after earlier (map step_view steps)
numbers_after-push earlier [] s = refl
numbers_after-push earlier (t ∷ steps) s = numbers_after-push (t.j ∷ earlier) steps s

-- the parts of an identity as a list
pub parts-none : (parts : List Expr) → list_all (λ part. makes_no_identity (expr_view part)) parts ≡ parts_make_no_identity (parts_of parts)
parts-none [] = refl
parts-none (a ∷ others) = ap (λ b. makes_no_identity (expr_view a) && b) (parts-none others)

abbrev numbers : List (Step PQuery) → List ℕ
numbers steps = numbers_after [] (map step_view steps)

-- the steps from a place on: the one at it is well built over those before it, and so are the others
pub steps-here : (steps : List (Step PQuery)) (i : ℕ) (s : Step PQuery) → i < length steps → s ≡ get_or steps i s →
    steps_are_built (numbers_after [] (map step_view (take i steps))) (map step_view (drop i steps))
    ≡ ((is_above (numbers_after [] (map step_view (take i steps))) s.j && step_is_built (numbers_after [] (map step_view (take i steps))) (query_view s.query))
    && steps_are_built (numbers_after [] (map step_view (take (i + 1) steps))) (map step_view (drop (i + 1) steps)))
steps-here steps i s within same =
    let rest = drop (suc i) steps in
    let before = take i steps in
    let next : take (i + 1) steps ≡ before ++ s ∷ [] = take_more steps i s within ∙ ap (λ (x : Step PQuery). before ++ x ∷ []) (sym same) in
    let here : drop i steps ≡ s ∷ rest = drop-cons steps i s within ∙ ap (λ (x : Step PQuery). x ∷ rest) (sym same) in
    let after : numbers_after [] (map step_view (take (i + 1) steps)) ≡ s.j ∷ numbers before = ap numbers next ∙ numbers_after-push [] before s in
    ap (λ list. steps_are_built (numbers before) (map step_view list)) here
    ∙ (and_grouped (is_above (numbers before) s.j) (step_is_built (numbers before) (query_view s.query)) (steps_are_built (s.j ∷ numbers before) (map step_view rest))
    ∙ ap (λ b. (is_above (numbers before) s.j && step_is_built (numbers before) (query_view s.query)) && b)
    (ap (λ list. steps_are_built list (map step_view rest)) (sym after) ∙ rw (add-one) refl))
