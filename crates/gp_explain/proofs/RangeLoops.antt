-- What holds of each item of a list that is looked at from its first item to its last.
use Rattle.gp_explain.proofs.Prelude.{◌≡◌, ℕ, zero, suc, ◌+◌, ◌<◌, ◌≤◌, List, [], ◌∷◌, get_or, map, drop, length, sym, subst, arith, AllByRecursion, expr_view, parts_of, ExprInRange, PartsInRange}
use Rattle.std.proofs.Common.{add-one, drop-cons}
use Rattle.gp_expr.specs.declared.expr.Expr.{Expr as Code}

-- one more item
pub next_all : {X : Type 0} (P : X → Type 0) (xs : List X) (i : ℕ) (x : X) → i < length xs → x ≡ get_or xs i x → P x
    → (AllByRecursion P (drop i xs) → AllByRecursion P xs) → AllByRecursion P (drop (i + 1) xs) → AllByRecursion P xs
next_all P xs i x within is so before rest =
    before (subst (λ ys. AllByRecursion P ys) (sym (drop-cons xs i x within)) (subst P is so, subst (λ n. AllByRecursion P (drop n xs)) (add-one i) rest))

-- none remains
pub end_all : {X : Type 0} (P : X → Type 0) (xs : List X) (i : ℕ) → length xs ≤ i → AllByRecursion P (drop i xs)
end_all P [] zero done = tt
end_all P [] (suc i) done = tt
end_all P (x ∷ xs) zero done = absurd (omega arith)
end_all P (x ∷ xs) (suc i) done = end_all P xs i (omega arith)

pub ruleset loops = (next_all, end_all)

pub parts_all : (exprs : List Code) → AllByRecursion (λ expr. ExprInRange (expr_view expr)) exprs → PartsInRange (parts_of exprs)
parts_all [] all = tt
parts_all (x ∷ exprs) all = (all.0, parts_all exprs all.1)

pub ruleset parts = (parts_all)

pub each_view : {X Y : Type 0} (P : Y → Type 0) (view : X → Y) (xs : List X) → AllByRecursion (λ x. P (view x)) xs → AllByRecursion P (map view xs)
each_view P view [] all = tt
each_view P view (x ∷ xs) all = (all.0, each_view P view xs all.1)

pub ruleset views = (each_view)
