-- Two lists are equal bags exactly where one is a permutation of the other.
use Rattle.std.proofs.Common.{ℕ, zero, suc, ◌<◌, List, [], ◌∷◌, length, get_or, set, arith}
use Rattle.std.specs.List.{swap}
use Rattle.std.specs.List.Sorted.{IsPermutation}
use Rattle.std.proofs.lemmas.List.Sorted.{IsPermutation-refl, IsPermutation-cons, IsPermutation-sym, IsPermutation-trans, IsPermutation-middle, IsPermutation-keeps}
use Rattle.gp_base.proofs.Bags.{SameBag, none, first, swapped, through, same}

pub permuted : {X : Type 0} (xs ys : List X) → SameBag xs ys → IsPermutation xs ys
permuted xs ys none = IsPermutation-refl []
permuted xs ys (first {x = x} {xs = us} {ys = vs} s) = IsPermutation-cons x us vs (permuted us vs s)
permuted xs ys (swapped {x = x} {y = y} {xs = us}) = IsPermutation-sym (y ∷ x ∷ us) (x ∷ y ∷ us) (IsPermutation-middle (y ∷ []) x us)
permuted xs zs (through {ys = ys} s t) = IsPermutation-trans xs ys zs (permuted xs ys s) (permuted ys zs t)

-- the first item against one further on
exchanged : {X : Type 0} (x d : X) (xs : List X) (j : ℕ) → j < length xs → SameBag (x ∷ xs) (get_or xs j d ∷ set xs j x)
exchanged x d [] j l = absurd (omega arith)
exchanged x d (y ∷ ys) zero l = swapped
exchanged x d (y ∷ ys) (suc j) l = through swapped (through (first (exchanged x d ys j (omega arith))) swapped)

moved : {X : Type 0} (d : X) (xs : List X) (i j : ℕ) → i < length xs → j < length xs → SameBag xs (set (set xs i (get_or xs j d)) j (get_or xs i d))
moved d [] i j l m = absurd (omega arith)
moved d (x ∷ xs) zero zero l m = same (x ∷ xs)
moved d (x ∷ xs) zero (suc j) l m = exchanged x d xs j (omega arith)
moved d (x ∷ xs) (suc i) zero l m = exchanged x d xs i (omega arith)
moved d (x ∷ xs) (suc i) (suc j) l m = first (moved d xs i j (omega arith) (omega arith))

moved_once : {X : Type 0} (xs : List X) (i j : ℕ) → i < length xs → j < length xs → SameBag xs (swap xs i j)
moved_once [] i j l m = absurd (omega arith)
moved_once (x ∷ xs) i j l m = moved x (x ∷ xs) i j l m

pub unpermuted : {X : Type 0} (xs ys : List X) → IsPermutation xs ys → SameBag xs ys
unpermuted xs ys p = IsPermutation-keeps xs (λ l. SameBag xs l) (same xs) (λ l i j a b s. through s (moved_once l i j a b)) ys p
