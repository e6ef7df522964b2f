-- Bags: lists with the same items, each as often, in any order; what takes equal bags to equal bags, and what they share.
use Rattle.std.proofs.Common.{◌≡◌, suc, Bool, true, false, cond, List, [], ◌∷◌, ◌++◌, length, refl, sym, ap, ◌∙◌, subst, map}
use Rattle.std.specs.Prelude.{◌||◌}
use Rattle.std.specs.List.{filter, flat_map, list_any}
use Rattle.std.proofs.lemmas.List.{append-nil, append_assoc}

pub data SameBag {X : Type 0} : List X → List X → Type 0 where
  none : SameBag [] []
  first : {x : X} {xs ys : List X} → SameBag xs ys → SameBag (x ∷ xs) (x ∷ ys)
  swapped : {x y : X} {xs : List X} → SameBag (x ∷ y ∷ xs) (y ∷ x ∷ xs)
  through : {xs ys zs : List X} → SameBag xs ys → SameBag ys zs → SameBag xs zs

pub same : {X : Type 0} (xs : List X) → SameBag xs xs
same [] = none
same (x ∷ xs) = first (same xs)

pub same_from : {X : Type 0} (xs ys : List X) → xs ≡ ys → SameBag xs ys
same_from xs ys e = subst (SameBag xs) e (same xs)

pub turned : {X : Type 0} {xs ys : List X} → SameBag xs ys → SameBag ys xs
turned none = none
turned (first s) = first (turned s)
turned swapped = swapped
turned (through s t) = through (turned t) (turned s)

-- ---- joined lists

pub before : {X : Type 0} (zs : List X) {xs ys : List X} → SameBag xs ys → SameBag (zs ++ xs) (zs ++ ys)
before [] s = s
before (z ∷ zs) s = first (before zs s)

pub behind : {X : Type 0} (zs : List X) {xs ys : List X} → SameBag xs ys → SameBag (xs ++ zs) (ys ++ zs)
behind zs none = same zs
behind zs (first s) = first (behind zs s)
behind zs swapped = swapped
behind zs (through s t) = through (behind zs s) (behind zs t)

pub joined : {X : Type 0} {xs ys us vs : List X} → SameBag xs ys → SameBag us vs → SameBag (xs ++ us) (ys ++ vs)
joined {ys = ys} {us = us} s t = through (behind us s) (before ys t)

pub to_front : {X : Type 0} (x : X) (xs ys : List X) → SameBag (xs ++ (x ∷ ys)) (x ∷ (xs ++ ys))
to_front x [] ys = same (x ∷ ys)
to_front x (z ∷ zs) ys = through (first (to_front x zs ys)) swapped

pub crossed : {X : Type 0} (xs ys : List X) → SameBag (xs ++ ys) (ys ++ xs)
crossed [] ys = same_from ys (ys ++ []) (sym (append-nil ys))
crossed (x ∷ xs) ys = through (first (crossed xs ys)) (turned (to_front x ys xs))

-- ---- what respects bags

pub mapped : {X Y : Type 0} (f : X → Y) {xs ys : List X} → SameBag xs ys → SameBag (map f xs) (map f ys)
mapped f none = none
mapped f (first s) = first (mapped f s)
mapped f swapped = swapped
mapped f (through s t) = through (mapped f s) (mapped f t)

kept_first : {X : Type 0} (x : X) (b : Bool) (xs ys : List X) → SameBag xs ys → SameBag (cond b (x ∷ xs) xs) (cond b (x ∷ ys) ys)
kept_first x true xs ys s = first s
kept_first x false xs ys s = s

kept_swapped : {X : Type 0} (x y : X) (b c : Bool) (xs : List X) → SameBag (cond b (x ∷ cond c (y ∷ xs) xs) (cond c (y ∷ xs) xs)) (cond c (y ∷ cond b (x ∷ xs) xs) (cond b (x ∷ xs) xs))
kept_swapped x y true true xs = swapped
kept_swapped x y true false xs = same (x ∷ xs)
kept_swapped x y false true xs = same (y ∷ xs)
kept_swapped x y false false xs = same xs

pub filtered : {X : Type 0} (p : X → Bool) {xs ys : List X} → SameBag xs ys → SameBag (filter p xs) (filter p ys)
filtered p none = none
filtered p (first {x = x} {xs = xs} {ys = ys} s) = kept_first x (p x) (filter p xs) (filter p ys) (filtered p s)
filtered p (swapped {x = x} {y = y} {xs = xs}) = kept_swapped x y (p x) (p y) (filter p xs)
filtered p (through s t) = through (filtered p s) (filtered p t)

pub swapped_fronts : {X : Type 0} (us vs cs : List X) → SameBag (us ++ (vs ++ cs)) (vs ++ (us ++ cs))
swapped_fronts us vs cs = through (same_from (us ++ (vs ++ cs)) ((us ++ vs) ++ cs) (sym (append_assoc us vs cs))) (through (behind cs (crossed us vs)) (same_from ((vs ++ us) ++ cs) (vs ++ (us ++ cs)) (append_assoc vs us cs)))

pub flat_mapped : {X Y : Type 0} (f : X → List Y) {xs ys : List X} → SameBag xs ys → SameBag (flat_map f xs) (flat_map f ys)
flat_mapped f none = none
flat_mapped f (first {x = x} s) = before (f x) (flat_mapped f s)
flat_mapped f (swapped {x = x} {y = y} {xs = xs}) = swapped_fronts (f x) (f y) (flat_map f xs)
flat_mapped f (through s t) = through (flat_mapped f s) (flat_mapped f t)

pub flat_mapped_each : {X Y : Type 0} (f g : X → List Y) → ((x : X) → SameBag (f x) (g x)) → (xs : List X) → SameBag (flat_map f xs) (flat_map g xs)
flat_mapped_each f g each [] = none
flat_mapped_each f g each (x ∷ xs) = joined (each x) (flat_mapped_each f g each xs)

-- ---- what equal bags share

pub as_long : {X : Type 0} {xs ys : List X} → SameBag xs ys → length xs ≡ length ys
as_long none = refl
as_long (first s) = ap suc (as_long s)
as_long swapped = refl
as_long (through s t) = as_long s ∙ as_long t

pub or_swapped : (b c d : Bool) → (b || (c || d)) ≡ (c || (b || d))
or_swapped true true d = refl
or_swapped true false d = refl
or_swapped false true d = refl
or_swapped false false d = refl

pub any_same : {X : Type 0} (p : X → Bool) {xs ys : List X} → SameBag xs ys → list_any p xs ≡ list_any p ys
any_same p none = refl
any_same p (first {x = x} s) = ap (λ b. p x || b) (any_same p s)
any_same p (swapped {x = x} {y = y} {xs = xs}) = or_swapped (p x) (p y) (list_any p xs)
any_same p (through s t) = any_same p s ∙ any_same p t
