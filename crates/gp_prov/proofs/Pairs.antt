-- Two lists of equal length that are related item by item.
use Rattle.std.proofs.Common.{◌≡◌, Bool, true, false, cond, List, [], ◌∷◌, ◌++◌, refl, subst, map}
use Rattle.std.specs.Prelude.{◌||◌}
use Rattle.std.specs.List.{filter, flat_map, list_any}

pub data Pairwise {X Y : Type 0} (R : X → Y → Type 0) : List X → List Y → Type 0 where
  none : Pairwise R [] []
  both : {x : X} {y : Y} {xs : List X} {ys : List Y} → R x y → Pairwise R xs ys → Pairwise R (x ∷ xs) (y ∷ ys)

pub pair_append : {X Y : Type 0} {R : X → Y → Type 0} {xs us : List X} {ys vs : List Y} →
    Pairwise R xs ys → Pairwise R us vs → Pairwise R (xs ++ us) (ys ++ vs)
pair_append none q = q
pair_append (both r p) q = both r (pair_append p q)

pub pair_map : {X Y U V : Type 0} {R : X → Y → Type 0} (S : U → V → Type 0) (f : X → U) (g : Y → V) → ((x : X) (y : Y) → R x y → S (f x) (g y)) →
    {xs : List X} {ys : List Y} → Pairwise R xs ys → Pairwise S (map f xs) (map g ys)
pair_map S f g h none = none
pair_map S f g h (both {x = x} {y = y} r p) = both (h x y r) (pair_map S f g h p)

pub pair_weaker : {X Y : Type 0} {R : X → Y → Type 0} (S : X → Y → Type 0) → ((x : X) (y : Y) → R x y → S x y) →
    {xs : List X} {ys : List Y} → Pairwise R xs ys → Pairwise S xs ys
pair_weaker S h none = none
pair_weaker S h (both {x = x} {y = y} r p) = both (h x y r) (pair_weaker S h p)

pub pair_flat_map : {X Y U V : Type 0} {R : X → Y → Type 0} (S : U → V → Type 0) (f : X → List U) (g : Y → List V) →
    ((x : X) (y : Y) → R x y → Pairwise S (f x) (g y)) →
    {xs : List X} {ys : List Y} → Pairwise R xs ys → Pairwise S (flat_map f xs) (flat_map g ys)
pair_flat_map S f g h none = none
pair_flat_map S f g h (both {x = x} {y = y} r p) = pair_append (h x y r) (pair_flat_map S f g h p)

kept : {X Y : Type 0} (R : X → Y → Type 0) (x : X) (y : Y) (xs : List X) (ys : List Y) (b : Bool) →
    R x y → Pairwise R xs ys → Pairwise R (cond b (x ∷ xs) xs) (cond b (y ∷ ys) ys)
kept R x y xs ys true r p = both r p
kept R x y xs ys false r p = p

pub pair_filter : {X Y : Type 0} (R : X → Y → Type 0) (f : X → Bool) (g : Y → Bool) → ((x : X) (y : Y) → R x y → f x ≡ g y) →
    {xs : List X} {ys : List Y} → Pairwise R xs ys → Pairwise R (filter f xs) (filter g ys)
pair_filter R f g h none = none
pair_filter R f g h (both {x = x} {y = y} {xs = xs} {ys = ys} r p) =
    subst (λ b. Pairwise R (cond (f x) (x ∷ filter f xs) (filter f xs)) (cond b (y ∷ filter g ys) (filter g ys))) (h x y r)
    (kept R x y (filter f xs) (filter g ys) (f x) r (pair_filter R f g h p))

pub pair_any : {X Y : Type 0} (R : X → Y → Type 0) (f : X → Bool) (g : Y → Bool) → ((x : X) (y : Y) → R x y → f x ≡ g y) →
    {xs : List X} {ys : List Y} → Pairwise R xs ys → list_any f xs ≡ list_any g ys
pair_any R f g h none = refl
pair_any R f g h (both {x = x} {y = y} r p) = λ i. h x y r i || pair_any R f g h p i

-- each left item is a function of its right one
pub pair_is : {X Y : Type 0} {R : X → Y → Type 0} (f : Y → X) → ((x : X) (y : Y) → R x y → x ≡ f y) →
    {xs : List X} {ys : List Y} → Pairwise R xs ys → xs ≡ map f ys
pair_is f h none = refl
pair_is f h (both {x = x} {y = y} r p) = λ i. h x y r i ∷ pair_is f h p i
