-- Lists of which each two items are in a relation.
use Rattle.std.proofs.Common.{Bool, true, false, cond, List, [], ◌∷◌, ◌++◌, map}
use Rattle.std.specs.List.{filter, AllByRecursion}
use Rattle.gp_base.proofs.SmallLemmas.{each_append}

-- each two are in the relation, in order
abbrev pub Pairwise : {X : Type 0} → (X → X → Type 0) → List X → Type 0
Pairwise R [] = Unit {0}
Pairwise R (x ∷ xs) = AllByRecursion (R x) xs × Pairwise R xs

pub all-filter : {X : Type 0} (P : X → Type 0) (p : X → Bool) (xs : List X) → AllByRecursion P xs → AllByRecursion P (filter p xs)
all-filter P p [] all = tt
all-filter P p (x ∷ xs) all = elim (p x) as (λ b. AllByRecursion P (cond b (x ∷ filter p xs) (filter p xs))) [ true ↦ (all.0, all-filter P p xs all.1) | false ↦ all-filter P p xs all.1 ]

-- a weaker fact of all
pub all-weaker : {X : Type 0} (P Q : X → Type 0) → ((x : X) → P x → Q x) → (xs : List X) → AllByRecursion P xs → AllByRecursion Q xs
all-weaker P Q weaker [] all = tt
all-weaker P Q weaker (x ∷ xs) all = (weaker x all.0, all-weaker P Q weaker xs all.1)

-- what holds of all, whatever the item
pub all-of : {X Y : Type 0} (f : X → Y) (P : Y → Type 0) → ((x : X) → P (f x)) → (xs : List X) → AllByRecursion P (map f xs)
all-of f P each [] = tt
all-of f P each (x ∷ xs) = (each x, all-of f P each xs)

pub all-map : {X Y : Type 0} (f : X → Y) (P : X → Type 0) (Q : Y → Type 0) → ((x : X) → P x → Q (f x)) → (xs : List X) → AllByRecursion P xs → AllByRecursion Q (map f xs)
all-map f P Q keeps [] all = tt
all-map f P Q keeps (x ∷ xs) all = (keeps x all.0, all-map f P Q keeps xs all.1)

pub pairwise-append : {X : Type 0} (R : X → X → Type 0) (xs ys : List X) → Pairwise R xs → Pairwise R ys → AllByRecursion (λ x. AllByRecursion (R x) ys) xs → Pairwise R (xs ++ ys)
pairwise-append R [] ys left right across = right
pairwise-append R (x ∷ xs) ys left right across = (each_append (R x) xs ys left.0 across.0, pairwise-append R xs ys left.1 right across.1)

pub pairwise-filter : {X : Type 0} (R : X → X → Type 0) (p : X → Bool) (xs : List X) → Pairwise R xs → Pairwise R (filter p xs)
pairwise-filter R p [] all = tt
pairwise-filter R p (x ∷ xs) all = elim (p x) as (λ b. Pairwise R (cond b (x ∷ filter p xs) (filter p xs))) [ true ↦ (all-filter (R x) p xs all.0, pairwise-filter R p xs all.1) | false ↦ pairwise-filter R p xs all.1 ]

pub pairwise-map : {X Y : Type 0} (f : X → Y) (R : X → X → Type 0) (S : Y → Y → Type 0) → ((a b : X) → R a b → S (f a) (f b)) → (xs : List X) → Pairwise R xs → Pairwise S (map f xs)
pairwise-map f R S keeps [] all = tt
pairwise-map f R S keeps (x ∷ xs) all = (all-map f (R x) (S (f x)) (keeps x) xs all.0, pairwise-map f R S keeps xs all.1)
