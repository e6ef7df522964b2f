-- What holds of every item of a list, and tests that hold both.
use Rattle.std.proofs.Common.{◌≡◌, Bool, true, false, cond, List, [], ◌∷◌, map}
use Rattle.std.specs.List.{AllByRecursion, filter, list_all}
use Rattle.gp_base.proofs.SmallLemmas.{left_true, right_true}

-- ---- tests

-- a test of each item
pub each_passes : {X : Type 0} (P : X → Type 0) (test : X → Bool) → ((x : X) → test x ≡ true → P x) → (xs : List X) → list_all test xs ≡ true → AllByRecursion P xs
each_passes P test holds [] e = tt
each_passes P test holds (x ∷ xs) e = (holds x (left_true (test x) (list_all test xs) e), each_passes P test holds xs (right_true (test x) (list_all test xs) e))

-- a weaker test of each item

-- ---- what holds of each

pub each_filter : {X : Type 0} (P : X → Type 0) (p : X → Bool) (xs : List X) → AllByRecursion P xs → AllByRecursion P (filter p xs)
each_filter P p [] a = tt
each_filter P p (x ∷ xs) a = kept (p x) (each_filter P p xs a.1)
  where
    kept : (b : Bool) → AllByRecursion P (filter p xs) → AllByRecursion P (cond b (x ∷ filter p xs) (filter p xs))
    kept true r = (a.0, r)
    kept false r = r

pub each_made : {X Y : Type 0} (P : Y → Type 0) (f : X → Y) → ((x : X) → P (f x)) → (xs : List X) → AllByRecursion P (map f xs)
each_made P f g [] = tt
each_made P f g (x ∷ xs) = (g x, each_made P f g xs)
