-- Lists from a place on.
use Rattle.gp_sql.proofs.Prelude.{◌≡◌, ◌+◌, ◌<◌, ℕ, zero, suc, List, [], ◌∷◌, drop, length, get_or, refl, sym, ap, arith, Some, slice_get}
use Rattle.std.proofs.lemmas.Option.{same_Some}

pub one-more : (n : ℕ) → n + 1 ≡ suc n
one-more n = omega arith

pub drop-one : {X : Type 0} (n : ℕ) (xs : List X) → drop 1 (drop n xs) ≡ drop (suc n) xs
drop-one zero xs = refl
drop-one (suc n) [] = refl
drop-one (suc n) (x ∷ xs) = drop-one n xs

pub drop-get : {X : Type 0} (xs : List X) (n : ℕ) (x : X) → slice_get xs n ≡ Some x → drop n xs ≡ x ∷ drop (suc n) xs
drop-get [] n x is = absurd cc
drop-get (y ∷ xs) zero x is = ap (λ z. z ∷ xs) (same_Some y x is)
drop-get (y ∷ xs) (suc n) x is = drop-get xs n x is

pub length-drop : {X : Type 0} (xs : List X) (n : ℕ) → n < length xs → length (drop n xs) ≡ suc (length (drop (suc n) xs))
length-drop [] n within = absurd (omega (arith, within))
length-drop (x ∷ xs) zero within = refl
length-drop (x ∷ xs) (suc n) within = length-drop xs n (omega (arith, within))

-- the item at a place, as a loop finds it
pub item-there : {X : Type 0} (xs : List X) (n : ℕ) (x : X) → n < length xs → x ≡ get_or xs n x → slice_get xs n ≡ Some x
item-there [] n x within is = absurd (omega (arith, within))
item-there (y ∷ xs) zero x within is = ap Some (sym is)
item-there (y ∷ xs) (suc n) x within is = item-there xs n x (omega (arith, within)) is
