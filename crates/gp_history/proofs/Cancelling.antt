-- Equal bags are equal without what they share.
use Rattle.std.proofs.Common.{◌≡◌, ◌⊎◌, inl, inr, Bool, true, false, cond, List, [], ◌∷◌, ◌++◌, refl, sym, ◌∙◌, subst}
use Rattle.std.specs.List.{filter}
use Rattle.std.specs.Prelude.{not}
use Rattle.gp_base.proofs.Bags.{SameBag, crossed, first, none, same_from, swapped, through, to_front, turned}

module _ {X : Type 0} where
  -- the items are those of the other list, and this one somewhere
  abbrev HasOneMore : X → List X → List X → Type 0
  HasOneMore x xs [] = ⊥
  HasOneMore x xs (z ∷ zs) = ((x ≡ z) × (xs ≡ zs)) ⊎ ((rest : List X) × ((xs ≡ z ∷ rest) × HasOneMore x rest zs))

  in_front : (x : X) (xs zs : List X) → HasOneMore x xs zs → SameBag zs (x ∷ xs)
  in_front x xs [] at = absurd at
  in_front x xs (z ∷ zs) (inl here) = same_from (z ∷ zs) (x ∷ xs) (λ i. sym here.0 i ∷ sym here.1 i)
  in_front x xs (z ∷ zs) (inr (rest, (is, at))) =
      subst (λ (all : List X). SameBag (z ∷ zs) (x ∷ all)) (sym is) (through (first (in_front x rest zs at)) swapped)

  one_place : (x : X) (xs ys zs : List X) → HasOneMore x xs zs → HasOneMore x ys zs → SameBag xs ys
  one_place x xs ys [] at other = absurd at
  one_place x xs ys (z ∷ zs) (inl here) (inl there) = same_from xs ys (here.1 ∙ sym there.1)
  one_place x xs ys (z ∷ zs) (inl here) (inr (rest, (is, at))) =
      subst (λ (all : List X). SameBag xs all) ((λ i. here.0 i ∷ rest) ∙ sym is) (subst (λ (all : List X). SameBag all (x ∷ rest)) (sym here.1) (in_front x rest zs at))
  one_place x xs ys (z ∷ zs) (inr (rest, (is, at))) (inl there) =
      turned (subst (λ (all : List X). SameBag ys all) ((λ i. there.0 i ∷ rest) ∙ sym is) (subst (λ (all : List X). SameBag all (x ∷ rest)) (sym there.1) (in_front x rest zs at)))
  one_place x xs ys (z ∷ zs) (inr (rest, (is, at))) (inr (others, (are, there))) =
      subst (λ (all : List X). SameBag all ys) (sym is) (subst (λ (all : List X). SameBag (z ∷ rest) all) (sym are) (first (one_place x rest others zs at there)))

  -- an equal bag has it too, and the others are equal
  carried : (x : X) {us vs : List X} → SameBag us vs → (xs : List X) → HasOneMore x xs us → (ys : List X) × (HasOneMore x ys vs × SameBag xs ys)
  carried x none xs at = absurd at
  carried x (first {x = y} {xs = us} {ys = vs} s) xs (inl here) = (vs, (inl (here.0, refl), subst (λ (all : List X). SameBag all vs) (sym here.1) s))
  carried x (first {x = y} {xs = us} {ys = vs} s) xs (inr (rest, (is, at))) =
      let more = carried x s rest at in
      (y ∷ more.0, (inr (more.0, (refl, more.1.0)), subst (λ (all : List X). SameBag all (y ∷ more.0)) (sym is) (first more.1.1)))
  carried x (swapped {x = a} {y = b} {xs = ws}) xs (inl here) = (b ∷ ws, (inr (ws, (refl, inl (here.0, refl))), same_from xs (b ∷ ws) here.1))
  carried x (swapped {x = a} {y = b} {xs = ws}) xs (inr (rest, (is, inl there))) =
      (a ∷ ws, (inl (there.0, refl), same_from xs (a ∷ ws) (is ∙ (λ i. a ∷ there.1 i))))
  carried x (swapped {x = a} {y = b} {xs = ws}) xs (inr (rest, (is, inr (others, (are, at))))) =
      (b ∷ a ∷ others, (inr (a ∷ others, (refl, inr (others, (refl, at)))), subst (λ (all : List X). SameBag all (b ∷ a ∷ others)) (sym (is ∙ (λ i. a ∷ are i))) swapped))
  carried x (through s t) xs at =
      let one = carried x s xs at in
      let two = carried x t one.0 one.1.0 in
      (two.0, (two.1.0, through one.1.1 two.1.1))

  cancel_first : (x : X) (xs ys : List X) → SameBag (x ∷ xs) (x ∷ ys) → SameBag xs ys
  cancel_first x xs ys s =
      let more = carried x s xs (inl (refl, refl)) in
      through more.1.1 (one_place x more.0 ys (x ∷ ys) more.1.0 (inl (refl, refl)))

  cancel_front : (zs xs ys : List X) → SameBag (zs ++ xs) (zs ++ ys) → SameBag xs ys
  cancel_front [] xs ys s = s
  cancel_front (z ∷ zs) xs ys s = cancel_front zs xs ys (cancel_first z (zs ++ xs) (zs ++ ys) s)

  pub cancel : (xs ys zs : List X) → SameBag (xs ++ zs) (ys ++ zs) → SameBag xs ys
  cancel xs ys zs s = cancel_front zs xs ys (through (crossed zs xs) (through s (crossed ys zs)))

  -- a list is what a filter leaves out and what it keeps
  pub parted : (p : X → Bool) (xs : List X) → SameBag xs (filter (λ x. not (p x)) xs ++ filter p xs)
  parted p [] = none
  parted p (x ∷ xs) =
      elim (p x) as (λ b. SameBag (x ∷ xs) (cond (not b) (x ∷ filter (λ x. not (p x)) xs) (filter (λ x. not (p x)) xs) ++ cond b (x ∷ filter p xs) (filter p xs))) [
        | true ↦ through (first (parted p xs)) (turned (to_front x (filter (λ x. not (p x)) xs) (filter p xs)))
        | false ↦ first (parted p xs)
      ]
