-- Of the laws `sums_need_no_order` and `groups_hold_totals`: sums in their order.
use Rattle.std.specs.Prelude.{ℕ, ◌≤◌, List, [], ◌∷◌, IsTrue}
use Rattle.std.specs.declared.cmp.Ordering.{Ordering}
use Rattle.std.specs.FinMap.{is_sorted}

-- each item holds it
abbrev pub Each : {X : Type 0} → (X → Type 0) → List X → Type 0
Each P [] = Unit {0}
Each P (x ∷ xs) = P x × Each P xs

-- keys strictly rise, each is one of those allowed, and each count is from 1 to the most
pub record IsSum {K : Type 0} (R : K → K → Ordering) (is_key : K → Type 0) (most : ℕ) (terms : List (K × ℕ)) : Type 0 where
  pub sorted : IsTrue (is_sorted R terms)
  pub each : Each (λ t. is_key t.0 × ((1 ≤ t.1) × (t.1 ≤ most))) terms

-- the sum, from zero
abbrev pub total : {K : Type 0} → K → (K → K → K) → List K → K
total zero_of plus [] = zero_of
total zero_of plus (a ∷ elements) = plus a (total zero_of plus elements)
