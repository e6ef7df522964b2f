-- Part of the law `pair_cycles_are_first`: what the cycles of pairs are, in their own words.
use Rattle.std.specs.Prelude.{◌≡◌, ℕ, ◌≤◌, Bool, true, List, length, Contains}
use Rattle.std.specs.Cmp.Lexicographic.{slice_cmp}
use Rattle.std.specs.List.{AllByRecursion, list_any}
use Rattle.std.specs.List.Sorted.{IsStrictlySortedBy}
use Rattle.std.specs.Ordering.{is_le, nat_cmp}
use Rattle.gp_serial.specs.LeastCycles.{IsCycleOf}
use Rattle.gp_serial.specs.PairCycles.{cycle_cmp, has_pair}

-- a cycle in which b follows a
pub record IsThrough (is_before : ℕ → ℕ → Bool) (all : List ℕ) (a b : ℕ) (cycle : List ℕ) : Type 0 where
  pub own : IsCycleOf is_before all cycle
  pub pair : has_pair a b cycle ≡ true

pub record IsFirstThrough (is_before : ℕ → ℕ → Bool) (all : List ℕ) (a b : ℕ) (cycle : List ℕ) : Type 0 where
  pub through : IsThrough is_before all a b cycle
  -- none is shorter
  pub shortest : (other : List ℕ) → IsThrough is_before all a b other → length cycle ≤ length other
  -- none of its length comes first in order
  pub first : (other : List ℕ) → IsThrough is_before all a b other → length other ≡ length cycle → is_le (slice_cmp nat_cmp cycle other) ≡ true

pub record IsOfPair (is_before : ℕ → ℕ → Bool) (all : List ℕ) (goes_back : ℕ → ℕ → Bool) (cycle : List ℕ) : Type 0 where
  pub a : ℕ
  pub b : ℕ
  pub back : goes_back a b ≡ true
  pub first : IsFirstThrough is_before all a b cycle

pub record ArePairCycles (is_before : ℕ → ℕ → Bool) (all : List ℕ) (goes_back : ℕ → ℕ → Bool) (cycles : List (List ℕ)) : Type 0 where
  -- each is the first of the shortest ones through a pair that goes back
  pub each : AllByRecursion (IsOfPair is_before all goes_back) cycles
  -- each pair that goes back, and through which there is a cycle of no more numbers than there are, stands in one of them
  pub whole : (a b : ℕ) → Contains all a → Contains all b → goes_back a b ≡ true → (other : List ℕ) → IsThrough is_before all a b other → length other ≤ length all
      → list_any (has_pair a b) cycles ≡ true
  -- each occurs once, by length and then in order
  pub order : IsStrictlySortedBy cycle_cmp cycles

-- a pair of these numbers that goes back stands in a cycle
pub record GoesBackIn (goes_back : ℕ → ℕ → Bool) (all cycle : List ℕ) : Type 0 where
  pub a : ℕ
  pub b : ℕ
  pub a-among : Contains all a
  pub b-among : Contains all b
  pub back : goes_back a b ≡ true
  pub pair : has_pair a b cycle ≡ true
