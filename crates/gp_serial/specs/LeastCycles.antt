-- Part of the law `least_cycles_are_shortest`: what the least cycle of a relation is, in its own words.
use Rattle.std.specs.Prelude.{◌≡◌, ◌≢◌, ℕ, ◌<◌, ◌≤◌, Bool, true, List, length, get_or, Contains}
use Rattle.std.specs.Cmp.Lexicographic.{slice_cmp}
use Rattle.std.specs.Ordering.{is_le, nat_cmp}
use Rattle.gp_serial.specs.Graphs.{is_cycle}

-- a cycle of these numbers
pub record IsCycleOf (is_before : ℕ → ℕ → Bool) (all cycle : List ℕ) : Type 0 where
  pub closes : is_cycle is_before cycle ≡ true
  pub among : (t : ℕ) → Contains cycle t → Contains all t

pub record IsLeastCycle (is_before : ℕ → ℕ → Bool) (all cycle : List ℕ) : Type 0 where
  pub own : IsCycleOf is_before all cycle
  -- none is shorter
  pub shortest : (other : List ℕ) → IsCycleOf is_before all other → length cycle ≤ length other
  -- none of its length comes first in order
  pub first : (other : List ℕ) → IsCycleOf is_before all other → length other ≡ length cycle → is_le (slice_cmp nat_cmp cycle other) ≡ true
  -- it begins at its least number
  pub begins : (t : ℕ) → Contains cycle t → get_or cycle 0 0 ≤ t
  -- no number occurs twice
  pub once : (i j : ℕ) → i < j → j < length cycle → get_or cycle i 0 ≢ get_or cycle j 0
