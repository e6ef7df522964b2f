-- Of the contracts of the search for a cycle: which numbers reach another one in so many steps.
use Rattle.std.specs.Prelude.{◌≡◌, ℕ, zero, suc, ◌&&◌, ◌-◌, ◌<◌, Bool, List, [], ◌∷◌, find, get_or, length, map, Option, Some, None, if◌then◌else◌}
use Rattle.std.specs.List.{list_any}
use Rattle.std.specs.Option.{option_map_or, option_or}
use Rattle.gp_serial.specs.Graphs.{closes, lists_of}

module _ (is_before : ℕ → ℕ → Bool) where
  -- the first of some numbers that is flagged and that a number is before
  abbrev pub first_step : ℕ → List ℕ → List Bool → Option ℕ
  first_step from [] flags = None
  first_step from (to ∷ others) [] = None
  first_step from (to ∷ others) (flag ∷ flags) = if flag && is_before from to then Some to else first_step from others flags

  module _ (all : List ℕ) where
    -- whether a number reaches the last one through so many of these
    abbrev pub reaches : ℕ → ℕ → ℕ → Bool
    reaches last zero from = is_before from last
    reaches last (suc steps) from = list_any (λ to. is_before from to && reaches last steps to) all

    -- the flags of the numbers
    abbrev pub AreReaching : ℕ → ℕ → List Bool → Type 0
    AreReaching last steps flags = flags ≡ map (reaches last steps) all

    -- the first cycle of this many that begins at a number
    abbrev pub first_walk : ℕ → ℕ → Option (List ℕ)
    first_walk first zero = None
    first_walk first (suc more) = find (closes is_before first) (map (λ others. first ∷ others) (lists_of more all))

    -- the first one that begins at one of these
    abbrev pub first_cycle : ℕ → List ℕ → Option (List ℕ)
    first_cycle count [] = None
    first_cycle count (first ∷ others) = option_or (first_walk first count) (first_cycle count others)

    -- the first of the shortest ones, of more numbers than this, for so many lengths
    abbrev pub shortest_for : ℕ → ℕ → List ℕ
    shortest_for zero count = []
    shortest_for (suc more) count = option_map_or (λ (cycle : List ℕ). cycle) (first_cycle (suc count) all) (shortest_for more (suc count))

    abbrev pub shortest_from : ℕ → List ℕ
    shortest_from count = shortest_for (length all - count) count

-- the flags for each count of steps below this one
pub record AreLevels (is_before : ℕ → ℕ → Bool) (all : List ℕ) (last below : ℕ) (levels : List (List Bool)) : Type 0 where
  pub count : length levels ≡ below
  pub each : (steps : ℕ) → steps < below → AreReaching is_before all last steps (get_or levels steps [])
