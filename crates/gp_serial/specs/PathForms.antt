-- Of the contracts of the search for the cycles of pairs: how many steps lead from each number to a last one on its shortest paths, and the least number on these. Each
-- level of the search has the numbers of one step more.
use Rattle.std.specs.Prelude.{Vec, ◌≡◌, ◌<◌, ◌≤◌, ℕ, zero, suc, ◌-◌, ◌==◌, ◌&&◌, nat_le, nat_lt, Bool, true, false, List, [], ◌∷◌, ◌++◌, filter, find, get_or, length, map, replicate, set, take, Option, Some, None, is_none, if◌then◌else◌}
use Rattle.std.specs.declared.alloc.Global.{Global}
use Rattle.std.specs.List.{AllByRecursion, flat_map}
use Rattle.std.specs.Option.{option_map_or}
use Rattle.gp_serial.specs.declared.pair_cycle.Cycle.{Cycle}
use Rattle.gp_serial.specs.declared.pair_cycle.Path.{Path}
use Rattle.gp_serial.specs.PairCycles.{inserted, line_count}

-- the lesser of two
abbrev pub lesser : ℕ → ℕ → ℕ
lesser a b = if nat_lt b a then b else a

-- the list of a number
abbrev pub list_at : List (Vec ℕ Global) → ℕ → List ℕ
list_at lists t = get_or (map (λ list. list.items) lists) t []

module _ (is_before : ℕ → ℕ → Bool) (all : List ℕ) where
  -- those that are before a number, and those that it is before
  abbrev pub before : ℕ → List ℕ
  before t = filter (λ from. is_before from t) all

  abbrev pub after : ℕ → List ℕ
  after t = filter (is_before t) all

-- ---- levels

-- the path of a number, given one of so many steps through another, on whose paths this is the least number
abbrev pub nearer : ℕ → ℕ → ℕ → Option Path → Path
nearer steps least t None = record { steps = steps; least = lesser t least }
nearer steps least t (Some path) = if path.steps == steps then record { steps = steps; least = lesser path.least least } else path

abbrev pub reach : ℕ → ℕ → ℕ → List (Option Path) → List (Option Path)
reach steps least t paths = set paths t (Some (nearer steps least t (get_or paths t None)))

-- the number, if it had no path
abbrev pub fresh_one : ℕ → Option Path → List ℕ
fresh_one t path = if is_none path then t ∷ [] else []

abbrev pub if_fresh : ℕ → List (Option Path) → List ℕ
if_fresh t paths = fresh_one t (get_or paths t None)

abbrev pub reach_each : ℕ → ℕ → List ℕ → List (Option Path) → List (Option Path)
reach_each steps least [] paths = paths
reach_each steps least (t ∷ others) paths = reach_each steps least others (reach steps least t paths)

abbrev pub fresh : ℕ → ℕ → List ℕ → List (Option Path) → List ℕ
fresh steps least [] paths = []
fresh steps least (t ∷ others) paths = if_fresh t paths ++ fresh steps least others (reach steps least t paths)

abbrev pub least_at : ℕ → List (Option Path) → ℕ
least_at t paths = option_map_or (λ (path : Path). path.least) (get_or paths t None) t

module _ (from : ℕ → List ℕ) where
  -- through each number of a level
  abbrev pub spread : ℕ → List ℕ → List (Option Path) → List (Option Path)
  spread steps [] paths = paths
  spread steps (t ∷ level) paths = spread steps level (reach_each steps (least_at t paths) (from t) paths)

  abbrev pub next_level : ℕ → List ℕ → List (Option Path) → List ℕ
  next_level steps [] paths = []
  next_level steps (t ∷ level) paths = fresh steps (least_at t paths) (from t) paths ++ next_level steps level (reach_each steps (least_at t paths) (from t) paths)

  abbrev pub paths_from : ℕ → ℕ → List ℕ → List (Option Path) → List (Option Path)
  paths_from zero steps level paths = paths
  paths_from (suc more) steps level paths = paths_from more (suc steps) (next_level (suc steps) level paths) (spread (suc steps) level paths)

  -- the paths to a number of at most so many steps, for the numbers below a count
  abbrev pub paths_to : ℕ → ℕ → ℕ → List (Option Path)
  paths_to count most last = paths_from most 0 (last ∷ []) (set (replicate count None) last (Some (record { steps = 0; least = last })))

-- ---- down the paths

abbrev pub has_steps : ℕ → Option Path → Bool
has_steps steps path = option_map_or (λ (own : Path). own.steps == steps) path false

abbrev pub steps_at : ℕ → List (Option Path) → ℕ
steps_at t paths = option_map_or (λ (path : Path). path.steps) (get_or paths t None) 0

module _ (to : ℕ → List ℕ) (paths : List (Option Path)) where
  abbrev pub next_down : ℕ → ℕ → Option ℕ
  next_down steps from = find (λ t. has_steps steps (get_or paths t None)) (to from)

  -- the numbers behind this one, of which so many steps remain
  abbrev pub down : ℕ → ℕ → List ℕ
  down zero from = []
  down (suc steps) from = option_map_or (λ (t : ℕ). t ∷ down steps t) (next_down steps from) []

abbrev pub without_last : List ℕ → List ℕ
without_last list = take (length list - 1) list

-- from the least number to a, and from b, which is behind it, back to before the least
abbrev pub joined : (ℕ → List ℕ) → List (Option Path) → List (Option Path) → ℕ → ℕ → List ℕ
joined to to_a to_least least b =
    without_last ((least ∷ down to to_a (steps_at least to_a) least) ++ b ∷ down to to_least (steps_at b to_least) b)

-- given the path from b to a
abbrev pub cycle_by : (ℕ → List ℕ) → (ℕ → List ℕ) → ℕ → List (Option Path) → Path → ℕ → List ℕ
cycle_by from to count to_a path b = joined to to_a (paths_to from count (path.steps - steps_at path.least to_a) path.least) path.least b

-- ---- all pairs

-- the lists of the numbers below a count
pub record AreLists (list : ℕ → List ℕ) (count : ℕ) (lists : List (Vec ℕ Global)) : Type 0 where
  pub long : length lists ≡ count
  pub each : (t : ℕ) → t < count → list_at lists t ≡ list t

-- the cycle of a pair, if there is a path back
abbrev pub cycles_to : (ℕ → List ℕ) → (ℕ → List ℕ) → ℕ → List (Option Path) → List ℕ → List (List ℕ)
cycles_to from to count to_a = flat_map (λ b. option_map_or (λ (path : Path). cycle_by from to count to_a path b ∷ []) (get_or to_a b None) [])

-- of a number and those to which it goes back
abbrev pub cycles_back : (ℕ → List ℕ) → (ℕ → List ℕ) → ℕ → ℕ → List ℕ → ℕ → List (List ℕ)
cycles_back from to count most backs a = cycles_to from to count (paths_to from count most a) backs

-- it is before one with a lesser version
abbrev pub goes_back : (ℕ → ℕ → Bool) → List ℕ → ℕ → ℕ → Bool
goes_back is_before versions a b = is_before a b && nat_lt (get_or versions b 0) (get_or versions a 0)

-- those of all of these numbers
abbrev pub all_cycles : (ℕ → ℕ → Bool) → List ℕ → List ℕ → (ℕ → List ℕ) → (ℕ → List ℕ) → ℕ → ℕ → List ℕ → List (List ℕ)
all_cycles is_before versions all from to count most = flat_map (λ a. cycles_back from to count most (filter (goes_back is_before versions a) all) a)

-- those of at most so many lines
abbrev pub few_cycles : ℕ → List (List ℕ) → Option (List (List ℕ))
few_cycles most cycles = if nat_lt most (line_count cycles) then None else Some cycles

-- ---- a set of cycles

abbrev pub numbers_of : List Cycle → List (List ℕ)
numbers_of = map (λ (cycle : Cycle). cycle.numbers.items)

abbrev pub AreCounted : List Cycle → Type 0
AreCounted = AllByRecursion (λ (cycle : Cycle). cycle.count ≡ length cycle.numbers.items)

-- these, of so many lines
pub record AreCollected (most : ℕ) (cycles : List Cycle) (lines : ℕ) : Type 0 where
  pub counted : AreCounted cycles
  pub lines-is : lines ≡ line_count (numbers_of cycles)
  pub few : lines ≤ most

-- others were inserted, unless these are too many lines
pub record Inserts (most : ℕ) (more : List (List ℕ)) (old new : List Cycle) (lines : ℕ) (fits : Bool) : Type 0 where
  pub fits-is : fits ≡ nat_le (line_count (inserted (numbers_of old) more)) most
  pub kept : fits ≡ true → (numbers_of new ≡ inserted (numbers_of old) more) × AreCollected most new lines
