-- Part of the statement: of the cycles of a relation of numbers, for each pair that goes back, the first of the shortest in which it stands.
use Rattle.std.specs.Prelude.{ℕ, suc, ◌+◌, ◌==◌, ◌&&◌, Bool, List, [], ◌∷◌, filter, find, length, Option}
use Rattle.std.specs.BTreeSet.{insert_key}
use Rattle.std.specs.Cmp.Lexicographic.{slice_cmp}
use Rattle.std.specs.List.{flat_map, list_any}
use Rattle.std.specs.Option.{option_map_or}
use Rattle.std.specs.Ordering.{nat_cmp, ordering_then}
use Rattle.std.specs.declared.cmp.Ordering.{Ordering}
use Rattle.gp_machine.specs.Precedence.{numbers}
use Rattle.gp_serial.specs.Graphs.{is_cycle, lists_of}

-- each number with the next one, and the last with this one
abbrev pub pairs_to : ℕ → List ℕ → List (ℕ × ℕ)
pairs_to first [] = []
pairs_to first (a ∷ []) = (a, first) ∷ []
pairs_to first (a ∷ b ∷ others) = (a, b) ∷ pairs_to first (b ∷ others)

-- the pairs of neighbours in a cycle
abbrev pub pairs_of : List ℕ → List (ℕ × ℕ)
pairs_of [] = []
pairs_of (first ∷ others) = pairs_to first (first ∷ others)

abbrev pub is_pair : ℕ → ℕ → ℕ × ℕ → Bool
is_pair a b pair = (pair.0 == a) && (pair.1 == b)

abbrev pub has_pair : ℕ → ℕ → List ℕ → Bool
has_pair a b cycle = list_any (is_pair a b) (pairs_of cycle)

-- the lists of some numbers, by length and then in order, if these are in order
abbrev pub lists_up : List ℕ → List (List ℕ)
lists_up all = flat_map (λ n. lists_of n all) (numbers (length all))

-- ---- each once

-- by length, and then in order
abbrev pub cycle_cmp : List ℕ → List ℕ → Ordering
cycle_cmp cycle other = ordering_then (nat_cmp (length cycle) (length other)) (slice_cmp nat_cmp cycle other)

-- each at its place in the order, unless it is there
abbrev pub inserted : List (List ℕ) → List (List ℕ) → List (List ℕ)
inserted kept [] = kept
inserted kept (cycle ∷ cycles) = inserted (insert_key cycle_cmp kept cycle) cycles

-- a line for each, and one for each of its numbers
abbrev pub line_count : List (List ℕ) → ℕ
line_count [] = 0
line_count (cycle ∷ cycles) = suc (length cycle) + line_count cycles

-- ---- the cycles of pairs

module _ (is_before : ℕ → ℕ → Bool) (all : List ℕ) where
  abbrev pub goes_through : ℕ → ℕ → List ℕ → Bool
  goes_through a b cycle = is_cycle is_before cycle && has_pair a b cycle

  -- Of the shortest cycles through a and then b, the first in order. As of `least_cycle`, no number occurs twice in it, and it begins at its least number.
  abbrev pub cycle_through : ℕ → ℕ → Option (List ℕ)
  cycle_through a b = find (goes_through a b) (lists_up all)

  module _ (goes_back : ℕ → ℕ → Bool) where
    -- those of the pairs of a number and one to which it goes back
    abbrev pub cycles_back : ℕ → List (List ℕ)
    cycles_back a = flat_map (λ b. option_map_or (λ (cycle : List ℕ). cycle ∷ []) (cycle_through a b) []) (filter (goes_back a) all)

    -- all of them, each once, by length and then in order
    abbrev pub pair_cycles : List (List ℕ)
    pair_cycles = inserted [] (flat_map cycles_back all)
