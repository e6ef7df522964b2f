-- Part of the statement: orders that keep a relation of numbers, and its cycles.
use Rattle.std.specs.Prelude.{ℕ, zero, suc, ◌==◌, ◌&&◌, not, Bool, false, List, [], ◌∷◌, filter, find, length, map, unwrap_or}
use Rattle.std.specs.List.{flat_map, list_any}
use Rattle.std.specs.Option.{option_map_or}
use Rattle.gp_machine.specs.Precedence.{numbers}

-- the lists of this many of some numbers; in order, if these are
abbrev pub lists_of : ℕ → List ℕ → List (List ℕ)
lists_of zero all = [] ∷ []
lists_of (suc n) all = flat_map (λ first. map (λ others. first ∷ others) (lists_of n all)) all

module _ (is_before : ℕ → ℕ → Bool) where
  -- each is before the next one, and the last before this one
  abbrev pub closes : ℕ → List ℕ → Bool
  closes first [] = false
  closes first (a ∷ []) = is_before a first
  closes first (a ∷ b ∷ others) = is_before a b && closes first (b ∷ others)

  abbrev pub is_cycle : List ℕ → Bool
  is_cycle [] = false
  is_cycle (first ∷ others) = closes first (first ∷ others)

  -- The first of the shortest cycles of these numbers, if there is one: no number occurs twice in a shortest cycle, and the first of them begins at its least
  -- number.
  abbrev pub least_cycle : List ℕ → List ℕ
  least_cycle all = unwrap_or (find is_cycle (flat_map (λ n. lists_of n all) (numbers (length all)))) []

  -- none of these is before it
  abbrev pub is_free : List ℕ → ℕ → Bool
  is_free left t = not (list_any (λ other. is_before other t) left)

  -- again and again the first of those that are left that none of them is before, so many times
  abbrev pub ordered : ℕ → List ℕ → List ℕ
  ordered zero left = []
  ordered (suc more) left = option_map_or (λ (t : ℕ). t ∷ ordered more (filter (λ other. not (other == t)) left)) (find (is_free left) left) []

  abbrev pub order_of : List ℕ → List ℕ
  order_of all = ordered (length all) all
