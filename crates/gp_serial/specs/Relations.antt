-- Of the contracts of a `Graph`: a relation of numbers, as a list of flags for each.
use Rattle.std.specs.Prelude.{ℕ, Bool, false, List, [], get_or}

abbrev pub is_edge : List (List Bool) → ℕ → ℕ → Bool
is_edge rows a b = get_or (get_or rows a []) b false
