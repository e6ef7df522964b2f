-- Machinery: places in their order.
use Rattle.std.specs.Prelude.{ℕ, ◌<◌, List, [], ◌∷◌}
use Rattle.std.specs.List.{AllByRecursion}
use Rattle.gp_txn.specs.declared.overlay.Placed.{Placed}

-- each place is below all later ones
abbrev pub IsAscending : List ℕ → Type 0
IsAscending [] = Unit {0}
IsAscending (place ∷ places) = AllByRecursion (λ other. place < other) places × IsAscending places

abbrev pub place_of : Placed → ℕ
place_of placed = placed.place
