-- Part of the statement: items joined by a separator.
use Rattle.std.specs.Prelude.{ℕ, List, [], ◌∷◌, ◌++◌}
use Rattle.std.specs.List.{flat_map}

-- the texts of the items in order, with the separator between neighbours
abbrev pub joined_texts : {T : Type 0} → (T → List ℕ) → List ℕ → List T → List ℕ
joined_texts text separator [] = []
joined_texts text separator (item ∷ items) = text item ++ flat_map (λ other. separator ++ text other) items
