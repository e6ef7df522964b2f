-- Machinery: the union of two lists of places, each in ascending order.
use Rattle.std.specs.Prelude.{ℕ, ◌==◌, nat_lt, List, [], ◌∷◌, if◌then◌else◌}

-- the places without the first one, if it is this one
abbrev pub unless_same : ℕ → ℕ → List ℕ → List ℕ
unless_same place other others = if other == place then others else other ∷ others

-- one place and others: those below it come first, and behind it is what is made of those above it
abbrev pub merged_at : ℕ → (List ℕ → List ℕ) → List ℕ → List ℕ
merged_at place more [] = place ∷ more []
merged_at place more (other ∷ others) =
    if nat_lt other place then other ∷ merged_at place more others else place ∷ more (unless_same place other others)

-- the union
abbrev pub merged : List ℕ → List ℕ → List ℕ
merged [] others = others
merged (place ∷ places) others = merged_at place (merged places) others
