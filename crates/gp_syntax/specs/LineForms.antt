-- Machinery: the numbers of numbered lines.
use Rattle.std.specs.Prelude.{ℕ, List, map}

abbrev pub numbers_of : List (ℕ × List ℕ) → List ℕ
numbers_of numbered = map (λ (line : ℕ × List ℕ). line.0) numbered
