-- Lemmas of parts as loops read them.
use Rattle.std.proofs.Common.{ℕ, ◌+◌, List, ◌++◌, Option}
use Rattle.std.specs.Option.{option_map}

-- a cut behind these bytes
abbrev pub in_front : List ℕ → Option (List ℕ × List ℕ) → Option (List ℕ × List ℕ)
in_front front cut = option_map (λ (x : List ℕ × List ℕ). (front ++ x.0, x.1)) cut
