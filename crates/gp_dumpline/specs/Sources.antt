-- Machinery: sources that are read behind others.
use Rattle.std.specs.Prelude.{ℕ, List, [], ◌∷◌, Option, Some, option_and_then}
use Rattle.gp_base.specs.Identities.{Identity, Sources, source}

abbrev pub before : List Identity → Sources → Sources
before [] ids = ids
before (id ∷ first) ids = source id (before first ids)

abbrev pub before_all : List Identity → Sources × List ℕ → Option (Sources × List ℕ)
before_all first x = Some (before first x.0, x.1)

-- what was read, behind these
abbrev pub behind : List Identity → Option (Sources × List ℕ) → Option (Sources × List ℕ)
behind first found = option_and_then (before_all first) found
