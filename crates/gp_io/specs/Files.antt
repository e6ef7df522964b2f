-- Of the contracts of `CalmShelf` and `MemShelf`: files as those of a shelf in memory are seen.
use Rattle.std.specs.Prelude.{◌≡◌, ◌≢◌, ℕ, List, [], ◌∷◌, take, Option, None, Some, bytes_eq, if◌then◌else◌}
use Rattle.std.specs.Option.{option_map}

-- names, each with the bytes of its file; of two pairs with one name the first counts
abbrev pub Files : Type 0
Files = List (List ℕ × List ℕ)

-- the bytes of the file of this name; None where there is no such file
abbrev pub content : List ℕ → Files → Option (List ℕ)
content name [] = None
content name (file ∷ files) = if bytes_eq file.0 name then Some file.1 else content name files

-- the first `most` of these bytes
abbrev pub prefix_of : List ℕ → ℕ → Files → Option (List ℕ)
prefix_of name most files = option_map (take most) (content name files)

-- every other name has the same content as before
abbrev pub OthersStay : List ℕ → Files → Files → Type 0
OthersStay name old new = (other : List ℕ) → other ≢ name → content other new ≡ content other old

-- this name has these bytes, and every other name has the same content as before
pub record Replaces (name bytes : List ℕ) (old new : Files) : Type 0 where
  pub this : content name new ≡ Some bytes
  pub others : OthersStay name old new
