-- Part of the statement: texts that are lines.
use Rattle.std.specs.Prelude.{◌≡◌, ℕ, ◌==◌, Bool, true, not, List, [], ◌∷◌, ◌++◌}
use Rattle.std.specs.List.{flat_map, list_all}

abbrev pub is_line : List ℕ → Bool
is_line line = list_all (λ byte. not (byte == 10)) line

-- each line with a line feed behind it is the whole text
pub record AreLines (lines : List (List ℕ)) (text : List ℕ) : Type 0 where
  pub whole : flat_map (λ line. line ++ 10 ∷ []) lines ≡ text
  pub single : list_all is_line lines ≡ true
