-- Machinery: the lines of a text, as the code makes them.
use Rattle.std.specs.Prelude.{ℕ, ◌==◌, List, [], ◌∷◌, ◌++◌, if◌then◌else◌}

-- the lines of a text behind the beginning of a line; what no line feed ends is none
abbrev pub lines_from : List ℕ → List ℕ → List (List ℕ)
lines_from line [] = []
lines_from line (byte ∷ bytes) = if byte == 10 then line ∷ lines_from [] bytes else lines_from (line ++ byte ∷ []) bytes

abbrev pub text_lines : List ℕ → List (List ℕ)
text_lines text = lines_from [] text
