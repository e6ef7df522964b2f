-- Machinery: numbers in the lines of a dump, and the parts of a line.
use Rattle.std.specs.Prelude.{ℕ, ◌^◌, ◌-◌, List, [], ◌∷◌, length, take, drop, min, Option, Some, None, option_and_then, nat_le, if◌then◌else◌, ◌==◌}
use Rattle.std.specs.Option.{option_map}
use Rattle.std.specs.Str.{bytes_eq}
use Rattle.gp_base.specs.Digits.{read_on}

-- ---- numbers

-- a decimal number of any length, without leading zeros
abbrev pub number_of : List ℕ → Option ℕ
number_of [] = None
number_of (byte ∷ []) = read_on 0 (byte ∷ [])
number_of (byte ∷ next ∷ bytes) = if byte == 48 then None else read_on 0 (byte ∷ next ∷ bytes)

-- a decimal number that is at most this
abbrev pub number_up_to : ℕ → List ℕ → Option ℕ
number_up_to most text = option_and_then (λ n. if nat_le n most then Some n else None) (number_of text)

-- no version has this number, or a greater one
abbrev pub beyond_versions : ℕ
beyond_versions = 2 ^ 32 - 1

-- a version; a number that no version has is of the form too
abbrev pub version_of : List ℕ → Option ℕ
version_of text = option_map (λ n. min n beyond_versions) (number_of text)

-- ---- parts

-- what is before the first such byte, and what is behind it
abbrev pub cut_at : ℕ → List ℕ → Option (List ℕ × List ℕ)
cut_at stop [] = None
cut_at stop (byte ∷ bytes) = if byte == stop then Some ([], bytes) else option_map (λ (x : List ℕ × List ℕ). (byte ∷ x.0, x.1)) (cut_at stop bytes)

-- what is behind these words, where the text begins with them
abbrev pub behind_words : List ℕ → List ℕ → Option (List ℕ)
behind_words words text = if bytes_eq (take (length words) text) words then Some (drop (length words) text) else None

-- what is behind this byte, where the text begins with it
abbrev pub after_byte : ℕ → List ℕ → Option (List ℕ)
after_byte wanted [] = None
after_byte wanted (byte ∷ bytes) = if byte == wanted then Some bytes else None
