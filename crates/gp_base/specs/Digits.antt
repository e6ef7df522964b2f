-- Part of the statement: decimal digits.
use Rattle.std.specs.Prelude.{ℕ, ◌+◌, ◌*◌, ◌-◌, nat_le, ◌&&◌, Bool, true, List, [], ◌∷◌, Option, Some, None, if◌then◌else◌}

abbrev pub is_digit : ℕ → Bool
is_digit byte = nat_le 48 byte && nat_le byte 57

abbrev pub are_digits : List ℕ → Bool
are_digits [] = true
are_digits (byte ∷ bytes) = is_digit byte && are_digits bytes

-- the number that digits write after those of a number; none if a byte is no digit
abbrev pub read_on : ℕ → List ℕ → Option ℕ
read_on number [] = Some number
read_on number (byte ∷ bytes) = if is_digit byte then read_on (10 * number + (byte - 48)) bytes else None
