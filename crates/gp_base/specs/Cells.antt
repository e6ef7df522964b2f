-- Part of the statement: the range of the numbers in a row, that of BIGINT in most SQL systems (ISO/IEC 9075-2 leaves it open), and the
-- texts that a user can write.
use Rattle.std.specs.Prelude.{ℕ, ℤ, ◌^◌, pos, negsuc, ◌-◌, int_le, int_lt, nat_le, Bool, not, ◌&&◌, List, length, ◌==◌}
use Rattle.std.specs.Char.{is_ascii_control}
use Rattle.std.specs.List.{list_any}
use Rattle.std.specs.Str.Lossy.{utf8_valid_len}
use Rattle.gp_base.specs.declared.text.TheConstants.{MAX_TEXT_LENGTH}

-- a text that a user can write: valid UTF-8, not too long, and without control characters
abbrev pub is_user_text : List ℕ → Bool
is_user_text text = (utf8_valid_len text == length text) && (nat_le (length text) MAX_TEXT_LENGTH && not (list_any is_ascii_control text))

-- a number of 64 bits with sign
abbrev pub fits_number : ℤ → Bool
fits_number number = int_le (negsuc (2 ^ 63 - 1)) number && int_lt number (pos (2 ^ 63))
