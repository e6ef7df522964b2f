-- Part of the statement: which bytes are the name of a table or a column. A name is a regular identifier of SQL (ISO/IEC 9075-2) in
-- lower case: a letter, then letters, digits and underscores, at most MAX_NAME_LENGTH bytes, and no reserved word.
use Rattle.std.specs.Prelude.{ℕ, Bool, false, ◌&&◌, ◌||◌, not, List, [], ◌∷◌, length, nat_le, ◌==◌, codes}
use Rattle.std.specs.List.{slice_split, list_any, list_all}
use Rattle.std.specs.Str.{bytes_eq}
use Rattle.gp_base.specs.declared.name.TheConstants.{MAX_NAME_LENGTH}

-- a letter from a to z
abbrev pub is_lower_letter : ℕ → Bool
is_lower_letter byte = nat_le 97 byte && nat_le byte 122

-- a lower-case letter, a digit or an underscore
abbrev pub is_name_byte : ℕ → Bool
is_name_byte byte = is_lower_letter byte || (nat_le 48 byte && nat_le byte 57) || (byte == 95)

-- the reserved words, in lower case
abbrev pub reserved_words : List (List ℕ)
reserved_words = slice_split (λ byte. byte == 32) (codes "all and as begin case commit create delete else end from insert int into is not null or rollback select set table text then true union update values when where")

-- the bytes are one of the reserved words
abbrev pub is_reserved : List ℕ → Bool
is_reserved word = list_any (λ other. bytes_eq other word) reserved_words

-- the bytes are a name
abbrev pub is_name : List ℕ → Bool
is_name [] = false
is_name (byte ∷ bytes) = is_lower_letter byte && list_all is_name_byte bytes
    && nat_le (length (byte ∷ bytes)) MAX_NAME_LENGTH && not (is_reserved (byte ∷ bytes))
