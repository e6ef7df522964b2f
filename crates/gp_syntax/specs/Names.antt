-- Machinery: numbers in names.
use Rattle.std.specs.Prelude.{ℕ, List, Option, Some, None, nat_le, ◌&&◌, if◌then◌else◌}
use Rattle.std.specs.Str.Parse.{digits_value}
use Rattle.gp_grammar.specs.CommandGrammar.{is_number_without_zero}

-- the number of digits of which the first is not 0, if it is at most this
abbrev pub number_up_to : List ℕ → ℕ → Option ℕ
number_up_to digits most =
    if is_number_without_zero digits && nat_le (digits_value 10 digits) most then Some (digits_value 10 digits) else None
