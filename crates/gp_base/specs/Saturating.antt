-- Machinery: numbers as code reads them, where one of 64 bits or more is the greatest of 64 bits.
use Rattle.std.specs.Prelude.{ℕ, ◌^◌, ◌-◌, List, min, Option}
use Rattle.std.specs.Option.{option_map}
use Rattle.gp_base.specs.Digits.{read_on}

abbrev pub greatest : ℕ
greatest = 2 ^ 64 - 1

abbrev pub saturated : Option ℕ → Option ℕ
saturated number = option_map (λ n. min n greatest) number

abbrev pub saturating_on : ℕ → List ℕ → Option ℕ
saturating_on number bytes = saturated (read_on number bytes)
