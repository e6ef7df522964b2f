-- Machinery: what the readers of dumps and of plain programs share.
use Rattle.std.specs.Prelude.{ℕ, ◌+◌, ◌*◌, ◌-◌, List, [], ◌∷◌, Option, Some, None, if◌then◌else◌}
use Rattle.gp_base.specs.Digits.{is_digit}

-- the number of the digits in front, behind a number, and what is behind them
abbrev pub digits_at : ℕ → List ℕ → ℕ × List ℕ
digits_at number [] = (number, [])
digits_at number (byte ∷ bytes) = if is_digit byte then digits_at (number * 10 + (byte - 48)) bytes else (number, byte ∷ bytes)

-- what is done with a rest, where there is one, else the other
abbrev pub if_there : {R : Type 0} → Option (List ℕ) → (List ℕ → Option R) → Option R → Option R
if_there None f other = other
if_there (Some rest) f other = f rest
