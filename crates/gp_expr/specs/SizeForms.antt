-- Machinery: the numbers of nodes of conditions and of parts, and what a number of 64 bits can hold.
use Rattle.std.specs.Prelude.{ℕ, ◌+◌, min}
use Rattle.gp_expr.specs.Expressions.{Cond, Parts}
use Rattle.gp_expr.specs.Gathering.{cond_gathered, parts_gathered}

abbrev pub cond_size : Cond → ℕ
cond_size = cond_gathered (λ expr. 1) 1 0 ◌+◌

abbrev pub parts_size : Parts → ℕ
parts_size = parts_gathered (λ expr. 1) 1 0 ◌+◌

-- the number, or the greatest of 64 bits
abbrev pub up_to_greatest : ℕ → ℕ
up_to_greatest n = min n 0xffff_ffff_ffff_ffff
