-- A count of entries is at most their number.
use Rattle.std.proofs.Common.{◌≤◌, suc, Bool, true, false, cond, List, [], ◌∷◌, length, arith}
use Rattle.gp_machine.specs.Entries.{Entry, count}

pub count-most : (test : Entry → Bool) (entries : List Entry) → count test entries ≤ length entries
count-most test [] = omega arith
count-most test (entry ∷ older) = elim (test entry) as (λ b. cond b (suc (count test older)) (count test older) ≤ suc (length older)) [
  | true ↦ omega (arith, count-most test older)
  | false ↦ omega (arith, count-most test older)
]
