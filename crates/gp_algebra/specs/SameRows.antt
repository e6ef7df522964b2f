-- Of the laws `answers_respect_bags` and `statements_respect_bags`: databases with the same rows, in any order.
use Rattle.std.specs.Prelude.{ℕ}
use Rattle.std.specs.List.Sorted.{IsPermutation}
use Rattle.gp_base.specs.Annotated.{Database}

-- each table has the same rows in both, each as often
abbrev pub HaveSameRows : {M : Type 0} → Database M → Database M → Type 0
HaveSameRows db other = (table : ℕ) → IsPermutation (db table) (other table)
