use Rattle.std.proofs.Common.{◌≡◌, ℕ, Some, false, length}
use Rattle.std.specs.Prelude.{slice_get}
use Rattle.std.specs.List.Sorted.{IsPermutation}
use Rattle.gp_reenact.specs.Reenacting.{spans_of}
use Rattle.gp_ask.proofs.made.differing_tables.Given as goal

abbrev pub invariant-loop-place : goal.invariant-loop-place
invariant-loop-place l =
    (length l.flags.items ≡ l.place) × ((at : ℕ) → slice_get l.flags.items at ≡ Some false → IsPermutation (spans_of l.tables at) (spans_of l.others at))
