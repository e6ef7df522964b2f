-- What is gone from `left` was appended.
use Rattle.std.proofs.Common.{◌≡◌, ℕ, List, ◌++◌}
use Rattle.std.specs.Io.KnownBytes.{Appends}
use Rattle.gp_io.proofs.stream.write_and_flush.Given as goal

abbrev pub invariant-loop : goal.invariant-loop
invariant-loop g l = (taken : List ℕ) × (l.initial.left ≡ taken ++ l.left) × Appends (g.W.Write.contents l.initial.to) (g.W.Write.contents l.to) taken
