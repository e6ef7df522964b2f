use Rattle.std.proofs.Common.{◌≡◌, ℕ, ◌<◌, []}
use Rattle.gp_txn.specs.Conflicts.{lates_at}
use Rattle.gp_txn.proofs.conflict.first_conflict.Given as goal

abbrev pub invariant-loop-place : goal.invariant-loop-place
invariant-loop-place l = (earlier : ℕ) → earlier < l.place → lates_at l.tables l.versions earlier ≡ []
