use Rattle.std.proofs.Common.{◌≡◌, ℕ, ◌<◌, ◌≤◌, length}
use Rattle.gp_txn.specs.Transactions.{table_at}
use Rattle.gp_txn.specs.Prepared.{prepared_at}
use Rattle.gp_txn.proofs.publication.reserve_all.Given as goal

abbrev pub invariant-loop-place : goal.invariant-loop-place
invariant-loop-place l = record {
  spans : (place : ℕ) → (table_at place l.versions).spans ≡ (table_at place l.initial.versions).spans;
  room : (place : ℕ) → place < l.place → length (prepared_at l.prepared place) ≤ (table_at place l.versions).spare;
}
