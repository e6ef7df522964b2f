use Rattle.std.proofs.Common.{◌≡◌, ℕ, ◌<◌, ◌≤◌, length}
use Rattle.gp_versions.specs.Commits.{after_commit}
use Rattle.gp_txn.specs.Transactions.{table_at}
use Rattle.gp_txn.specs.Prepared.{prepared_at}
use Rattle.gp_txn.proofs.publication.publish.Given as goal

abbrev pub invariant-loop-place : goal.invariant-loop-place
invariant-loop-place l = record {
  done : (place : ℕ) → place < l.place → (table_at place l.versions).spans ≡ after_commit l.version (prepared_at l.initial.prepared place) (table_at place l.initial.versions).spans;
  rest : (place : ℕ) → l.place ≤ place → place < length l.versions → table_at place l.versions ≡ table_at place l.initial.versions;
  writes : (place : ℕ) → l.place ≤ place → prepared_at l.prepared place ≡ prepared_at l.initial.prepared place;
}
