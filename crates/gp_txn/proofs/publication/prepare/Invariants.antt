use Rattle.std.proofs.Common.{◌≡◌, ℕ, ◌<◌, length}
use Rattle.gp_versions.specs.Commits.{AreDistinct}
use Rattle.gp_txn.specs.Overlay.{rows_below, table_writes}
use Rattle.gp_txn.specs.Prepared.{prepared_at}
use Rattle.gp_txn.specs.Transactions.{overlay_at, table_at}
use Rattle.gp_txn.proofs.publication.prepare.Given as goal

abbrev pub invariant-loop-place : goal.invariant-loop-place
invariant-loop-place l = record {
  len : length l.all.items ≡ l.place;
  each : (place : ℕ) → place < l.place → prepared_at l.all.items place ≡ table_writes (overlay_at place l.tables l.versions) (rows_below (overlay_at place l.tables l.versions) (table_at place l.versions).spans);
  distinct : (place : ℕ) → place < l.place → AreDistinct (prepared_at l.all.items place);
}
