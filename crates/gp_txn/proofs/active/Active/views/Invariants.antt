use Rattle.std.proofs.Common.{◌≡◌, ◌<◌, ℕ, true, [], length, get_or, map}
use Rattle.gp_algebra.specs.Views.{select_view}
use Rattle.gp_txn.specs.Inserting.{reads_table}
use Rattle.gp_txn.specs.Overlay.{stored_of}
use Rattle.gp_txn.specs.Transactions.{table_at, view_at}
use Rattle.gp_txn.specs.Wanted.{row_where, wanted}
use Rattle.gp_versions.specs.TableSpans.{NoOverlap}
use Rattle.gp_txn.proofs.active.Active.views.Given as goal

abbrev pub invariant-loop-place : goal.invariant-loop-place
invariant-loop-place l = record {
  len : length l.tables ≡ l.place;
  each : (p : ℕ) → p < l.place → reads_table p (select_view l.select) ≡ true → get_or l.tables p [] ≡ map stored_of (wanted (row_where (select_view l.select)) (view_at l.self.tables l.versions l.version p));
  apart : (p : ℕ) → p < l.place → NoOverlap (table_at p l.versions).spans;
}
