use Rattle.std.proofs.Common.{◌≡◌, ℕ, [], length}
use Rattle.gp_txn.specs.Transactions.{table_at}
use Rattle.gp_whatif.proofs.replaying.empty_tables.Given as goal

abbrev pub invariant-loop : goal.invariant-loop
invariant-loop l = (length l.tables.items ≡ l.counter) × ((place : ℕ) → (table_at place l.tables.items).spans ≡ [])
