use Rattle.std.proofs.Common.{◌≡◌, drop}
use Rattle.gp_txn.specs.Inserting.{names_table}
use Rattle.gp_txn.proofs.reads.names_table.Given as goal

abbrev pub invariant-loop-place : goal.invariant-loop-place
invariant-loop-place l = names_table l.table (drop l.place-index l.from) ≡ names_table l.table l.from
