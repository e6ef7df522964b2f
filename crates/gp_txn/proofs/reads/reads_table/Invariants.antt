use Rattle.std.proofs.Common.{◌≡◌, map, drop}
use Rattle.gp_algebra.specs.Views.{branch_view, select_view}
use Rattle.gp_txn.specs.Inserting.{reads_table}
use Rattle.gp_txn.proofs.reads.reads_table.Given as goal

abbrev pub invariant-loop-branch : goal.invariant-loop-branch
invariant-loop-branch l = reads_table l.table (map branch_view (drop l.branch-index l.select.branches)) ≡ reads_table l.table (select_view l.select)
