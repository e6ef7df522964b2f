use Rattle.std.proofs.Common.{◌≡◌}
use Rattle.gp_txn.proofs.commit.enter_spans.Given as goal

abbrev pub invariant-loop-place : goal.invariant-loop-place
invariant-loop-place l = l.versions ≡ l.initial.versions
