use Rattle.std.proofs.Common.{◌≡◌, ◌+◌}
use Rattle.gp_base.specs.declared.limit.TheConstants.{MAX_SPANS}
use Rattle.gp_txn.specs.Committing.{commit_of}
use Rattle.gp_txn.specs.Counts.{spans_after}
use Rattle.gp_txn.proofs.span_count.is_full.Given as goal

abbrev pub invariant-loop-place : goal.invariant-loop-place
invariant-loop-place l = l.left + spans_after l.versions (commit_of l.tables l.versions) l.place ≡ MAX_SPANS
