use Rattle.std.proofs.Common.{◌-◌, length}
use Rattle.gp_replay.specs.SameRows.{in_order}
use Rattle.gp_replay.proofs.SameLemmas.{GoesOn}
use Rattle.gp_replay.proofs.same_rows.have_same_rows.Given as goal

-- if the tables that are left have the same row versions, so have all
abbrev pub invariant-loop-at : goal.invariant-loop-at
invariant-loop-at l = GoesOn in_order in_order l.tables l.others l.at

abbrev pub decreases-loop-at : goal.decreases-loop-at
decreases-loop-at l = length l.tables - l.at
