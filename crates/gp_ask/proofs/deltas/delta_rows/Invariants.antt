use Rattle.std.proofs.Common.{◌≡◌, ◌<◌, ◌≤◌, ◌+◌, ◌-◌, ◌++◌, length, drop, map}
use Rattle.gp_ask.specs.Deltas.{added, delta, with_sign}
use Rattle.gp_ask.proofs.deltas.delta_rows.Given as goal

-- the lines so far, and those of the difference of what remains, are those of the difference
abbrev pub invariant-both : goal.invariant-both
invariant-both l =
    record {
      i_within : l.i ≤ length l.rows;
      j_within : l.j ≤ length l.others;
      all : l.lines ++ map with_sign (delta (drop l.i l.rows) (drop l.j l.others)) ≡ map with_sign (delta l.rows l.others);
    }

abbrev pub decreases-both : goal.decreases-both
decreases-both l = (length l.initial.rows - l.i) + (length l.initial.others - l.j)

abbrev pub invariant-left : goal.invariant-left
invariant-left l =
    record {
      i_within : l.i ≤ length l.rows;
      j_within : l.j ≤ length l.others;
      others_done : l.i < length l.rows → length l.others ≤ l.j;
      all : l.lines ++ map with_sign (delta (drop l.i l.rows) (drop l.j l.others)) ≡ map with_sign (delta l.rows l.others);
    }

abbrev pub decreases-left : goal.decreases-left
decreases-left l = length l.initial.rows - l.i

abbrev pub invariant-right : goal.invariant-right
invariant-right l =
    record {
      j_within : l.j ≤ length l.others;
      all : l.lines ++ map with_sign (map added (drop l.j l.others)) ≡ map with_sign (delta l.rows l.others);
    }

abbrev pub decreases-right : goal.decreases-right
decreases-right l = length l.initial.others - l.j
