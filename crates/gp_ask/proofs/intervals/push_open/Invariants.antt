use Rattle.std.proofs.Common.{◌≡◌, ◌++◌, ◌-◌, ◌≤◌, drop, length, map}
use Rattle.std.specs.List.{zip}
use Rattle.gp_ask.specs.IntervalForms.{interval_row, still_open}
use Rattle.gp_ask.proofs.intervals.push_open.Given as goal

-- the intervals that remain give the other rows
abbrev pub invariant-left : goal.invariant-left
invariant-left l =
    let old = zip l.open.rows.items l.open.froms.items in
    record {
      within : l.i ≤ length l.open.rows.items;
      ended : l.ended.items ++ map interval_row (map still_open (drop l.i old)) ≡ l.initial.ended.items ++ map interval_row (map still_open old);
    }

abbrev pub decreases-left : goal.decreases-left
decreases-left l = length l.initial.open.rows.items - l.i
