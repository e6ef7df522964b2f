use Rattle.std.proofs.Common.{◌≡◌, ◌<◌, ◌≤◌, ◌+◌, ◌-◌, ◌++◌, length, drop, map}
use Rattle.std.specs.List.{zip}
use Rattle.gp_ask.specs.IntervalForms.{carried, closed, interval_row}
use Rattle.gp_ask.proofs.intervals.carried.Given as goal

-- what is there so far, and what the rows that remain give, is what all rows give
abbrev pub invariant-both : goal.invariant-both
invariant-both l =
    let old = zip l.open.rows.items l.open.froms.items in
    record {
      i_within : l.i ≤ length l.open.rows.items;
      j_within : l.j ≤ length l.rows;
      froms : l.froms.items ++ carried l.version (drop l.i old) (drop l.j l.rows) ≡ carried l.version old l.rows;
      ended : l.ended.items ++ map interval_row (closed l.version (drop l.i old) (drop l.j l.rows)) ≡ l.initial.ended.items ++ map interval_row (closed l.version old l.rows);
    }

abbrev pub decreases-both : goal.decreases-both
decreases-both l = (length l.initial.open.rows.items - l.i) + (length l.initial.rows - l.j)

abbrev pub invariant-left : goal.invariant-left
invariant-left l =
    let old = zip l.open.rows.items l.open.froms.items in
    record {
      i_within : l.i ≤ length l.open.rows.items;
      j_within : l.j ≤ length l.rows;
      rows_done : l.i < length l.open.rows.items → length l.rows ≤ l.j;
      froms : l.froms.items ++ carried l.version (drop l.i old) (drop l.j l.rows) ≡ carried l.version old l.rows;
      ended : l.ended.items ++ map interval_row (closed l.version (drop l.i old) (drop l.j l.rows)) ≡ l.initial.ended.items ++ map interval_row (closed l.version (drop l.initial.i old) (drop l.j l.rows));
    }

abbrev pub decreases-left : goal.decreases-left
decreases-left l = length l.initial.open.rows.items - l.i

abbrev pub invariant-right : goal.invariant-right
invariant-right l =
    let old = zip l.open.rows.items l.open.froms.items in
    record {
      j_within : l.j ≤ length l.rows;
      froms : l.froms.items ++ map (λ row. l.version) (drop l.j l.rows) ≡ carried l.version old l.rows;
    }

abbrev pub decreases-right : goal.decreases-right
decreases-right l = length l.initial.rows - l.j
