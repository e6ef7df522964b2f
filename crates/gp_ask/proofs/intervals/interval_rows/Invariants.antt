use Rattle.std.proofs.Common.{◌≡◌, length}
use Rattle.std.specs.List.{zip}
use Rattle.gp_algebra.specs.Views.{select_view}
use Rattle.gp_dump.specs.Views.{dump_view}
use Rattle.gp_ask.specs.IntervalForms.{IsSwept}
use Rattle.gp_ask.proofs.intervals.interval_rows.Given as goal

-- the versions up to this one were gone through
abbrev pub invariant-loop-before : goal.invariant-loop-before
invariant-loop-before l =
    record {
      beside : length l.open.froms.items ≡ length l.open.rows.items;
      swept : IsSwept (dump_view l.dump) (select_view l.select) l.before (zip l.open.rows.items l.open.froms.items) l.ended.items;
    }
