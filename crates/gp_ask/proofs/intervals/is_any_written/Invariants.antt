use Rattle.std.proofs.Common.{◌≡◌, drop}
use Rattle.std.specs.List.{list_any}
use Rattle.gp_dump.specs.Views.{dump_view}
use Rattle.gp_ask.specs.IntervalForms.{is_written}
use Rattle.gp_ask.proofs.intervals.is_any_written.Given as goal

-- the tables that remain decide
abbrev pub invariant-loop-table : goal.invariant-loop-table
invariant-loop-table l = list_any (is_written (dump_view l.dump) l.version) (drop l.table-index l.tables) ≡ list_any (is_written (dump_view l.dump) l.version) l.tables
