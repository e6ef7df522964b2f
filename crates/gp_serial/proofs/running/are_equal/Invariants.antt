use Rattle.std.proofs.Common.{drop, ◌≡◌}
use Rattle.std.specs.Cmp.Lexicographic.{slice_cmp}
use Rattle.std.specs.Ordering.{is_eq}
use Rattle.gp_base.specs.Order.{row_cmp}
use Rattle.gp_serial.proofs.running.are_equal.Given as goal

-- the rows that remain decide
abbrev pub invariant-loop-i : goal.invariant-loop-i
invariant-loop-i l = is_eq (slice_cmp row_cmp (drop l.i l.rows) (drop l.i l.others)) ≡ is_eq (slice_cmp row_cmp l.rows l.others)
