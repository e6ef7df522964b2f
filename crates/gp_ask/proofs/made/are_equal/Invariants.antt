use Rattle.std.proofs.Common.{drop, ◌≡◌}
use Rattle.std.specs.Cmp.Lexicographic.{slice_cmp}
use Rattle.std.specs.Ordering.{is_eq}
use Rattle.gp_base.specs.Order.{row_cmp}
use Rattle.gp_ask.proofs.made.are_equal.Given as goal

-- the rows that remain decide
abbrev pub invariant-loop-place : goal.invariant-loop-place
invariant-loop-place l = is_eq (slice_cmp row_cmp (drop l.place l.rows) (drop l.place l.others)) ≡ is_eq (slice_cmp row_cmp l.rows l.others)
