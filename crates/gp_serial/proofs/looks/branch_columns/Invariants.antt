use Rattle.std.proofs.Common.{◌≡◌}
use Rattle.gp_algebra.specs.Views.{branch_view}
use Rattle.gp_machine.specs.Looks.{occurs_in_branch, used}
use Rattle.gp_serial.proofs.looks.branch_columns.Given as goal

abbrev pub invariant-loop-place : goal.invariant-loop-place
invariant-loop-place l = l.columns.items ≡ used (occurs_in_branch (branch_view l.branch)) l.before l.place
