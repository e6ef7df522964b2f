use Rattle.std.proofs.Common.{◌≡◌, map}
use Rattle.gp_algebra.specs.Views.{set_view}
use Rattle.gp_expr.specs.Views.{cond_view}
use Rattle.gp_machine.specs.Looks.{occurs_in_update, used}
use Rattle.gp_serial.proofs.looks.table_columns.Given as goal

abbrev pub invariant-loop-place : goal.invariant-loop-place
invariant-loop-place l = l.columns.items ≡ used (occurs_in_update (map set_view l.sets) (cond_view l.cond)) 0 l.place
