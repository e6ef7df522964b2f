use Rattle.std.proofs.Common.{◌≡◌, ◌++◌, drop, map}
use Rattle.gp_kexec.specs.Rows.{pair_view}
use Rattle.gp_kexec.specs.Remaining.{repeated}
use Rattle.gp_kexec.proofs.repeating.repeated.Given as goal

abbrev pub invariant-loop-row : goal.invariant-loop-row
invariant-loop-row l = l.all.items ++ repeated (map pair_view (drop l.row-index l.rows)) ≡ repeated (map pair_view l.rows)
