use Rattle.std.proofs.Common.{◌≡◌, ◌++◌, drop, map}
use Rattle.std.specs.Prelude.{filter}
use Rattle.gp_expr.specs.Views.{cond_view}
use Rattle.gp_serial.specs.Finding.{is_found, keyed_span}
use Rattle.gp_serial.proofs.finding.found.Given as goal

-- the rows so far, and those of what remains
abbrev pub invariant-loop-span : goal.invariant-loop-span
invariant-loop-span l =
    l.rows.items ++ map keyed_span (filter (is_found l.version (cond_view l.cond)) (drop l.span-index l.spans)) ≡ map keyed_span (filter (is_found l.version (cond_view l.cond)) l.spans)
