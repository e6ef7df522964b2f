use Rattle.std.proofs.Common.{◌≡◌, ◌++◌, drop, map}
use Rattle.gp_kexec.specs.Rows.{stored_view}
use Rattle.gp_history.specs.SpanAnnotations.{span_rows}
use Rattle.gp_history.proofs.elements.stored_rows.Given as goal

-- the spans that remain give the other rows
abbrev pub invariant-loop-i : goal.invariant-loop-i
invariant-loop-i g l =
    map stored_view l.rows ++ span_rows l.version (map (λ span. span.now) (drop l.i l.spans)) (map (λ value. value.now) (drop l.i l.values))
    ≡ span_rows l.version (map (λ span. span.now) l.spans) (map (λ value. value.now) l.values)
