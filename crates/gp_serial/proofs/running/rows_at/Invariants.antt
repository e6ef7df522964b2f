use Rattle.std.proofs.Common.{◌≡◌, ◌++◌, drop, map}
use Rattle.std.specs.Prelude.{filter}
use Rattle.gp_versions.specs.declared.span.Span.{Span}
use Rattle.gp_versions.specs.Spans.{holds_at}
use Rattle.gp_serial.specs.Running.{keyed}
use Rattle.gp_serial.proofs.running.rows_at.Given as goal

-- the spans that remain give the other rows
abbrev pub invariant-loop-span : goal.invariant-loop-span
invariant-loop-span l =
    l.rows.items ++ map (λ (span : Span). keyed span.id span.row) (filter (holds_at l.version) (drop l.span-index l.table.spans))
    ≡ map (λ (span : Span). keyed span.id span.row) (filter (holds_at l.version) l.table.spans)
