use Rattle.std.proofs.Common.{◌≡◌, ◌++◌, map}
use Rattle.gp_base.specs.Annotated.{unannotated}
use Rattle.gp_exec.specs.PastRows.{past_row}
use Rattle.gp_versions.specs.Spans.{row_of, rows_at}
use Rattle.gp_reenact.specs.Encoding.{encoded_row}
use Rattle.gp_reenact.proofs.past.rows_of.Given as goal

-- the spans that remain give the other rows
abbrev pub invariant-loop-span : goal.invariant-loop-span
invariant-loop-span l = map past_row l.rows.items ++ map encoded_row (map (row_of unannotated) l.span-iterator) ≡ map encoded_row (rows_at unannotated l.version l.table.spans)
