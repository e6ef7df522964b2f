-- Of the law `queries_give_the_rows_of_programs`: row versions as what a plain program scans.
use Rattle.std.specs.Prelude.{ℕ, List, [], map}
use Rattle.gp_base.specs.Annotated.{unannotated}
use Rattle.gp_algebra.specs.Encoding.{encoded_row}
use Rattle.gp_algebra.specs.Plain.{PlainEnvironment}
use Rattle.gp_versions.specs.declared.span.Span.{Span}
use Rattle.gp_versions.specs.Spans.{rows_at}

-- the rows of each table in each version: those of the row versions that hold it
abbrev pub held_rows : (ℕ → List Span) → PlainEnvironment
held_rows spans version table = map (encoded_row (λ annotation. [])) (rows_at unannotated version (spans table))
