-- Machinery: the earlier steps that a query reads, of either algebra.
use Rattle.std.specs.Prelude.{ℕ, ◌==◌, Bool, false, ◌||◌, Option, Some, None}
use Rattle.gp_algebra.specs.AnnotatedQueries as q
use Rattle.gp_algebra.specs.Plain as p

-- the query reads step j
abbrev pub reads : ℕ → p.Plain → Bool
reads j (p.scan table version) = false
reads j (p.step other) = other == j
reads j (p.select query c) = reads j query
reads j (p.project query exprs) = reads j query
reads j (p.product left right) = reads j left || reads j right
reads j (p.union left right) = reads j left || reads j right
reads j (p.given rows) = false
reads j (p.publish at base mine later) = reads j base || (reads j mine || reads j later)

-- the step that a query gives as it is
abbrev pub step_of : p.Plain → Option ℕ
step_of (p.step j) = Some j
step_of _ = None

-- ---- the annotated algebra

abbrev pub annotated_reads : ℕ → q.Query → Bool
annotated_reads j (q.scan table version) = false
annotated_reads j (q.step other) = other == j
annotated_reads j (q.select query c) = annotated_reads j query
annotated_reads j (q.project query exprs change) = annotated_reads j query
annotated_reads j (q.product left right) = annotated_reads j left || annotated_reads j right
annotated_reads j (q.union left right) = annotated_reads j left || annotated_reads j right
annotated_reads j (q.given t k rows) = false
annotated_reads j (q.new_rows t k b query) = annotated_reads j query
annotated_reads j (q.publish base mine later) = annotated_reads j base || (annotated_reads j mine || annotated_reads j later)

abbrev pub annotated_step_of : q.Query → Option ℕ
annotated_step_of (q.step j) = Some j
annotated_step_of _ = None
