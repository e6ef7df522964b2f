use Rattle.std.proofs.Common.{map}
use Rattle.gp_algebra.specs.AnnotatedQueries as q
use Rattle.gp_algebra.specs.QueryViews.{annotated_view}
use Rattle.gp_compose.specs.Composition.{AreTables}
use Rattle.gp_compose.proofs.tables.scans.Given as goal

abbrev pub invariant-loop-table : goal.invariant-loop-table
invariant-loop-table l = AreTables l.table (λ table. q.scan table l.version) (map annotated_view l.tables.items)
