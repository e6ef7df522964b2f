use Rattle.std.proofs.Common.{map, get_or}
use Rattle.std.specs.Prelude.{None}
use Rattle.gp_algebra.specs.QueryViews.{annotated_view}
use Rattle.gp_rewrite.specs.RewritingForms.{query_at}
use Rattle.gp_compose.specs.Composed.{onto}
use Rattle.gp_compose.specs.Composition.{AreTables}
use Rattle.gp_compose.proofs.tables.all_onto.Given as goal

abbrev pub invariant-loop-place : goal.invariant-loop-place
invariant-loop-place l =
    AreTables l.place (λ table. onto l.old l.new table (get_or l.writes table None) (query_at (map annotated_view l.tables) table)) (map annotated_view l.found.items)
