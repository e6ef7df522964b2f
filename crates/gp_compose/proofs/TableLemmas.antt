-- Lists with a query for each table.
use Rattle.gp_compose.proofs.Prelude.{◌≡◌, ℕ, List, length, map, sym, ◌∙◌, Query}
use Rattle.std.proofs.lemmas.List.{length-map}
use Rattle.gp_algebra.specs.AnnotatedQueries as q
use Rattle.gp_algebra.specs.QueryViews.{annotated_view}
use Rattle.gp_algebra.specs.declared.annotated.AQuery.{AQuery}
use Rattle.gp_compose.specs.Composition.{AreTables}

-- as many queries as tables
pub tables-many : (count : ℕ) (query : ℕ → Query) (tables : List AQuery) → AreTables count query (map annotated_view tables) → length tables ≡ count
tables-many count query tables are = sym (length-map tables annotated_view) ∙ are.0
