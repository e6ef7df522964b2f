use Rattle.std.proofs.Common.{◌≡◌, map, drop}
use Rattle.gp_algebra.specs.QueryViews.{annotated_view}
use Rattle.gp_rewrite.specs.RewritingForms.{query_at, product_onto}
use Rattle.gp_rewrite.proofs.branch.product_onto.Given as goal

-- the tables that remain, onto the query so far
abbrev pub invariant-loop-table : goal.invariant-loop-table
invariant-loop-table l =
    product_onto (query_at (map annotated_view l.tables)) (annotated_view l.query) (drop l.table-index l.others)
    ≡ product_onto (query_at (map annotated_view l.tables)) (annotated_view l.initial.query) l.others
