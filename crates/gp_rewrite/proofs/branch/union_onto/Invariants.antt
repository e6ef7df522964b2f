use Rattle.std.proofs.Common.{◌≡◌, map, drop}
use Rattle.gp_algebra.specs.QueryViews.{annotated_view}
use Rattle.gp_algebra.specs.Views.{branch_view}
use Rattle.gp_rewrite.specs.RewritingForms.{query_at, union_onto}
use Rattle.gp_rewrite.proofs.branch.union_onto.Given as goal

-- the branches that remain, onto the query so far
abbrev pub invariant-loop-branch : goal.invariant-loop-branch
invariant-loop-branch l =
    union_onto (query_at (map annotated_view l.tables)) (annotated_view l.query) (map branch_view (drop l.branch-index l.others))
    ≡ union_onto (query_at (map annotated_view l.tables)) (annotated_view l.initial.query) (map branch_view l.others)
