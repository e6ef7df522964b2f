use Rattle.std.proofs.Common.{◌≡◌, ◌+◌, suc, map, drop}
use Rattle.gp_algebra.specs.QueryViews.{annotated_view}
use Rattle.gp_algebra.specs.Views.{branch_view}
use Rattle.gp_rewrite.specs.Rewriting.{made_onto}
use Rattle.gp_rewrite.specs.RewritingForms.{query_at}
use Rattle.gp_rewrite.proofs.statement.made_onto.Given as goal

-- the branches that remain, onto the query so far
abbrev pub invariant-loop-branch : goal.invariant-loop-branch
invariant-loop-branch l =
    record {
      number : l.b ≡ l.branch-index + 1;
      rest :
          made_onto l.t l.k (suc l.b) (query_at (map annotated_view l.tables)) (annotated_view l.query) (map branch_view (drop l.branch-index l.others))
          ≡ made_onto l.t l.k 2 (query_at (map annotated_view l.tables)) (annotated_view l.initial.query) (map branch_view l.others);
    }
