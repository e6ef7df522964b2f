use Rattle.std.proofs.Common.{◌≡◌, [], ◌∷◌, filter, map, take}
use Rattle.std.specs.List.{flat_map}
use Rattle.gp_expr.specs.Values.{passes}
use Rattle.gp_expr.specs.Views.{cond_view}
use Rattle.gp_exec.proofs.found.picks_if_true.Given as goal

abbrev pub invariant-loop-row : goal.invariant-loop-row
invariant-loop-row l = map (λ r. r.now) l.kept.items ≡ flat_map (λ row. filter (passes (cond_view l.cond)) (row ∷ [])) (take l.row-index l.rows)
