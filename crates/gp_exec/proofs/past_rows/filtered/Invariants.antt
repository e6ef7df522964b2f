use Rattle.std.proofs.Common.{◌≡◌, [], ◌∷◌, filter, map, take}
use Rattle.std.specs.List.{flat_map}
use Rattle.gp_expr.specs.Values.{passes}
use Rattle.gp_expr.specs.Views.{cond_view}
use Rattle.gp_exec.specs.PastRows.{past_row}
use Rattle.gp_exec.proofs.past_rows.filtered.Given as goal

abbrev pub invariant-loop-row : goal.invariant-loop-row
invariant-loop-row l = map past_row l.kept.items ≡ flat_map (λ row. filter (passes (cond_view l.cond)) (row ∷ [])) (map past_row (take l.row-index l.rows))
