use Rattle.std.proofs.Common.{◌≡◌, [], ◌∷◌, filter, map, take}
use Rattle.std.specs.List.{flat_map}
use Rattle.gp_algebra.specs.Plain.{is_marked}
use Rattle.gp_exec.specs.Evaluating.{found_rows}
use Rattle.gp_exec.specs.PendingRows.{cell_there}
use Rattle.gp_exec.proofs.pending.Pending.marked.Given as goal

abbrev pub invariant-loop-place : goal.invariant-loop-place
invariant-loop-place l =
    map (λ r. r.now) l.kept.items ≡ flat_map (λ row. filter (λ r. is_marked (cell_there l.self.mark r)) (row ∷ [])) (take l.place (found_rows l.self.rows))
