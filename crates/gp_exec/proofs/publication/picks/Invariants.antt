use Rattle.std.proofs.Common.{◌≡◌, ◌++◌, map, take}
use Rattle.gp_exec.specs.Evaluating.{found_rows}
use Rattle.gp_exec.proofs.publication.picks.Given as goal

abbrev pub invariant-loop-place : goal.invariant-loop-place
invariant-loop-place l = map (λ r. r.now) l.rows.items ≡ map (λ r. r.now) l.initial.rows.items ++ take l.place (found_rows l.own)
