use Rattle.std.proofs.Common.{◌≡◌, take, ℕ}
use Rattle.std.specs.List.{flat_map}
use Rattle.gprom_cli.specs.Generated as spec
use Rattle.gprom_cli.proofs.generated.generate_questions.Given as goal

-- the questions about the transactions so far
abbrev pub invariant-loop-t : goal.invariant-loop-t
invariant-loop-t l = l.questions.items ≡ flat_map (λ (t : ℕ). spec.pieces_line (spec.replay_line t)) (take l.t-index l.committed)
