use Rattle.std.proofs.Common.{◌≡◌, drop, map}
use Rattle.gp_ask.proofs.comparing.are_same.Given as goal

-- the parts that remain decide
abbrev pub invariant-loop-place : goal.invariant-loop-place
invariant-loop-place g l = map g.T.Compared.view (drop l.place l.parts) ≡ map g.T.Compared.view (drop l.place l.others) → map g.T.Compared.view l.parts ≡ map g.T.Compared.view l.others
