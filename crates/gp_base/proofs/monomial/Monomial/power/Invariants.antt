use Rattle.std.proofs.Common.{◌≡◌, drop}
use Rattle.gp_base.specs.MonomialForms.{power}
use Rattle.gp_base.proofs.monomial.Monomial.power.Given as goal

-- the pairs that remain decide
abbrev pub invariant-loop-other : goal.invariant-loop-other
invariant-loop-other l = power (drop l.other-index l.other-items) l.token ≡ power l.self l.token
