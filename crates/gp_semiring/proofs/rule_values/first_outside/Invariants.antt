use Rattle.std.proofs.Common.{◌≡◌, drop}
use Rattle.gp_semiring.specs.Rules.{first_outside}
use Rattle.gp_semiring.proofs.rule_values.first_outside.Given as goal

-- the rules that remain decide
abbrev pub invariant-loop-rule : goal.invariant-loop-rule
invariant-loop-rule g l = first_outside g.K.Semiring.number_of (drop l.rule-index l.rule-items) l.rules.other ≡ first_outside g.K.Semiring.number_of l.rules.rules l.rules.other
