use Rattle.std.proofs.Common.{◌≡◌, drop}
use Rattle.gp_semiring.specs.Rules.{number_by}
use Rattle.gp_semiring.proofs.rules.Rules.number.Given as goal

-- the rules to come decide
abbrev pub invariant-loop-rule : goal.invariant-loop-rule
invariant-loop-rule l = number_by (drop l.rule-index l.rule-items) l.self.other l.token ≡ number_by l.rule-items l.self.other l.token
