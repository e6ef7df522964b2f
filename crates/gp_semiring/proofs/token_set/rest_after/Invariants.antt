use Rattle.std.proofs.Common.{◌≡◌, drop}
use Rattle.gp_base.specs.Tokens.{token_cmp}
use Rattle.gp_semiring.specs.WitnessAdding.{rest_after}
use Rattle.gp_semiring.proofs.token_set.rest_after.Given as goal

abbrev pub invariant-loop-at : goal.invariant-loop-at
invariant-loop-at l = rest_after token_cmp l.token (drop l.at l.tokens) ≡ rest_after token_cmp l.token l.tokens
