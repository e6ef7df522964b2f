use Rattle.std.proofs.Common.{◌≡◌, drop}
use Rattle.std.specs.List.{list_any}
use Rattle.gp_base.specs.Tokens.{token_cmp}
use Rattle.gp_semiring.specs.Witnesses.{is_within}
use Rattle.gp_semiring.proofs.set_list.has_beyond.Given as goal

abbrev pub invariant-loop-other : goal.invariant-loop-other
invariant-loop-other l = list_any (λ other. is_within token_cmp l.set other) (drop l.other-index l.sets) ≡ list_any (λ other. is_within token_cmp l.set other) l.sets
