use Rattle.std.proofs.Common.{not}
use Rattle.gp_base.specs.Tokens.{token_cmp}
use Rattle.gp_semiring.specs.Witnesses.{is_within}
use Rattle.gp_semiring.proofs.SetLemmas.{rising_kept}
use Rattle.gp_semiring.proofs.set_list.with_set.Goals as goal

pub insert-requires : goal.insert-requires
insert-requires c = rw c.in_ok-kept.ensures (rising_kept (λ other. not (is_within token_cmp c.args.set other)) c.args.sets.items c.requires)
