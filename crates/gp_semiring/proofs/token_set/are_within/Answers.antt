use Rattle.std.proofs.Common.{sym, ◌∙◌}
use Rattle.gp_base.specs.declared.token.Token.TheVariants.{Inserted}
use Rattle.gp_semiring.proofs.SetLemmas.{walk_stops, walk_goes_on, walk_rises, token_rest}
use Rattle.gp_semiring.proofs.token_set.are_within.Goals as goal

pub returns-in-None : goal.returns-in-None
returns-in-None c =
    sym (walk_stops c.args.tokens.now c.loop-token.token-index _ c.loop-token.rest.now c.loop-token-test.true c.loop-token.invariant.tokens c.loop-token.invariant.others (sym (rw c.in-None.is at c.rest_after.ensures)))
    ∙ c.loop-token.invariant.rest

pub loop-token-preserved : goal.loop-token-preserved
loop-token-preserved c =
    record {
      rest = walk_goes_on c.args.tokens.now c.loop-token.token-index _ c.loop-token.rest.now c.in-Some.after.now c.loop-token-test.true c.loop-token.invariant.tokens c.loop-token.invariant.others (sym (rw c.in-Some.is at c.rest_after.ensures)) ∙ c.loop-token.invariant.rest;
      tokens = walk_rises c.args.tokens.now c.loop-token.token-index (Inserted 0 0 0) c.loop-token-test.true c.loop-token.invariant.tokens;
      others = token_rest _ c.loop-token.rest.now c.in-Some.after.now c.loop-token.invariant.others (sym (rw c.in-Some.is at c.rest_after.ensures));
    }
