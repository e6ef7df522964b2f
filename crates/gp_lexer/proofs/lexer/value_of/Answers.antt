use Rattle.std.proofs.Common.{◌-◌, ◌^◌, arith}
use Rattle.gp_lexer.proofs.NumberLemmas.{digit-bound, value_of-more}
use Rattle.gp_lexer.proofs.lexer.value_of.Goals as goal

pub overflow_sub-digit : goal.overflow_sub-digit
overflow_sub-digit c = digit-bound c.args.digits.now c.loop-digit.digit-index c.requires c.loop-digit-test.true

pub loop-digit-preserved : goal.loop-digit-preserved
loop-digit-preserved c =
    value_of-more c.args.digits.now c.loop-digit.digit-index c.loop-digit.value _ (2 ^ 64 - 1) c.requires c.loop-digit-test.true c.loop-digit.invariant
    (omega (arith, c.saturating_mul.ensures, c.from.ensures, c.saturating_add-value.ensures))
