use Rattle.std.proofs.Common.{◌≡◌, ◌∙◌, ◌+◌, ◌*◌, ◌-◌, min, sym, arith, get_or, true}
use Rattle.gp_base.specs.Digits.{is_digit}
use Rattle.gp_dumpline.proofs.IdentitySteps.{digits-more}
use Rattle.gp_dumpline.proofs.identity.digits_at.Goals as goal

pub loop-at-preserved : goal.loop-at-preserved
loop-at-preserved c =
    let digit : is_digit (get_or c.args.bytes.now c.loop-at.at 0) ≡ true = sym c.is_ascii_digit.ensures.value ∙ c.if-not-is_ascii_digit.false in
    let next : c.min-number.result ≡ min (c.loop-at.number * 10 + (get_or c.args.bytes.now c.loop-at.at 0 - 48)) 1000000000 = omega (arith, c.min-number.ensures, c.from.ensures) in
    record {
      told = digits-more c.loop-at.number c.min-number.result c.loop-at.at c.args.bytes.now c.loop-at-test.true digit next ∙ c.loop-at.invariant.told;
      few = omega (arith, next);
      within = omega (arith, c.loop-at-test.true);
    }
