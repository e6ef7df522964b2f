use Rattle.std.proofs.Common.{◌≡◌, ◌∙◌, ◌+◌, ◌*◌, ◌-◌, min, ap, sym, arith, get_or, true}
use Rattle.std.proofs.lemmas.List.{drop_all}
use Rattle.gp_base.specs.Digits.{is_digit}
use Rattle.gp_base.specs.Saturating.{saturating_on, greatest}
use Rattle.gp_base.proofs.SaturatingLemmas.{saturating-step, saturating-stop, saturating-end}
use Rattle.gp_base.proofs.digits.digits_number.Goals as goal

pub loop-byte-preserved : goal.loop-byte-preserved
loop-byte-preserved c =
    let digit : is_digit (get_or c.args.text.now c.loop-byte.byte-index 0) ≡ true = sym c.is_ascii_digit.ensures.value ∙ c.if-not-is_ascii_digit.false in
    let sum : min c.saturating_add-number.result greatest ≡ min (10 * c.loop-byte.number + (get_or c.args.text.now c.loop-byte.byte-index 0 - 48)) greatest = omega (arith, c.saturating_add-number.ensures, c.saturating_mul.ensures, c.from.ensures) in
    (saturating-step c.loop-byte.number c.saturating_add-number.result c.loop-byte.byte-index c.args.text.now c.loop-byte-test.true digit sum ∙ c.loop-byte.invariant.0, c.saturating_add-number.type_inv)

pub returns : goal.returns
returns c =
    sym (saturating-end c.loop-byte.number c.loop-byte.invariant.1) ∙ ap (saturating_on c.loop-byte.number) (sym (drop_all c.loop-byte.byte-index c.args.text.now c.loop-byte-test.false)) ∙ c.loop-byte.invariant.0

pub returns-then-not-is_ascii_digit : goal.returns-then-not-is_ascii_digit
returns-then-not-is_ascii_digit c =
    sym (sym c.loop-byte.invariant.0 ∙ saturating-stop c.loop-byte.number c.loop-byte.byte-index c.args.text.now c.loop-byte-test.true (sym c.is_ascii_digit.ensures.value ∙ c.if-not-is_ascii_digit.true))
