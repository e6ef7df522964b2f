use Rattle.std.proofs.Common.{◌≡◌, ◌<◌, ◌^◌, drop}
use Rattle.gp_base.specs.Saturating.{saturating_on}
use Rattle.gp_base.proofs.digits.digits_number.Given as goal

abbrev pub invariant-loop-byte : goal.invariant-loop-byte
invariant-loop-byte l = (saturating_on l.number (drop l.byte-index l.text) ≡ saturating_on 0 l.text) × (l.number < 2 ^ 64)
