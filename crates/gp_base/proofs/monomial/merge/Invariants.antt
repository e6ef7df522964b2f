use Rattle.std.proofs.Common.{◌≡◌, ◌<◌, ◌≤◌, ◌+◌, ◌-◌, ◌++◌, length, drop}
use Rattle.gp_base.specs.Tokens.{times}
use Rattle.gp_base.proofs.monomial.merge.Given as goal

-- the pairs so far, and the product of those that remain, are the product of all
abbrev pub invariant-both : goal.invariant-both
invariant-both l =
    record {
      i_within : l.i ≤ length l.left;
      j_within : l.j ≤ length l.right;
      product : l.powers.items ++ times (drop l.i l.left) (drop l.j l.right) ≡ times l.left l.right;
    }

abbrev pub decreases-both : goal.decreases-both
decreases-both l = (length l.initial.left - l.i) + (length l.initial.right - l.j)

abbrev pub invariant-left : goal.invariant-left
invariant-left l =
    record {
      i_within : l.i ≤ length l.left;
      j_within : l.j ≤ length l.right;
      right_done : l.i < length l.left → length l.right ≤ l.j;
      product : l.powers.items ++ times (drop l.i l.left) (drop l.j l.right) ≡ times l.left l.right;
    }

abbrev pub decreases-left : goal.decreases-left
decreases-left l = length l.initial.left - l.i

abbrev pub invariant-right : goal.invariant-right
invariant-right l =
    record {
      j_within : l.j ≤ length l.right;
      product : l.powers.items ++ drop l.j l.right ≡ times l.left l.right;
    }

abbrev pub decreases-right : goal.decreases-right
decreases-right l = length l.initial.right - l.j
