use Rattle.std.proofs.Common.{◌≡◌, take}
use Rattle.gp_ask.proofs.rules.are_same_rules.Given as goal

-- the rules so far are the same
abbrev pub invariant-loop-i : goal.invariant-loop-i
invariant-loop-i l = take l.i l.rules ≡ take l.i l.others
