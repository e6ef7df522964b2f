use Rattle.std.proofs.Common.{drop, ◌≡◌}
use Rattle.gp_ask.specs.MadeForms.{has_none}
use Rattle.gp_ask.proofs.made.has_none.Given as goal

-- the flags that remain decide
abbrev pub invariant-loop-flag : goal.invariant-loop-flag
invariant-loop-flag l = has_none (drop l.flag-index l.flags) ≡ has_none l.flags
