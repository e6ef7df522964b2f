use Rattle.std.proofs.Common.{◌≡◌, drop}
use Rattle.gp_ask.specs.ConflictForms.{any_met}
use Rattle.gp_ask.proofs.conflicts.any_met.Given as goal

-- the spans that remain decide
abbrev pub invariant-loop-span : goal.invariant-loop-span
invariant-loop-span l = any_met l.base l.upto (drop l.span-index l.spans) ≡ any_met l.base l.upto l.spans
