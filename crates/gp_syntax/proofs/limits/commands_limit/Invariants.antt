use Rattle.std.proofs.Common.{◌≡◌, drop}
use Rattle.gp_syntax.specs.Measures.{earlier}
use Rattle.gp_syntax.proofs.LimitLemmas.{limit_of_commands}
use Rattle.gp_syntax.proofs.limits.commands_limit.Given as goal

abbrev pub invariant-loop-change : goal.invariant-loop-change
invariant-loop-change l = earlier l.found (limit_of_commands (drop l.change-index l.changes)) ≡ limit_of_commands l.changes
