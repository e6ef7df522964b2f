use Rattle.std.proofs.Common.{◌≡◌, map, take}
use Rattle.gp_syntax.specs.Views.{rule_view}
use Rattle.gp_ask.specs.AskingForms.{pattern_of}
use Rattle.gp_ask.proofs.rules.patterns_in_order.Given as goal

-- the rules so far
abbrev pub invariant-loop-rule : goal.invariant-loop-rule
invariant-loop-rule l = l.found ≡ map pattern_of (map rule_view (take l.rule-index l.rules))
