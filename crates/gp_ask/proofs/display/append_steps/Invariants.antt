use Rattle.std.proofs.Common.{◌≡◌, ◌++◌, take}
use Rattle.std.specs.List.{flat_map}
use Rattle.gp_ask.specs.Texts.{step_line}
use Rattle.gp_ask.proofs.display.append_steps.Given as goal

-- the lines of the steps so far
abbrev pub invariant-loop-text : goal.invariant-loop-text
invariant-loop-text l = l.out.items ≡ l.initial.out.items ++ flat_map step_line (take l.text-index l.steps)
