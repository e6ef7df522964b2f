use Rattle.std.proofs.Common.{◌≡◌, ◌++◌, take}
use Rattle.std.specs.List.{flat_map}
use Rattle.gp_base.specs.Numbered.{newline}
use Rattle.gp_ask.proofs.display.append_ended.Given as goal

-- the texts so far
abbrev pub invariant-loop-text : goal.invariant-loop-text
invariant-loop-text l = l.out.items ≡ l.initial.out.items ++ flat_map (λ line. line ++ newline) (take l.text-index l.texts)
