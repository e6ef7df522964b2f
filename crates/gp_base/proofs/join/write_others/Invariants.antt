use Rattle.std.proofs.Common.{◌≡◌, ◌++◌, take}
use Rattle.std.specs.List.{flat_map}
use Rattle.gp_base.proofs.join.write_others.Given as goal

-- the texts of the items so far are appended
abbrev pub invariant-loop-item : goal.invariant-loop-item
invariant-loop-item g l = l.out.items ≡ l.initial.out.items ++ flat_map (λ item. l.separator ++ g.W.TextFormat.text item) (take l.item-index l.items)
