use Rattle.std.proofs.Common.{◌≡◌, ◌+◌, length}
use Rattle.std.specs.Option.{option_map, option_map_or}
use Rattle.gp_dumpline.specs.CellParts.{with_further}
use Rattle.gp_dumpline.proofs.cells.push_further.Given as goal

abbrev pub invariant-loop-left : goal.invariant-loop-left
invariant-loop-left l = with_further l.row (option_map (λ text. text.now) l.left) ≡ with_further l.initial.row (option_map (λ text. text.now) l.rest)

abbrev pub decreases-loop-left : goal.decreases-loop-left
decreases-loop-left l = option_map_or (λ text. length text.now + 1) l.left 0
