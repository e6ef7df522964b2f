use Rattle.std.proofs.Common.{◌≡◌}
use Rattle.std.specs.List.{flat_map}
use Rattle.gp_ask.specs.Writes.{listed_line}
use Rattle.gp_ask.proofs.causes.all_lines.Given as goal

-- those so far
abbrev pub invariant-loop-line : goal.invariant-loop-line
invariant-loop-line l = l.lines ≡ flat_map listed_line l.yielded
