use Rattle.std.proofs.Common.{◌≡◌, map, take, drop}
use Rattle.gp_check.specs.Faults.{first_repeated, repeated_behind}
use Rattle.gp_check.proofs.names.first_repeated.Given as goal

abbrev pub invariant-loop-i : goal.invariant-loop-i
invariant-loop-i g l = repeated_behind (map g.T.Named.label (take l.i l.items)) (map g.T.Named.label (drop l.i l.items)) ≡ first_repeated (map g.T.Named.label l.items)
