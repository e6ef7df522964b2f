use Rattle.std.proofs.Common.{◌≡◌, ◌++◌, drop}
use Rattle.std.specs.Prelude.{filter}
use Rattle.gp_serial.specs.Relations.{is_edge}
use Rattle.gp_serial.specs.PathForms.{goes_back}
use Rattle.gp_serial.proofs.pair_cycle.backs.Given as goal

-- the numbers that remain give the others
abbrev pub invariant-loop-b : goal.invariant-loop-b
invariant-loop-b l = l.found.items ++ filter (goes_back (is_edge l.graph) l.versions l.a) (drop l.b-index l.all) ≡ filter (goes_back (is_edge l.graph) l.versions l.a) l.all
