use Rattle.std.proofs.Common.{drop}
use Rattle.gp_serial.specs.Preceding.{first_links}
use Rattle.gp_serial.proofs.RelationLemmas.{Remains}
use Rattle.gp_serial.proofs.relation.add_writes.Given as goal

-- the changes that remain give the other pairs
abbrev pub invariant-loop-other : goal.invariant-loop-other
invariant-loop-other l = Remains (first_links l.change (drop l.other-index l.others)) (first_links l.change l.others) l.initial.graph l.graph
