use Rattle.std.proofs.Common.{drop, map}
use Rattle.gp_serial.specs.LookViews.{look_view}
use Rattle.gp_serial.specs.Preceding.{looks_links}
use Rattle.gp_serial.proofs.RelationLemmas.{Remains}
use Rattle.gp_serial.proofs.relation.add_looks.Given as goal

-- the looks that remain give the other pairs
abbrev pub invariant-loop-look : goal.invariant-loop-look
invariant-loop-look l = Remains (looks_links l.t l.version l.changes (map look_view (drop l.look-index l.looks))) (looks_links l.t l.version l.changes (map look_view l.looks)) l.initial.graph l.graph
