use Rattle.std.proofs.Common.{drop}
use Rattle.gp_serial.specs.LookViews.{look_view}
use Rattle.gp_serial.specs.Preceding.{linked_by}
use Rattle.gp_serial.proofs.RelationLemmas.{Remains}
use Rattle.gp_serial.proofs.relation.add_look.Given as goal

-- the changes that remain give the other pairs
abbrev pub invariant-loop-change : goal.invariant-loop-change
invariant-loop-change l = Remains (linked_by l.t l.version (drop l.change-index l.changes) (look_view l.look)) (linked_by l.t l.version l.changes (look_view l.look)) l.initial.graph l.graph
