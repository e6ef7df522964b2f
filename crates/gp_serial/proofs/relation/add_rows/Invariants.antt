use Rattle.std.proofs.Common.{drop}
use Rattle.gp_serial.specs.Preceding.{row_links}
use Rattle.gp_serial.proofs.RelationLemmas.{Remains}
use Rattle.gp_serial.proofs.relation.add_rows.Given as goal

-- the rows that remain give the other pairs
abbrev pub invariant-loop-place : goal.invariant-loop-place
invariant-loop-place l = Remains (row_links (drop l.place l.changes)) (row_links l.changes) l.initial.graph l.graph
