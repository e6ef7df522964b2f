use Rattle.std.proofs.Common.{drop}
use Rattle.gp_log.specs.Contents.{entries, tables}
use Rattle.gp_serial.specs.Preceding.{all_links}
use Rattle.gp_serial.proofs.RelationLemmas.{Remains}
use Rattle.gp_serial.proofs.relation.add_transactions.Given as goal

-- the transactions that remain give the other pairs
abbrev pub invariant-loop-t : goal.invariant-loop-t
invariant-loop-t l =
    Remains (all_links (entries l.log) (tables l.log) l.changes (drop l.t-index l.committers)) (all_links (entries l.log) (tables l.log) l.changes l.committers) l.initial.graph l.graph
