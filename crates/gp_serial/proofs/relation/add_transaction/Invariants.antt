use Rattle.gp_log.specs.Contents.{entries, tables}
use Rattle.gp_serial.specs.Preceding.{Gains, transaction_links}
use Rattle.gp_serial.proofs.relation.add_transaction.Given as goal

-- the pairs of the first statements
abbrev pub invariant-loop-before : goal.invariant-loop-before
invariant-loop-before l = Gains (transaction_links (entries l.log) (tables l.log) l.changes l.t l.before) l.initial.graph l.graph
