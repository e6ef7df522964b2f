use Rattle.gp_serial.specs.NameForms.{AreByTransaction}
use Rattle.gp_serial.proofs.naming.by_transaction.Given as goal

abbrev pub invariant-loop-t : goal.invariant-loop-t
invariant-loop-t l = AreByTransaction l.changes l.t l.lists.items
