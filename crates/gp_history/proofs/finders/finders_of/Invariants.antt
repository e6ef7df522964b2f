use Rattle.gp_reenact.specs.Reenacting.{spans_of}
use Rattle.gp_history.proofs.RenewingLemmas.{AreFirst}
use Rattle.gp_history.proofs.finders.finders_of.Given as goal

abbrev pub invariant-loop-table : goal.invariant-loop-table
invariant-loop-table l = AreFirst (spans_of l.versions) l.table l.finders.items
