use Rattle.gp_reenact.specs.Reenacting.{spans_of}
use Rattle.gp_history.proofs.NarrowedLemmas.{AreAll}
use Rattle.gp_history.proofs.narrowed.Narrowed.whole.Given as goal

abbrev pub invariant-loop-table : goal.invariant-loop-table
invariant-loop-table g l = AreAll (spans_of l.versions) l.known l.table l.parts.items
