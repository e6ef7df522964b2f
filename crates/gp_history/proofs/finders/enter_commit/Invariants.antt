use Rattle.gp_reenact.specs.Reenacting.{spans_of}
use Rattle.gp_history.specs.Seeking.{AreFinders}
use Rattle.gp_history.proofs.finders.enter_commit.Given as goal

abbrev pub invariant-loop-table : goal.invariant-loop-table
invariant-loop-table l = AreFinders (spans_of l.versions) l.finders.items
