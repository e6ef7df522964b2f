use Rattle.gp_log.specs.Logs.{log_view}
use Rattle.gp_machine.specs.Entries.{log_of}
use Rattle.gp_reenact.specs.Reenacting.{spans_of}
use Rattle.gp_history.proofs.NarrowedLemmas.{ArePartly}
use Rattle.gp_history.proofs.narrowed.Narrowed.of_commit.Given as goal

abbrev pub invariant-loop-table : goal.invariant-loop-table
invariant-loop-table g l = ArePartly (log_of (log_view l.log.entries)) l.t l.before (spans_of l.versions) l.known l.table l.most l.parts.items
