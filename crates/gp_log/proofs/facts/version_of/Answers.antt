use Rattle.std.proofs.Common.{arith}
use Rattle.gp_log.proofs.CountLemmas.{commits-before}
use Rattle.gp_log.proofs.facts.version_of.Goals as goal

pub overflow_add-version : goal.overflow_add-version
overflow_add-version c = omega (arith, c.requires, c.loop-entry-test.true, c.loop-entry.invariant.0, commits-before c.loop-entry.entry-index c.args.entries.now)
