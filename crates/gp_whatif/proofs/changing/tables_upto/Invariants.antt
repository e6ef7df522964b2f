use Rattle.std.proofs.Common.{◌≡◌, take}
use Rattle.gp_log.specs.LogFacts.{tables_in}
use Rattle.gp_log.specs.Logs.{log_view}
use Rattle.gp_whatif.proofs.changing.tables_upto.Given as goal

-- the tables so far
abbrev pub invariant-loop-before : goal.invariant-loop-before
invariant-loop-before l = l.catalog ≡ tables_in (log_view (take l.before l.log.entries))
