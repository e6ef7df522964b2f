use Rattle.gp_whatif.specs.Changed.{dropped_command, dropped_statement}
use Rattle.gp_whatif.proofs.ChangingLemmas.{Others}
use Rattle.gp_whatif.proofs.changing.with_dropped.Given as goal

-- the entries so far are changed
abbrev pub invariant-loop-place : goal.invariant-loop-place
invariant-loop-place l = Others l.t l.k dropped_command dropped_statement l.log.entries l.place l.new.entries
