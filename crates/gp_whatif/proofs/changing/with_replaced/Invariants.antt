use Rattle.gp_algebra.specs.Views.{statement_view}
use Rattle.gp_syntax.specs.Views.{command_view}
use Rattle.gp_whatif.proofs.ChangingLemmas.{Others}
use Rattle.gp_whatif.proofs.changing.with_replaced.Given as goal

-- the entries so far are changed
abbrev pub invariant-loop-place : goal.invariant-loop-place
invariant-loop-place l = Others l.t l.k (λ own. command_view l.fn.command.value) (λ own. statement_view l.fn.stmt.value) l.log.entries l.place l.new.entries
