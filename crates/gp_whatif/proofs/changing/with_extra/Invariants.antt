use Rattle.gp_algebra.specs.Views.{statement_view}
use Rattle.gp_syntax.specs.Views.{command_view}
use Rattle.gp_whatif.proofs.AddingLemmas.{Extended}
use Rattle.gp_whatif.proofs.changing.with_extra.Given as goal

-- the entries so far, with the statement added
abbrev pub invariant-loop-place : goal.invariant-loop-place
invariant-loop-place l = Extended l.t (command_view l.fn.command.value) (statement_view l.fn.stmt.value) l.log.entries l.last l.place l.new.entries
