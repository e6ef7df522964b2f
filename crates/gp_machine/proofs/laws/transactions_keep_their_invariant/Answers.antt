use Rattle.gp_machine.proofs.ActiveLemmas.{begin_view, step_view, refreshed_view, active_bases, active_over, active_view}
use Rattle.gp_machine.specs.Entries.{log_of}
use Rattle.gp_machine.proofs.laws.transactions_keep_their_invariant.Goals as goal

pub returns-clause-begin : goal.returns-clause-begin
returns-clause-begin g c t base different unmarked others = begin_view t base different unmarked others

pub returns-clause-statement : goal.returns-clause-statement
returns-clause-statement g c kind t k statement base view written is = step_view kind t k statement base view written is

pub returns-clause-refresh : goal.returns-clause-refresh
returns-clause-refresh g c t k base view later written is different unmarked others = refreshed_view t k base view later written is different unmarked others

pub returns-clause-reached : goal.returns-clause-reached
returns-clause-reached g c kind limits state reached session active e = active_view kind limits state reached session active e

pub returns-clause-bases : goal.returns-clause-bases
returns-clause-bases g c kind limits state reached session active e =
    active_bases kind (log_of state.entries) state.committed state.written reached.history active (active_over kind limits state reached session active e)
