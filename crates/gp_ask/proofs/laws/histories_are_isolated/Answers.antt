use Rattle.std.proofs.Common.{length, sym, ◌∙◌}
use Rattle.gp_base.specs.Annotated.{monomials, unannotated}
use Rattle.gp_algebra.specs.Reannotation.{forgotten}
use Rattle.gp_log.specs.LogFacts.{tables_in}
use Rattle.gp_log.specs.Parameters.{parameters}
use Rattle.gp_machine.specs.Entries.{log_of, versions_in}
use Rattle.gp_whatif.specs.Replays.{IsCoherent}
use Rattle.gp_ask.proofs.IsolatedLemmas.{remade-isolated, unstopped-by}
use Rattle.gp_ask.proofs.LostLemmas.{all-lose-rightly}
use Rattle.gp_ask.proofs.ProvenanceLemmas.{replayable}
use Rattle.gp_ask.proofs.TargetLemmas.{targets-checked}
use Rattle.gp_ask.proofs.laws.histories_are_isolated.Goals as goal

pub returns-clause-reached : goal.returns-clause-reached
returns-clause-reached c = λ lines.
    let reached = c.reached_states_are_histories.ensures.after monomials parameters lines in
    record { history = reached.history; reads = reached.views }

pub returns-clause-lost : goal.returns-clause-lost
returns-clause-lost c = λ lines. (all-lose-rightly monomials parameters c.conflicts_are_least.ensures.some lines).lost

pub returns-clause-remade : goal.returns-clause-remade
returns-clause-remade c = λ dump rules changes entries made none.
    let coherent = c.changed_logs_are_coherent.ensures in
    let own : IsCoherent entries = coherent.changed parameters dump.entries entries changes targets-checked (coherent.replayable dump.entries (replayable dump rules)) made in
    let forgets = c.annotations_commute.ensures.forgetting monomials in
    let unstopped =
    sym (c.annotations_change_no_replay.ensures.stops monomials unannotated forgotten forgets parameters (log_of entries) (length (tables_in entries)) (versions_in entries))
    ∙ unstopped-by entries none in
    remade-isolated entries own.sessions
    (c.histories_do_not_stop.ensures.replayed monomials parameters (tables_in entries) entries (c.logs_keep_their_sessions.ensures.order entries own.sessions) unstopped).history
