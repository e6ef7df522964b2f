use Rattle.gp_log.specs.Parameters.{parameters}
use Rattle.gp_machine.specs.Entries.{versions_in}
use Rattle.gp_whatif.specs.Changed.{changed_log}
use Rattle.gp_whatif.specs.Replays.{IsCoherent}
use Rattle.gp_ask.proofs.HypotheticalLemmas.{any-order, changed-same, remade}
use Rattle.gp_ask.proofs.TargetLemmas.{targets-checked}
use Rattle.gp_ask.proofs.laws.changed_histories_answer_their_questions.Goals as goal

pub returns-clause-held : goal.returns-clause-held
returns-clause-held c = λ entries changes is subject query.
    changed-same (changed_log parameters entries changes) subject query
    (λ new made.
    let own : IsCoherent new = c.changed_logs_are_coherent.ensures.changed parameters entries new changes targets-checked is made in
    remade new (λ place past. c.replays_have_the_tables_of_their_logs.ensures new own place past (versions_in new))
    (c.replays_answer_as_their_histories.ensures new (c.logs_keep_their_sessions.ensures.order new own.sessions)) subject query)

pub returns-clause-any_order : goal.returns-clause-any_order
returns-clause-any_order c = λ entries is none tables are subject query.
    let own : IsCoherent entries = c.changed_logs_are_coherent.ensures.replayable entries is in
    any-order entries (λ place past. c.replays_have_the_tables_of_their_logs.ensures entries own place past (versions_in entries))
    (c.replays_answer_as_their_histories.ensures entries (c.logs_keep_their_sessions.ensures.order entries is.sessions) none) tables are subject query
