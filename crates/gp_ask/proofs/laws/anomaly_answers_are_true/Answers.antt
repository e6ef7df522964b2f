use Rattle.std.proofs.Common.{◌≡◌, ◌≤◌, ℕ, List, [], length, refl}
use Rattle.gp_base.specs.Annotated.{unannotated}
use Rattle.gp_log.proofs.LoggedSessions.{sessions_kept}
use Rattle.gp_log.specs.LogFacts.{tables_in}
use Rattle.gp_log.specs.Parameters.{parameters}
use Rattle.gp_log.specs.Sessions.{KeepsSessions}
use Rattle.gp_machine.proofs.ReachedLemmas.{all_reached}
use Rattle.gp_machine.specs.Event.{after}
use Rattle.gp_machine.specs.HistorySpans.{state_spans}
use Rattle.gp_machine.specs.Precedence.{is_before}
use Rattle.gp_machine.specs.RowChanges.{tables_changes}
use Rattle.gp_machine.specs.State.{State, start}
use Rattle.gp_dump.specs.Dumps.{dump_of}
use Rattle.gp_serial.specs.Anomalies.{goes_back}
use Rattle.gp_serial.specs.Serializing.{by_number}
use Rattle.gp_serial.proofs.AnomalyLemmas.{by_number-up}
use Rattle.gp_ask.specs.Asking.{table_spans}
use Rattle.gp_ask.proofs.SerialHeld.{anomalies_true, bags, limited}
use Rattle.gp_ask.proofs.TableLemmas.{tables-kept}
use Rattle.gp_ask.proofs.TargetLemmas.{targets-checked}
use Rattle.gp_ask.proofs.laws.anomaly_answers_are_true.Goals as goal

pub returns-clause-cycles : goal.returns-clause-cycles
returns-clause-cycles c = λ lines texts e.
    let state : State (Unit {0}) = after unannotated parameters start lines in
    let keeps : KeepsSessions state.entries = (c.changed_logs_are_coherent.ensures.histories parameters lines targets-checked).sessions in
    let whole : tables_in state.entries ≡ state.catalogue = tables-kept unannotated parameters start lines refl in
    let beyond : (table : ℕ) → length state.catalogue ≤ table → state_spans state table ≡ [] = c.commits_publish_the_spans.ensures.beyond unannotated parameters targets-checked lines in
    let reached = all_reached unannotated parameters lines in
    let held = c.spans_hold_the_versions.ensures in
    anomalies_true state keeps whole beyond (held.rows unannotated parameters state reached) (held.apart unannotated parameters state reached) (held.whole state)
    (λ version table. c.a_version_has_one_row_of_an_identity.ensures.different version (state_spans state table) (held.apart unannotated parameters state reached table))
    (c.pair_cycles_are_first.ensures (is_before (tables_in state.entries) state.entries (tables_changes 0 (dump_of state).tables))
    (goes_back (tables_in state.entries) state.entries (tables_changes 0 (dump_of state).tables)) (by_number state.entries) (by_number-up state.entries keeps)).each texts e

pub returns-clause-limited : goal.returns-clause-limited
returns-clause-limited c = λ lines refusal e.
    let state : State (Unit {0}) = after unannotated parameters start lines in
    let keeps : KeepsSessions state.entries = (c.changed_logs_are_coherent.ensures.histories parameters lines targets-checked).sessions in
    let whole : tables_in state.entries ≡ state.catalogue = tables-kept unannotated parameters start lines refl in
    let beyond : (table : ℕ) → length state.catalogue ≤ table → state_spans state table ≡ [] = c.commits_publish_the_spans.ensures.beyond unannotated parameters targets-checked lines in
    limited state keeps whole beyond (c.serial_orders_are_histories.ensures.runs parameters lines (table_spans (dump_of state).tables) (bags state keeps whole beyond)) refusal e

pub returns-clause-none : goal.returns-clause-none
returns-clause-none c = λ dump rules.
    let keeps : KeepsSessions dump.entries = sessions_kept parameters dump.entries rules.log in
    let laws = c.no_anomaly_without_a_cycle.ensures in (
      laws.none (tables_in dump.entries) dump.entries (tables_changes 0 dump.tables) keeps,
      laws.only (tables_in dump.entries) dump.entries (tables_changes 0 dump.tables) keeps,
    )

pub returns-clause-least : goal.returns-clause-least
returns-clause-least c = λ dump rules.
    c.anomalies_begin_with_the_least_cycle.ensures (tables_in dump.entries) dump.entries (tables_changes 0 dump.tables) (sessions_kept parameters dump.entries rules.log)
