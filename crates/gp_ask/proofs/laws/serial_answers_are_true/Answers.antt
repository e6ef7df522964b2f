use Rattle.std.proofs.Common.{◌≡◌, ◌≤◌, ℕ, List, [], length, refl}
use Rattle.std.specs.List.Sorted.{IsPermutation}
use Rattle.gp_base.specs.Annotated.{unannotated}
use Rattle.gp_log.specs.LogFacts.{tables_in}
use Rattle.gp_log.specs.Parameters.{parameters}
use Rattle.gp_log.specs.Sessions.{KeepsSessions}
use Rattle.gp_machine.proofs.ReachedLemmas.{all_reached}
use Rattle.gp_machine.specs.Event.{after}
use Rattle.gp_machine.specs.HistorySpans.{state_spans}
use Rattle.gp_machine.specs.State.{State, start}
use Rattle.gp_dump.specs.Dumps.{dump_of}
use Rattle.gp_ask.specs.Asking.{table_spans}
use Rattle.gp_ask.proofs.SerialHeld.{all_true, answers, bags, runs_in_cycle, runs_serially}
use Rattle.gp_ask.proofs.TableLemmas.{tables-kept}
use Rattle.gp_ask.proofs.TargetLemmas.{targets-checked}
use Rattle.gp_ask.proofs.laws.serial_answers_are_true.Goals as goal

pub returns-clause-serial : goal.returns-clause-serial
returns-clause-serial c = λ lines texts e.
    let state : State (Unit {0}) = after unannotated parameters start lines in
    let keeps : KeepsSessions state.entries = (c.changed_logs_are_coherent.ensures.histories parameters lines targets-checked).sessions in
    let whole : tables_in state.entries ≡ state.catalogue = tables-kept unannotated parameters start lines refl in
    let beyond : (table : ℕ) → length state.catalogue ≤ table → state_spans state table ≡ [] = c.commits_publish_the_spans.ensures.beyond unannotated parameters targets-checked lines in
    runs_serially state keeps whole beyond texts e
    (λ order once all is. c.serial_orders_are_histories.ensures.same parameters lines (table_spans (dump_of state).tables) (bags state keeps whole beyond) order once all is)

pub returns-clause-cycle : goal.returns-clause-cycle
returns-clause-cycle c = λ lines texts e.
    let state : State (Unit {0}) = after unannotated parameters start lines in
    let keeps : KeepsSessions state.entries = (c.changed_logs_are_coherent.ensures.histories parameters lines targets-checked).sessions in
    let whole : tables_in state.entries ≡ state.catalogue = tables-kept unannotated parameters start lines refl in
    let beyond : (table : ℕ) → length state.catalogue ≤ table → state_spans state table ≡ [] = c.commits_publish_the_spans.ensures.beyond unannotated parameters targets-checked lines in
    let reached = all_reached unannotated parameters lines in
    let held = c.spans_hold_the_versions.ensures in
    runs_in_cycle state keeps whole beyond (held.rows unannotated parameters state reached) (held.apart unannotated parameters state reached) (held.whole state)
    (λ version table. c.a_version_has_one_row_of_an_identity.ensures.different version (state_spans state table) (held.apart unannotated parameters state reached table)) texts e

pub returns-clause-changes : goal.returns-clause-changes
returns-clause-changes c = λ lines.
    let state : State (Unit {0}) = after unannotated parameters start lines in
    let keeps : KeepsSessions state.entries = (c.changed_logs_are_coherent.ensures.histories parameters lines targets-checked).sessions in
    let whole : tables_in state.entries ≡ state.catalogue = tables-kept unannotated parameters start lines refl in
    let beyond : (table : ℕ) → length state.catalogue ≤ table → state_spans state table ≡ [] = c.commits_publish_the_spans.ensures.beyond unannotated parameters targets-checked lines in
    let reached = all_reached unannotated parameters lines in
    let held = c.spans_hold_the_versions.ensures in
    all_true state keeps whole beyond (held.rows unannotated parameters state reached) (held.apart unannotated parameters state reached) (held.whole state)
    (λ version table. c.a_version_has_one_row_of_an_identity.ensures.different version (state_spans state table) (held.apart unannotated parameters state reached table))

pub returns-clause-answered : goal.returns-clause-answered
returns-clause-answered c = λ lines.
    let state : State (Unit {0}) = after unannotated parameters start lines in
    let keeps : KeepsSessions state.entries = (c.changed_logs_are_coherent.ensures.histories parameters lines targets-checked).sessions in
    let whole : tables_in state.entries ≡ state.catalogue = tables-kept unannotated parameters start lines refl in
    let beyond : (table : ℕ) → length state.catalogue ≤ table → state_spans state table ≡ [] = c.commits_publish_the_spans.ensures.beyond unannotated parameters targets-checked lines in
    answers state keeps whole beyond (c.serial_orders_are_histories.ensures.runs parameters lines (table_spans (dump_of state).tables) (bags state keeps whole beyond))
