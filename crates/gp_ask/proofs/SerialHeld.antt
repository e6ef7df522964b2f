-- What the answers to SERIAL and ANOMALIES say of a history, given what holds of its row versions.
use Rattle.std.proofs.Common.{◌≡◌, ◌+◌, ◌<◌, ◌≤◌, ℕ, suc, true, false, List, [], ◌∷◌, Bool, length, map, None, refl, sym, ap, ◌∙◌, subst, arith}
use Rattle.std.specs.List.{AllByRecursion}
use Rattle.std.specs.List.Sorted.{IsPermutation}
use Rattle.gp_base.specs.declared.refusal.Refusal.{Refusal}
use Rattle.gp_base.specs.declared.refusal.Refusal.TheVariants.{E27}
use Rattle.gp_base.specs.declared.table.Table.{Table}
use Rattle.gp_base.specs.Annotated.{Annotated, unannotated}
use Rattle.gp_base.specs.Order.{sorted_by}
use Rattle.gp_algebra.specs.Reannotation.{forgotten, reannotated}
use Rattle.gp_dump.specs.Dumps.{dump_of}
use Rattle.gp_log.specs.LogFacts.{tables_in}
use Rattle.gp_log.specs.Parameters.{parameters}
use Rattle.gp_log.specs.Sessions.{KeepsSessions}
use Rattle.gp_machine.specs.Entries.{committer_of, log_of, statement_count, versions_in}
use Rattle.gp_machine.specs.HistorySpans.{as_of, state_spans}
use Rattle.gp_machine.specs.Points.{run_stop}
use Rattle.gp_machine.specs.Precedence.{is_before}
use Rattle.gp_machine.specs.RowChanges.{tables_changes}
use Rattle.gp_machine.specs.SeenRows.{HaveDifferentIdentities}
use Rattle.gp_machine.specs.Orders.{AreOnce}
use Rattle.gp_machine.specs.SerialForms.{IsSerialAs, committers}
use Rattle.gp_machine.specs.SerialRuns.{is_serial}
use Rattle.gp_machine.specs.State.{State}
use Rattle.gp_versions.specs.declared.span.Span.{Span}
use Rattle.gp_versions.specs.Spans.{rows_at, span_cmp, spans_at}
use Rattle.gp_versions.specs.TableSpans.{AreOfDifferentRows, AreWhole, NoOverlap}
use Rattle.gp_serial.specs.Anomalies.{anomaly_of, cycles, facts, goes_back}
use Rattle.gp_serial.specs.Graphs.{order_of}
use Rattle.gp_serial.specs.PairLaws.{IsOfPair}
use Rattle.gp_serial.specs.Serializing.{by_number}
use Rattle.gp_serial.proofs.OrderLemmas.{order_has_all}
use Rattle.gp_serial.proofs.SerialOrders.{are_once}
use Rattle.gp_serial.proofs.SerializingLemmas.{all_different, order_different}
use Rattle.gp_ask.specs.declared.answered.AnomalyText.{AnomalyText}
use Rattle.gp_ask.specs.declared.answered.Answered.TheVariants.{Anomalies, Lines, Refused}
use Rattle.gp_ask.specs.declared.answered.Heading.TheVariants.{Cycle, Serial}
use Rattle.gp_ask.specs.AnomalyAnswers.{anomaly_answer, anomaly_text}
use Rattle.gp_ask.specs.Asking.{table_spans}
use Rattle.gp_ask.specs.Questions.{is_refused}
use Rattle.gp_ask.specs.SerialAnswers.{serial_answer, step_text}
use Rattle.gp_ask.specs.SerialHistories.{AreSteps, IsTrue, RunsInCycle, RunsSerially}
use Rattle.gp_ask.proofs.AnomalyCycles.{anomaly_true}
use Rattle.gp_ask.proofs.AnomalyLemmas.{anomalies_given, refused_given}
use Rattle.gp_ask.proofs.DifferentRows.{different-spans, different-unmapped}
use Rattle.gp_ask.proofs.SerialCycles.{cycle_true, mapped_each, tables_true}
use Rattle.gp_ask.proofs.SerialLemmas.{cycle_given, is_answered, none_refused, order_given}
use Rattle.gp_ask.proofs.SpanLemmas.{dumped, in-order}

module _ (state : State (Unit {0})) (keeps : KeepsSessions state.entries) (whole : tables_in state.entries ≡ state.catalogue)
    (beyond : (table : ℕ) → length state.catalogue ≤ table → state_spans state table ≡ []) where
  abbrev spans : ℕ → List Span
  spans = table_spans (dump_of state).tables

  abbrev tables : List Table
  tables = tables_in state.entries

  abbrev before : ℕ → ℕ → Bool
  before = is_before tables state.entries (tables_changes 0 (dump_of state).tables)

  pub bags : (table : ℕ) → IsPermutation (spans table) (state_spans state table)
  bags = dumped state beyond

  -- ---- an order

  pub runs_serially : (texts : List (List ℕ)) → serial_answer (dump_of state) ≡ Lines Serial texts
      → ((order : List ℕ) → AreOnce order → IsPermutation order (committers state.entries) → is_serial parameters (log_of state.entries) (length state.catalogue) (as_of unannotated spans) order ≡ true → IsSerialAs state order)
      → RunsSerially state texts
  runs_serially texts e serial_as =
      let found = order_given tables state.entries (tables_changes 0 (dump_of state).tables) spans texts _ _ e in
      let order : List ℕ = order_of before (committers state.entries) in
      let same : IsSerialAs state order =
      serial_as order (are_once order (order_different state.entries keeps before)) (order_has_all before (committers state.entries) (all_different state.entries keeps) found.all)
      (subst (λ (own : List Table). is_serial parameters (log_of state.entries) (length own) (as_of unannotated spans) order ≡ true) whole found.serial) in
      record {
        order = order;
        numbers = found.numbers;
        serial = same;
      }

  -- ---- a cycle

  module _ (rows : (version table : ℕ) → version ≤ versions_in state.entries → rows_at unannotated version (state_spans state table) ≡ map (reannotated forgotten) (state.committed version table))
      (apart : (table : ℕ) → NoOverlap (state_spans state table)) (are_whole : (table : ℕ) → AreWhole (state_spans state table))
      (one_row : (version table : ℕ) → AreOfDifferentRows (spans_at version (state_spans state table))) where
    different : (version table : ℕ) → version ≤ versions_in state.entries → HaveDifferentIdentities (state.committed version table)
    different version table within =
        different-unmapped (state.committed version table)
        (subst (λ (own : List (Annotated (Unit {0}))). HaveDifferentIdentities own) (rows version table within) (different-spans (spans_at version (state_spans state table)) (one_row version table)))

    -- each change that its row versions show is true
    pub all_true : AllByRecursion (IsTrue state) (tables_changes 0 (dump_of state).tables)
    all_true =
        tables_true state rows apart are_whole different 0 (dump_of state).tables
        (λ i l. in-order state beyond i ∙ (let same : i ≡ 0 + i = omega arith in ap (λ n. sorted_by span_cmp (state_spans state n)) same))

    pub runs_in_cycle : (texts : List (List ℕ)) → serial_answer (dump_of state) ≡ Lines Cycle texts → RunsInCycle state texts
    runs_in_cycle texts e =
        let found = cycle_given tables state.entries (tables_changes 0 (dump_of state).tables) spans texts _ e in
        record {
          first = found.first;
          others = found.others;
          steps = subst (AreSteps state found.first (found.first ∷ found.others)) (sym found.lines)
              (cycle_true state rows apart are_whole different tables whole (tables_changes 0 (dump_of state).tables) all_true found.first found.others found.is);
        }

    -- ---- anomalies

    pub anomalies_true : AllByRecursion (IsOfPair before (by_number state.entries) (goes_back tables state.entries (tables_changes 0 (dump_of state).tables))) (cycles tables state.entries (tables_changes 0 (dump_of state).tables))
        → (texts : List AnomalyText) → anomaly_answer (dump_of state) ≡ Anomalies texts → AllByRecursion (λ (text : AnomalyText). RunsInCycle state text.steps) texts
    anomalies_true pairs texts e =
        subst (AllByRecursion (λ (text : AnomalyText). RunsInCycle state text.steps)) (sym (anomalies_given tables state.entries (tables_changes 0 (dump_of state).tables) texts _ e))
        (mapped_each (λ text. RunsInCycle state text.steps) (λ anomaly. RunsInCycle state (map (step_text tables state.entries) anomaly.steps)) (anomaly_text tables state.entries) (λ anomaly is. is) _
        (mapped_each (λ anomaly. RunsInCycle state (map (step_text tables state.entries) anomaly.steps))
        (IsOfPair before (by_number state.entries) (goes_back tables state.entries (tables_changes 0 (dump_of state).tables))) (anomaly_of (facts tables state.entries (tables_changes 0 (dump_of state).tables)))
        (λ cycle of. anomaly_true state rows apart are_whole different tables whole (tables_changes 0 (dump_of state).tables) all_true cycle of.first.through.own) _ pairs))

  -- ---- refusals

  pub answers : ((u : ℕ) → u < versions_in state.entries → run_stop unannotated parameters (log_of state.entries) (committer_of (suc u) state.entries)
      (statement_count (committer_of (suc u) state.entries) state.entries) (as_of unannotated spans) ≡ None) → is_refused (serial_answer (dump_of state)) ≡ false
  answers runs = is_answered tables state.entries (tables_changes 0 (dump_of state).tables) spans _ (none_refused state.entries spans (versions_in state.entries) runs)

  pub limited : ((u : ℕ) → u < versions_in state.entries → run_stop unannotated parameters (log_of state.entries) (committer_of (suc u) state.entries)
      (statement_count (committer_of (suc u) state.entries) state.entries) (as_of unannotated spans) ≡ None) → (refusal : Refusal) → anomaly_answer (dump_of state) ≡ Refused refusal → refusal ≡ E27
  limited runs refusal e = refused_given tables state.entries (tables_changes 0 (dump_of state).tables) refusal _ (none_refused state.entries spans (versions_in state.entries) runs) e
