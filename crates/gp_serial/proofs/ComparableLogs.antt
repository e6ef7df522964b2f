-- A log and its serial one, with what the replay of that made, can be compared; and what the comparison says.
use Rattle.gp_serial.proofs.Prelude.{◌≡◌, ◌<◌, ℕ, zero, suc, Bool, true, false, List, [], ◌∷◌, get_or, length, Some, None, Result, Ok, Err, refl, sym, ap, ◌∙◌, subst, arith, ◌&&◌, is_none, Contains, AllByRecursion, list_all, get_or_default_zero, unannotated, Versions, Entry, log_of, statement_at, statement_count, versions_in, as_of, run_stop, is_known, replay_stop, serial_log, entries, tables, tables_in, SpansFit, Logged, parameters, spans_of, IsMade, IsReplayable}
use Rattle.gp_machine.specs.Replaying as m
use Rattle.gp_machine.specs.SerialRuns as r
use Rattle.gp_whatif.specs.Replays.{Stops, stop_upto}
use Rattle.gp_whatif.specs.declared.error.ReplayStop.{ReplayStop}
use Rattle.gp_whatif.specs.declared.error.ReplayStop.TheVariants as replay
use Rattle.gp_serial.specs.declared.error.SerialStop.{SerialStop}
use Rattle.gp_serial.specs.declared.error.SerialStop.TheVariants.{NoMemory, Refused}
use Rattle.gp_serial.specs.Comparing.{AreAllComparable, ComparesAll, IsSerialIf, IsUnmade}
use Rattle.gp_serial.specs.SerialLogs.{AreFew, serial_entries}
use Rattle.gp_serial.specs.SerialViews.{IsSerializable, RunsWhole}
use Rattle.gp_serial.proofs.SerialComparing.{compared, runs_again, spans_now_fit}
use Rattle.gp_serial.proofs.SerialFits.{serial_replayable}
use Rattle.gp_serial.proofs.SerialOrders.{own_tables, own_versions, placed, says_serial}
use Rattle.gp_serial.proofs.SerialReplays.{replay_stop_equal}

-- what holds of each element of a list
place : (P : ℕ → Type 0) (list : List ℕ) → AllByRecursion P list → (u : ℕ) → u < length list → P (get_or list u 0)
place P [] all u within = absurd (omega (arith, within))
place P (t ∷ list) (own, all) zero within = own
place P (t ∷ list) (own, all) (suc u) within = place P list all u (omega (arith, within))

at_each : (P : ℕ → Type 0) (list : List ℕ) → AllByRecursion P list → (t : ℕ) → Contains list t → P t
at_each P list all t (u, within, at) = subst P (sym (get_or_default_zero list u t within) ∙ at) (place P list all u within)

module _ (log : Logged) (stored : List Versions) (order : List ℕ) (rules : IsSerializable log stored) (few : AreFew (entries log) order) where
  abbrev own : List Entry
  own = serial_entries (tables log) (entries log) order

  pub replayable : (others : List Entry) → others ≡ own → IsReplayable others
  replayable others is = subst IsReplayable (sym is) (serial_replayable (entries log) (tables log) order few.once few.known rules.statements)

  -- ---- where the commits stop

  stop_is : stop_upto own (versions_in own) ≡ replay_stop unannotated (serial_log order (log_of (entries log))) parameters (length (tables log)) (length order)
  stop_is =
      (λ i. replay_stop unannotated (log_of own) parameters (length (own_tables (entries log) (tables log) order few.once few.known i)) (own_versions (entries log) (tables log) order few.once few.known i))
      ∙ replay_stop_equal (log_of (entries log)) (log_of own) order (says_serial (entries log) (tables log) order few.once few.known) (placed order few.once) (length (tables log)) (length order) (omega arith)

  abbrev serial : Bool
  serial = r.is_serial parameters (log_of (entries log)) (length (tables log)) (as_of unannotated (spans_of stored)) order

  stopped : (stop : m.ReplayStop) → stop_upto own (versions_in own) ≡ Some stop → serial ≡ false
  stopped stop is = ap (λ found. is_none found && (list_all (λ t. r.first_do_same parameters (log_of (entries log)) (length (tables log)) (as_of unannotated (spans_of stored)) order t (statement_count t (entries log))) order
      && r.ends_same parameters (log_of (entries log)) (length (tables log)) (as_of unannotated (spans_of stored)) order (length (tables log)))) (sym stop_is ∙ is)

  unmade_by : (stop : ReplayStop) (result : Result Bool SerialStop) → Stops stop (stop_upto own (versions_in own)) → IsUnmade stop result → IsSerialIf (entries log) (tables log) stored order result
  unmade_by (replay.Lost version other table id) result stops is = subst (IsSerialIf (entries log) (tables log) stored order) (sym is) (sym (stopped _ stops))
  unmade_by (replay.Rows t k) result stops is = subst (IsSerialIf (entries log) (tables log) stored order) (sym is) (sym (stopped _ stops))
  unmade_by (replay.Ancestry t k) result stops is = subst (IsSerialIf (entries log) (tables log) stored order) (sym is) (sym (stopped _ stops))
  unmade_by replay.Full result stops is = subst (IsSerialIf (entries log) (tables log) stored order) (sym is) (sym (stopped _ stops))
  unmade_by replay.NoMemory result stops is = subst (IsSerialIf (entries log) (tables log) stored order) (sym is) tt

  pub unmade : (others : List Entry) → others ≡ own → (stop : ReplayStop) (result : Result Bool SerialStop) → Stops stop (stop_upto others (versions_in others)) → IsUnmade stop result
      → IsSerialIf (entries log) (tables log) stored order result
  unmade others is stop result stops of = unmade_by stop result (subst (λ es. Stops stop (stop_upto es (versions_in es))) is stops) of

  -- ---- where they are made

  module _ (made : List Versions) where
    compares_by : (is : IsMade own (versions_in own) made) (result : Result Bool SerialStop) → ComparesAll (entries log) stored own made order result → IsSerialIf (entries log) (tables log) stored order result
    compares_by is (Ok same) e = e ∙ compared (entries log) (spans_of stored) order few.once few.known rules.statements made is stored (λ table. refl) rules.count
    compares_by is (Err (Refused refusal)) e = e
    compares_by is (Err NoMemory) e = tt

    pub compares : (others : List Entry) → others ≡ own → IsMade others (versions_in others) made → (result : Result Bool SerialStop) → ComparesAll (entries log) stored others made order result
        → IsSerialIf (entries log) (tables log) stored order result
    compares others is by result e =
        compares_by (subst (λ es. IsMade es (versions_in es) made) is by) result (subst (λ es. ComparesAll (entries log) stored es made order result) is e)

    pub comparable : (runs : AllByRecursion (λ t. RunsWhole log stored t) order) (other : Logged) → entries other ≡ own → IsMade (entries other) (versions_in (entries other)) made
        → AreAllComparable log stored other made order
    comparable runs other is by = record {
      tables = rules.count ∙ sym (by.count ∙ ap (λ es. length (tables_in es)) is ∙ ap length (own_tables (entries log) (tables log) order few.once few.known));
      each = λ t there.
          let own_made = subst (λ es. IsMade es (versions_in es) made) is by in
          let again = runs_again (entries log) (spans_of stored) order few.once few.known rules.statements made own_made t there in
          record {
            known = again.known_own;
            known_other = subst (λ es. is_known t es ≡ true) (sym is) again.known_other;
            count = ap (statement_count t) is ∙ again.counted;
            statements = rules.statements;
            statements_other = (replayable (entries other) is).fits;
            spans = rules.spans;
            spans_other = subst (λ es. SpansFit (tables_in es) (spans_of made)) (sym is) (spans_now_fit (entries log) (spans_of stored) order few.once few.known rules.statements made own_made);
            same = λ k l. ap (statement_at t (suc k)) is ∙ again.same k l;
            unstopped = at_each (λ t. RunsWhole log stored t) order runs t there;
            unstopped_other = subst (λ es. run_stop unannotated parameters (log_of es) t (statement_count t (entries log)) (as_of unannotated (spans_of made)) ≡ None) (sym is) again.unstopped;
          };
    }
