-- Over the row versions that the replay of the serial log makes, transactions do what they do one after another.
use Rattle.gp_serial.proofs.Prelude.{◌≡◌, ◌<◌, ◌≤◌, ℕ, zero, suc, true, List, [], ◌∷◌, length, map, reverse, get_or, None, refl, sym, ap, ◌∙◌, subst, arith, ◌&&◌, ◌||◌, not, nat_le, nat_lt, filter, is_none, Contains, AllByRecursion, list_all, option_map_or, get_or_default_zero, Table, Database, Environment, unannotated, row_cmp, sorted_by, map-map, width_of, Versions, Span, Entry, Log, log_of, statement_at, statement_count, transactions_in, versions_in, is_over_answer, as_of, run_stop, is_known, Replay, replay_stop, replayed, run_before, place_in, row_cells, serial_log, shown, tables, tables_in, SpanFits, SpansFit, statements_fit, parameters, spans_of, IsMade, IsReplayable}
use Rattle.gp_versions.specs.Spans.{holds_at, row_of, spans_at}
use Rattle.gp_machine.specs.Histories.{IsHistory}
use Rattle.gp_machine.specs.SerialRuns as m
use Rattle.gp_machine.specs.SerialRuns.{are_same, serial_replay}
use Rattle.gp_machine.proofs.ReplayLemmas.{history_made, same_log}
use Rattle.gp_machine.proofs.ReplayedLemmas.{made_unstopped}
use Rattle.gp_machine.proofs.RunLemmas.{before_agree, stop_agree}
use Rattle.gp_machine.proofs.SpanLaws.{plain_spans_rows}
use Rattle.gp_log.proofs.KeptSessions.{commits_in_order}
use Rattle.gp_serial.specs.Comparing.{ends_same, first_do_same, next_does_same, passes_first}
use Rattle.gp_serial.specs.Running.{are_equal, keyed}
use Rattle.gp_serial.specs.SerialLogs.{begun, created, serial_entries, with_transaction, with_transactions}
use Rattle.gp_serial.proofs.ComparingLemmas.{all_agree}
use Rattle.gp_serial.proofs.FittingReplays.{spans_made_fit}
use Rattle.gp_serial.proofs.SerialEntries.{kept}
use Rattle.gp_serial.proofs.SerialFits.{serial_replayable}
use Rattle.gp_serial.proofs.SerialOrders.{AreDifferent, own_tables, own_versions, placed, says_serial}
use Rattle.gp_serial.proofs.SerialReplays.{before_equal, empty_first, replay_stop_equal, replayed_equal}

-- ---- the rows of a version

-- by the spans that hold it
keyed_rows : (version : ℕ) (spans : List Span) → map (λ (span : Span). keyed span.id span.row) (filter (holds_at version) spans) ≡ map row_cells (map (row_of unannotated) (spans_at version spans))
keyed_rows version spans = sym (map-map row_cells (row_of unannotated) (filter (holds_at version) spans))

-- ---- numbers of transactions

began_kept : (log : List Entry) (order : List ℕ) (es : List Entry) → transactions_in (with_transactions log order es) ≡ transactions_in es
began_kept log [] es = refl
began_kept log (t ∷ order) es = began_kept log order (with_transaction log t es) ∙ kept log t transactions_in (λ statement es. refl) (statement_count t log) es

-- ---- over what the replay made

module _ (log : List Entry) (spans : ℕ → List Span) (order : List ℕ) (once : AreDifferent order) (known : AllByRecursion (λ t. is_known t log ≡ true) order)
    (fits : statements_fit (tables_in log) log ≡ true) (made : List Versions) (is : IsMade (serial_entries (tables_in log) log order) (versions_in (serial_entries (tables_in log) log order)) made) where
  abbrev own : List Entry
  own = serial_entries (tables_in log) log order

  abbrev n : ℕ
  n = length order

  abbrev count : ℕ
  count = length (tables_in log)

  abbrev serial : Log
  serial = serial_log order (log_of log)

  abbrev past : Environment (Unit {0})
  past = as_of unannotated spans

  abbrev now : Environment (Unit {0})
  now = as_of unannotated (spans_of made)

  abbrev versions : Environment (Unit {0})
  versions = (serial_replay unannotated order (log_of log) count).committed

  replayable : IsReplayable own
  replayable = serial_replayable log (tables_in log) order once known fits

  versions_are : versions_in own ≡ n
  versions_are = own_versions log (tables_in log) order once known

  tables_are : tables_in own ≡ tables_in log
  tables_are = own_tables log (tables_in log) order once known

  abbrev again : Replay (Unit {0})
  again = replayed unannotated (log_of own) (length (tables_in own)) (versions_in own)

  history : IsHistory unannotated (log_of own) again.committed again.written
  history = history_made unannotated (log_of own) (length (tables_in own)) parameters (commits_in_order own replayable.sessions) (versions_in own) (omega arith) is.unstopped

  held : (v : ℕ) → v ≤ versions_in own → now v ≡ again.committed v
  held v l = λ i table.
      (ap (λ (own : List Span). map (row_of unannotated) (spans_at v own)) (is.spans table) ∙ plain_spans_rows (log_of own) again.committed again.written history v table l) i

  again_is : again ≡ serial_replay unannotated order (log_of log) count
  again_is =
      (λ i. replayed unannotated (log_of own) (length (tables_are i)) (versions_are i))
      ∙ replayed_equal (log_of log) (log_of own) order (says_serial log (tables_in log) order once known) (placed order once) count n (omega arith)

  same_now : (v : ℕ) → v ≤ n → now v ≡ versions v
  same_now v l = held v (omega (arith, l, versions_are)) ∙ (λ i. (again_is i).committed v)

  -- ---- what one of them reads

  module _ (u : ℕ) (within : u < n) where
    abbrev t : ℕ
    t = get_or order u 0

    before_same : (k : ℕ) → k < statement_count t log → run_before unannotated (log_of own) t k now ≡ run_before unannotated serial t k versions
    before_same k l =
        before_equal (log_of log) (log_of own) order (says_serial log (tables_in log) order once known) (placed order once) u within now
        (same_now 0 (omega arith) ∙ empty_first (log_of log) (log_of own) order (says_serial log (tables_in log) order once known) (placed order once) count n) k l
        ∙ before_agree unannotated serial serial t (suc k) versions now (same_log serial t (suc k)) (λ j m. same_now (place_in t order) (omega (arith, placed order once u within, within))) k (omega arith)

    -- it does the same over both
    first_same : (j : ℕ) → j ≤ statement_count t log
        → first_do_same log spans own (spans_of made) t j ≡ m.first_do_same parameters (log_of log) count past order t j
    first_same zero l = refl
    first_same (suc k) l = λ i. first_same k (omega (arith, l)) i && next i
      where
        next : next_does_same log spans own (spans_of made) t k ≡ option_map_or (m.does_same parameters (log_of log) count past order t k) (statement_at t (suc k) log) true
        next = ap (λ (db : Database (Unit {0})). option_map_or (λ statement.
            not (is_over_answer unannotated parameters.answer statement (run_before unannotated (log_of log) t k past) || is_over_answer unannotated parameters.answer statement db)
            && are_same (shown t (suc k) statement (run_before unannotated (log_of log) t k past)) (shown t (suc k) statement db)) (statement_at t (suc k) log) true) (before_same k (omega (arith, l)))

    -- nor does it stop over them
    unstopped_now : run_stop unannotated parameters (log_of own) t (statement_count t log) now ≡ None
    unstopped_now =
        subst (λ w. run_stop unannotated parameters (log_of own) w (statement_count t log) now ≡ None) maker
        (subst (λ m. run_stop unannotated parameters (log_of own) ((log_of own).committer (suc u)) m now ≡ None) counted
        (stop_agree unannotated (log_of own) (log_of own) ((log_of own).committer (suc u)) (statement_count ((log_of own).committer (suc u)) own) again.committed now
        (same_log (log_of own) ((log_of own).committer (suc u)) (statement_count ((log_of own).committer (suc u)) own))
        (λ j m. held ((log_of own).version ((log_of own).committer (suc u)) j) (reads j m)) parameters (statement_count ((log_of own).committer (suc u)) own) (omega arith)
        ∙ made_unstopped unannotated parameters (log_of own) (length (tables_in own)) (commits_in_order own replayable.sessions) (versions_in own) u inside inside is.unstopped))
      where
        inside : u < versions_in own
        inside = omega (arith, within, versions_are)

        maker : (log_of own).committer (suc u) ≡ t
        maker = (says_serial log (tables_in log) order once known).committer u within

        counted : statement_count ((log_of own).committer (suc u)) own ≡ statement_count t log
        counted = ap (λ w. statement_count w own) maker ∙ (says_serial log (tables_in log) order once known).count u within

        reads : (j : ℕ) → j ≤ statement_count ((log_of own).committer (suc u)) own → (log_of own).version ((log_of own).committer (suc u)) j ≤ versions_in own
        reads j m = let below = (commits_in_order own replayable.sessions).order u j inside m in omega (arith, below, inside)

  -- ---- the last versions

  last_same : (stored : List Versions) → ((table : ℕ) → spans table ≡ spans_of stored table) → (table : ℕ)
      → ends_same (versions_in log) (versions_in own) stored made table ≡ are_same (map row_cells (past (versions_in log) table)) (map row_cells (versions n table))
  last_same stored are table = λ i.
      are_equal (sorted_by row_cmp ((keyed_rows (versions_in log) (spans_of stored table) ∙ ap (λ own. map row_cells (map (row_of unannotated) (spans_at (versions_in log) own))) (sym (are table))) i))
      (sorted_by row_cmp ((keyed_rows (versions_in own) (spans_of made table)
      ∙ ap (λ (db : Database (Unit {0})). map row_cells (db table)) (held (versions_in own) (omega arith) ∙ (λ i. (again_is i).committed (versions_are i)))) i))

  all_last : (stored : List Versions) → ((table : ℕ) → spans table ≡ spans_of stored table) → (tables : ℕ)
      → passes_first (ends_same (versions_in log) (versions_in own) stored made) tables ≡ m.ends_same parameters (log_of log) count past order tables
  all_last stored are zero = refl
  all_last stored are (suc table) = λ i. all_last stored are table i && last_same stored are table i

  -- ---- the whole

  serial_unstopped : replay_stop unannotated serial parameters count n ≡ None
  serial_unstopped =
      sym (replay_stop_equal (log_of log) (log_of own) order (says_serial log (tables_in log) order once known) (placed order once) count n (omega arith))
      ∙ (λ i. replay_stop unannotated (log_of own) parameters (length (sym tables_are i)) (sym versions_are i))
      ∙ is.unstopped

  pub compared : (stored : List Versions) → ((table : ℕ) → spans table ≡ spans_of stored table) → length stored ≡ count
      → (list_all (λ t. first_do_same log spans own (spans_of made) t (statement_count t log)) order && passes_first (ends_same (versions_in log) (versions_in own) stored made) (length stored))
      ≡ m.is_serial parameters (log_of log) count past order
  compared stored are long =
      (λ i.
      all_agree (λ t. first_do_same log spans own (spans_of made) t (statement_count t log)) (λ t. m.first_do_same parameters (log_of log) count past order t (statement_count t log)) order
      (λ u l. first_same u l (statement_count (get_or order u 0) log) (omega arith)) i
      && (ap (passes_first (ends_same (versions_in log) (versions_in own) stored made)) long ∙ all_last stored are count) i)
      ∙ sym (ap (λ found. is_none found && (list_all (λ t. m.first_do_same parameters (log_of log) count past order t (statement_count t log)) order && m.ends_same parameters (log_of log) count past order count)) serial_unstopped)

  -- ---- what the code compares

  place_of_it : (t : ℕ) → Contains order t → (u : ℕ) × ((u < n) × (get_or order u 0 ≡ t))
  place_of_it t (u, within, at) = (u, (within, sym (get_or_default_zero order u t within) ∙ at))

  known_at : (list : List ℕ) → AllByRecursion (λ t. is_known t log ≡ true) list → (u : ℕ) → u < length list → is_known (get_or list u 0) log ≡ true
  known_at [] all u l = absurd (omega (arith, l))
  known_at (t ∷ list) (here, all) zero l = here
  known_at (t ∷ list) (here, all) (suc u) l = known_at list all u (omega (arith, l))

  pub spans_now_fit : SpansFit (tables_in own) (spans_of made)
  spans_now_fit table = subst (λ (rows : List Span). AllByRecursion (SpanFits (width_of (tables_in own) table)) rows) (sym (is.spans table)) (spans_made_fit own replayable.fits (length (tables_in own)) (versions_in own) is.unstopped table)

  pub began_same : transactions_in own ≡ transactions_in log
  began_same = began_kept log order (begun (transactions_in log) (created (tables_in log))) ∙ all_begun (transactions_in log)
    where
      none_begun : (list : List Table) → transactions_in (map (Entry.Created 0 0) list) ≡ 0
      none_begun [] = refl
      none_begun (table ∷ list) = none_begun list

      all_begun : (m : ℕ) → transactions_in (begun m (created (tables_in log))) ≡ m
      all_begun zero = none_begun (reverse (tables_in log))
      all_begun (suc m) = ap suc (all_begun m)

  -- of a transaction of the order
  pub record IsRunAgain (t : ℕ) : Type 0 where
    pub known_own : is_known t log ≡ true
    pub known_other : is_known t own ≡ true
    pub counted : statement_count t own ≡ statement_count t log
    pub same : (k : ℕ) → suc k ≤ statement_count t log → statement_at t (suc k) own ≡ statement_at t (suc k) log
    pub unstopped : run_stop unannotated parameters (log_of own) t (statement_count t log) now ≡ None

  pub runs_again : (t : ℕ) → Contains order t → IsRunAgain t
  runs_again t there = let at = place_of_it t there in subst IsRunAgain at.1.1 (record {
    known_own = known_at order known at.0 at.1.0;
    known_other = ap (λ m. nat_lt 0 (get_or order at.0 0) && nat_le (get_or order at.0 0) m) began_same ∙ known_at order known at.0 at.1.0;
    counted = (says_serial log (tables_in log) order once known).count at.0 at.1.0;
    same = λ k l. (says_serial log (tables_in log) order once known).statement at.0 k at.1.0 (omega (arith, l));
    unstopped = unstopped_now at.0 at.1.0;
  })
