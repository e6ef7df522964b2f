-- A log in which all transactions begin before the first statement, read committed, and then run one after another is replayed as the one in which each begins
-- behind the one before it.
use Rattle.gp_serial.proofs.Prelude.{◌≡◌, ◌<◌, ◌≤◌, ℕ, zero, suc, true, false, cond, List, [], ◌∷◌, ◌++◌, length, get_or, refl, sym, ap, ◌∙◌, arith, filter, nat_lt, option_or, append-nil, Annotated, Database, Environment, unannotated, eq_itself, eq_not, pairs, next_version, Log, run_stop, statement_stop, publish, Seen, Replay, replay_stop, replayed, rerun, version_stop, refreshed, run, run_before, stepped, place_in, serial_log, parameters}
use Rattle.std.specs.Prelude.{◌+◌}
use Rattle.gp_machine.specs.Bases.{with_bases}
use Rattle.gp_machine.specs.Committed.{cleared}
use Rattle.gp_machine.specs.Conflicts.{least_conflict}
use Rattle.gp_machine.specs.Event.{published_rows}
use Rattle.gp_machine.specs.Reading.{wrote_by}
use Rattle.gp_machine.specs.Replaying.{commit_stop, first_stop, remade, run_written}
use Rattle.gp_machine.specs.State.{empty_database, with_value}
use Rattle.gp_serial.proofs.RunningLemmas.{all_kept}

-- ---- what the log says

-- each transaction of the order begins at version 0, reads what those before it made, and has its statements
pub record SaysSerial (log : Log) (order : List ℕ) (own : Log) : Type 0 where
  pub committer : (u : ℕ) → u < length order → own.committer (suc u) ≡ get_or order u 0
  pub begin : (u : ℕ) → u < length order → own.version (get_or order u 0) 0 ≡ 0
  pub version : (u k : ℕ) → u < length order → k < log.statement_count (get_or order u 0) → own.version (get_or order u 0) (suc k) ≡ u
  pub count : (u : ℕ) → u < length order → own.statement_count (get_or order u 0) ≡ log.statement_count (get_or order u 0)
  pub statement : (u k : ℕ) → u < length order → k < log.statement_count (get_or order u 0) → own.statement (get_or order u 0) (suc k) ≡ log.statement (get_or order u 0) (suc k)

-- ---- nothing is published over nothing

publish_nothing : (later : Database (Unit {0})) → publish empty_database empty_database later ≡ later
publish_nothing later = λ i table. (append-nil (filter (λ (row : Annotated (Unit {0})). true) (later table)) ∙ all_kept (later table)) i

-- a transaction that began at version 0, which is empty, reads any version whole
refreshed_nothing : (u : ℕ) (versions : Environment (Unit {0})) → versions 0 ≡ empty_database → refreshed 0 u versions (versions 0) ≡ versions u
refreshed_nothing zero versions none = refl
refreshed_nothing (suc u) versions none =
    ap (λ b. cond b (versions 0) (publish (versions 0) (versions 0) (versions (suc u)))) (eq_not (suc u) 0 (λ e. omega (arith, e)))
    ∙ (λ i. publish (none i) (none i) (versions (suc u))) ∙ publish_nothing (versions (suc u))

refreshed_itself : (u : ℕ) (versions : Environment (Unit {0})) (db : Database (Unit {0})) → refreshed u u versions db ≡ db
refreshed_itself u versions db = ap (λ b. cond b db (publish (versions u) db (versions u))) (eq_itself u)

-- ---- a transaction, over the versions before it

module _ (log own : Log) (order : List ℕ) (says : SaysSerial log order own) (placed : (u : ℕ) → u < length order → place_in (get_or order u 0) order ≡ u) where
  abbrev serial : Log
  serial = serial_log order log

  module _ (u : ℕ) (within : u < length order) (versions : Environment (Unit {0})) (none : versions 0 ≡ empty_database) where
    abbrev t : ℕ
    t = get_or order u 0

    pub before_equal : (k : ℕ) → k < log.statement_count t → run_before unannotated own t k versions ≡ run_before unannotated serial t k versions
    before_equal zero l =
        (λ i. refreshed (says.begin u within i) (says.version u zero within l i) versions (versions (says.begin u within i)))
        ∙ refreshed_nothing u versions none
        ∙ sym (refreshed_itself (place_in t order) versions (versions (place_in t order)) ∙ ap versions (placed u within))
    before_equal (suc k) l =
        (λ i. refreshed (says.version u k within (omega arith) i) (says.version u (suc k) within l i) versions
        (stepped unannotated t (suc k) (says.statement u k within (omega arith) i) (before_equal k (omega arith) i)))
        ∙ refreshed_itself u versions (stepped unannotated t (suc k) (log.statement t (suc k)) (run_before unannotated serial t k versions))
        ∙ sym (refreshed_itself (place_in t order) versions (stepped unannotated t (suc k) (log.statement t (suc k)) (run_before unannotated serial t k versions)))

    -- after its first statements, if there are any
    run_equal : (k : ℕ) → k < log.statement_count t → run unannotated own t (suc k) versions ≡ run unannotated serial t (suc k) versions
    run_equal k l = λ i. stepped unannotated t (suc k) (says.statement u k within l i) (before_equal k l i)

    pub written_equal : (k : ℕ) → k ≤ log.statement_count t → run_written unannotated own t k versions ≡ run_written unannotated serial t k versions
    written_equal zero l = refl
    written_equal (suc k) l = λ i.
        with_bases ((says.version u k within (omega arith) ∙ sym (placed u within)) i) (written_equal k (omega arith) i)
        (wrote_by unannotated t (suc k) (says.statement u k within (omega arith) i) (before_equal k (omega arith) i))

    pub stop_equal : (k : ℕ) → k ≤ log.statement_count t → run_stop unannotated parameters own t k versions ≡ run_stop unannotated parameters serial t k versions
    stop_equal zero l = refl
    stop_equal (suc k) l = λ i.
        option_or (stop_equal k (omega arith) i) (statement_stop unannotated parameters t (suc k) (says.statement u k within (omega arith) i) (before_equal k (omega arith) i))

    -- what it leaves of a version: without statements it wrote nothing, whatever it reads
    abbrev seen_after : Log → ℕ → Seen (Unit {0})
    seen_after which n = record { view = run unannotated which t n versions; written = run_written unannotated which t n versions }

    nothing_published : (view : Database (Unit {0})) (tables : ℕ) → published_rows (record { view = view; written = [] }) tables ≡ 0
    nothing_published view zero = refl
    nothing_published view (suc table) = (λ i. nothing_published view table i + length (no_rows (view table) i))
      where
        no_rows : (rows : List (Annotated (Unit {0}))) → filter (λ row. false) rows ≡ []
        no_rows [] = refl
        no_rows (row ∷ rows) = no_rows rows

    pub same_remade : (n tables : ℕ) → n ≡ log.statement_count t → (before : Replay (Unit {0}))
        → remade tables u (seen_after own n) before ≡ remade tables u (seen_after serial n) before
    same_remade zero tables is before = λ i. record {
      committed = with_value (suc u) (same_next i) before.committed;
      written = with_value (suc u) [] before.written;
      rows = before.rows + (nothing_published (run unannotated own t zero versions) tables ∙ sym (nothing_published (run unannotated serial t zero versions) tables)) i;
    }
      where
        none_of : (rows : List (Annotated (Unit {0}))) → filter (λ row. false) rows ≡ []
        none_of [] = refl
        none_of (row ∷ rows) = none_of rows

        same_next : next_version (before.committed u) (run unannotated own t zero versions) [] ≡ next_version (before.committed u) (run unannotated serial t zero versions) []
        same_next = λ i table.
            cleared (λ table. filter (λ (row : Annotated (Unit {0})). true) (before.committed u table)
            ++ (none_of (run unannotated own t zero versions table) ∙ sym (none_of (run unannotated serial t zero versions table))) i) table
    same_remade (suc n) tables is before = λ i. remade tables u (record { view = run_equal n (omega (arith, is)) i; written = written_equal (suc n) (omega (arith, is)) i }) before

  -- ---- the replays

  remade_first : (tables u : ℕ) (seen : Seen (Unit {0})) (before : Replay (Unit {0})) → (remade tables u seen before).committed 0 ≡ before.committed 0
  remade_first tables u seen before = ap (λ b. cond b (next_version (before.committed u) seen.view (pairs seen.written)) (before.committed 0)) (eq_not 0 (suc u) (λ e. omega (arith, e)))

  pub empty_first : (tables u : ℕ) → (replayed unannotated serial tables u).committed 0 ≡ empty_database
  empty_first tables zero = refl
  empty_first tables (suc u) =
      let before : Replay (Unit {0}) = replayed unannotated serial tables u in
      remade_first tables u (rerun unannotated serial (serial.committer (suc u)) before.committed) before ∙ empty_first tables u

  -- the versions that they make
  pub replayed_equal : (tables u : ℕ) → u ≤ length order → replayed unannotated own tables u ≡ replayed unannotated serial tables u
  replayed_equal tables zero l = refl
  replayed_equal tables (suc u) l =
      let before : Replay (Unit {0}) = replayed unannotated serial tables u in
      let within : u < length order = omega (arith, l) in
      (λ i. let same : Replay (Unit {0}) = replayed_equal tables u (omega (arith, l)) i in remade tables u (rerun unannotated own (own.committer (suc u)) same.committed) same)
      ∙ ap (λ t. remade tables u (rerun unannotated own t before.committed) before) (says.committer u within)
      ∙ ap (λ n. remade tables u (seen_after u within before.committed (empty_first tables u) own n) before) (says.count u within)
      ∙ same_remade u within before.committed (empty_first tables u) (log.statement_count (get_or order u 0)) tables refl before

  -- and what stops them
  version_stop_equal : (tables u : ℕ) → u < length order → version_stop unannotated own parameters tables u ≡ version_stop unannotated serial parameters tables u
  version_stop_equal tables u within =
      let before : Replay (Unit {0}) = replayed unannotated serial tables u in
      let t : ℕ = get_or order u 0 in
      let n : ℕ = log.statement_count t in
      ap (λ same. commit_stop unannotated own parameters tables u (own.committer (suc u)) same) (replayed_equal tables u (omega (arith, within)))
      ∙ ap (λ t. commit_stop unannotated own parameters tables u t before) (says.committer u within)
      ∙ ap (λ n.
      first_stop (suc u) (run_stop unannotated parameters own t n before.committed) (least_conflict before.written u (run_written unannotated own t n before.committed))
      (nat_lt parameters.published (before.rows + published_rows (seen_after u within before.committed (empty_first tables u) own n) tables))) (says.count u within)
      ∙ (λ i.
      first_stop (suc u) (stop_equal u within before.committed (empty_first tables u) n (omega arith) i)
      (least_conflict before.written u (written_equal u within before.committed (empty_first tables u) n (omega arith) i))
      (nat_lt parameters.published (same_remade u within before.committed (empty_first tables u) n tables refl before i).rows))

  pub replay_stop_equal : (tables u : ℕ) → u ≤ length order → replay_stop unannotated own parameters tables u ≡ replay_stop unannotated serial parameters tables u
  replay_stop_equal tables zero l = refl
  replay_stop_equal tables (suc u) l = λ i. option_or (replay_stop_equal tables u (omega (arith, l)) i) (version_stop_equal tables u (omega (arith, l)) i)
