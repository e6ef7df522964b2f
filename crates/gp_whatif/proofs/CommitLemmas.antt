-- The commit of a transaction that has run again is the one that the replay says.
use Rattle.gp_whatif.proofs.Prelude.{◌≡◌, ℕ, zero, suc, ◌+◌, ◌<◌, ◌≤◌, Bool, true, false, List, [], length, map, Option, Some, None, refl, sym, ap, ◌∙◌, subst, arith, nat_lt, option_or, unannotated, Statement, Versions, rows_at, Writes, table_at, view_at, writes_at, pairs, is_written, next_version, Conflict, least_conflict, Entry, Log, committer_of, log_of, statement_at, statement_count, statement_version, versions_in, published_rows, OverNodes, OverRows, RunStop, run_stop, Seen, Replay, first_stop, rerun, version_stop, CommitsInOrder, upto_version, Overlay, RepresentsActive, Active, parameters, tables_in, commits_in_order}
use Rattle.std.proofs.Common.{◌-◌}
use Rattle.std.specs.List.{filter}
use Rattle.std.proofs.lemmas.Bool.{le-ltb, lt-ltb}
use Rattle.std.proofs.Math.ListN.{get_or-eq_default}
use Rattle.gp_versions.specs.Commits.{AreDistinct}
use Rattle.gp_txn.proofs.AfterLemmas.{commit-bases, commit-count, commit-rows, spans-everywhere}
use Rattle.gp_txn.proofs.LostLemmas.{lost-first, not-lost-first}
use Rattle.gp_txn.specs.Committing as txn
use Rattle.gp_txn.specs.Committing.{HasCause, commit_of, spans_left, view_below}
use Rattle.gp_txn.specs.Conflicts.{IsFirstConflict, lates_at}
use Rattle.gp_txn.specs.Counts.{count_rows, count_spans}
use Rattle.gp_txn.specs.Overlay.{PlainRow, carried_write}
use Rattle.gp_txn.specs.Transactions.{HoldsOwn, no_table}
use Rattle.gp_txn.specs.declared.conflict.Conflict as late
use Rattle.gp_base.specs.declared.limit.TheConstants.{MAX_SPANS}
use Rattle.gp_txn.specs.declared.error.CommitStop.{CommitStop}
use Rattle.gp_txn.specs.declared.error.CommitStop.TheVariants as stop
use Rattle.gp_machine.proofs.FoundLemmas.{shown_is}
use Rattle.gp_machine.proofs.OverlayLemmas.{marked_are}
use Rattle.gp_machine.proofs.ReplayLemmas.{again_is, rows_made, spans_made}
use Rattle.gp_machine.proofs.SpanCommit.{commit_spans}
use Rattle.gp_machine.specs.EngineLine.{ShowsConflict}
use Rattle.gp_machine.specs.HistorySpans as machine
use Rattle.gp_machine.specs.Replaying as m
use Rattle.gp_machine.specs.Represents.{Kept, kept_start}
use Rattle.gp_machine.specs.State.{with_value}
use Rattle.gp_whatif.specs.Remade.{HasRun, StopsAt, made_upto, seen_upto}
use Rattle.gp_whatif.specs.Replays.{IsMade, IsReplayable, Stops, stop_upto}
use Rattle.gp_whatif.specs.declared.error.ReplayStop.{ReplayStop}
use Rattle.gp_whatif.specs.declared.error.ReplayStop.TheVariants as code
use Rattle.gp_whatif.proofs.BeyondLemmas.{seen_beyond}
use Rattle.gp_whatif.proofs.RunLemmas.{active_at, apart, held, history, over_at, over_nodes, over_rows, overlay_of, represents, spans_of, stop_stays, whole}

no_spans : (versions : List Versions) (place : ℕ) → length versions ≤ place → (table_at place versions).spans ≡ []
no_spans versions place high = ap (λ (table : Versions). table.spans) (get_or-eq_default versions no_table high)

-- ---- a stop stays

stays : (entries : List Entry) (u more : ℕ) (expected : m.ReplayStop) → stop_upto entries u ≡ Some expected → stop_upto entries (more + u) ≡ Some expected
stays entries u zero expected e = let is : zero + u ≡ u = omega arith in ap (stop_upto entries) is ∙ e
stays entries u (suc more) expected e =
    let is : suc more + u ≡ suc (more + u) = omega arith in
    ap (stop_upto entries) is ∙ ap (λ s. option_or s (version_stop unannotated (log_of entries) parameters (length (tables_in entries)) (more + u))) (stays entries u more expected e)

pub stops_stay : (entries : List Entry) (u n : ℕ) → u ≤ n → (stop : ReplayStop) → Stops stop (stop_upto entries u) → Stops stop (stop_upto entries n)
stops_stay entries u n l stop e = by stop e
  where
    later : (expected : m.ReplayStop) → stop_upto entries u ≡ Some expected → stop_upto entries n ≡ Some expected
    later expected e = let is : (n - u) + u ≡ n = omega arith in ap (stop_upto entries) (sym is) ∙ stays entries u (n - u) expected e

    by : (stop : ReplayStop) → Stops stop (stop_upto entries u) → Stops stop (stop_upto entries n)
    by (code.Lost version other table id) e = later _ e
    by (code.Rows t k) e = later _ e
    by (code.Ancestry t k) e = later _ e
    by code.Full e = later _ e
    by code.NoMemory e = tt

-- ---- one version more

module _ (entries : List Entry) (ok : IsReplayable entries) (u : ℕ) (within : u < versions_in entries) (versions : List Versions) (made : IsMade entries u versions) where
  abbrev log : Log
  log = log_of entries

  abbrev cut : Log
  cut = upto_version u log

  abbrev tables : ℕ
  tables = length (tables_in entries)

  abbrev replay : Replay (Unit {0})
  replay = made_upto entries u

  abbrev t : ℕ
  t = committer_of (suc u) entries

  abbrev n : ℕ
  n = statement_count t entries

  abbrev again : Seen (Unit {0})
  again = rerun unannotated log t replay.committed

  order : CommitsInOrder log
  order = commits_in_order entries ok.sessions

  again_seen : again ≡ seen_upto entries u n
  again_seen = again_is unannotated log tables parameters order u within (history entries ok u within versions made)

  -- ---- the stop of the run

  run_stops : (s : RunStop) (k : ℕ) → k ≤ n → run_stop unannotated parameters log t k replay.committed ≡ Some s → stop_upto entries (suc u) ≡ Some (m.Passes s)
  run_stops s k l e =
      let is : (n - k) + k ≡ n = omega arith in
      let last : run_stop unannotated parameters log t n replay.committed ≡ Some s = ap (λ j. run_stop unannotated parameters log t j replay.committed) (sym is) ∙ stop_stays entries ok u within versions made k (n - k) s e in
      λ i. option_or (made.unstopped i) (first_stop (suc u) (last i) (least_conflict replay.written u again.written) (nat_lt parameters.published (replay.rows + published_rows again tables)))

  pub statement_stops : (k : ℕ) (l : k < n) (statement : Statement) (is : statement_at t (suc k) entries ≡ Some statement) (old : Writes) (ran : HasRun entries u versions k old)
      (stop : ReplayStop) → StopsAt stop (suc k) (statement_version t (suc k) entries) statement versions old → Stops stop (stop_upto entries (suc u))
  statement_stops k l statement is old ran (code.Rows own number) e =
      run_stops (OverRows t (suc k)) (suc k) l (over_rows entries ok u within versions made k l statement is old ran e.1.1)
      ∙ (λ i. Some (m.Passes (OverRows (sym (e.0 ∙ ran.t_is) i) (sym e.1.0 i))))
  statement_stops k l statement is old ran (code.Ancestry own number) e =
      run_stops (OverNodes t (suc k)) (suc k) l (over_nodes entries ok u within versions made k l statement is old ran e.1.1.0 e.1.1.1)
      ∙ (λ i. Some (m.Passes (OverNodes (sym (e.0 ∙ ran.t_is) i) (sym e.1.0 i))))
  statement_stops k l statement is old ran code.NoMemory e = tt
  statement_stops k l statement is old ran (code.Lost version other table id) e = absurd e
  statement_stops k l statement is old ran code.Full e = absurd e

  -- ---- its commit

  module _ (writes : Writes) (ran : HasRun entries u versions n writes) (own : HoldsOwn writes) where
    abbrev overlay : Overlay
    overlay = overlay_of (spans_of versions) writes n

    abbrev active : Active (Unit {0})
    active = active_at entries ok u within versions made writes.read_committed n

    abbrev kept : Kept
    kept = record kept_start { spans = spans_of versions }

    runs : RepresentsActive (spans_of versions) writes.begin overlay active
    runs = represents entries ok u within versions made n writes ran

    -- the transaction reads no rows of tables that are not there
    nothing : (place : ℕ) → length versions ≤ place → view_at writes.tables versions (statement_version t n entries) place ≡ []
    nothing place high =
        ran.view place
        ∙ seen_beyond (tables_in entries) place (subst (λ n. n ≤ place) made.count high) entries ok.fits u t n replay.committed
        (λ k l. sym (held entries ok u within versions made (statement_version t k entries) place (order.order u k within l)) ∙ ap (rows_at unannotated (statement_version t k entries)) (no_spans versions place high))
        n (omega arith)

    -- ---- the conflict

    carried-once : (place : ℕ) → AreDistinct (map carried_write (writes_at place writes.tables).carried)
    carried-once place = (own place).carried.1

    shown_none : IsFirstConflict (length versions) (lates_at writes.tables versions) None → ShowsConflict kept overlay None
    shown_none none = not-lost-first writes.tables versions (apart entries ok u within versions made) (whole entries ok u within versions made) carried-once none

    shown_some : (conflict : late.Conflict) → IsFirstConflict (length versions) (lates_at writes.tables versions) (Some conflict)
        → ShowsConflict kept overlay (Some (record { pair = record { table = conflict.place; identity = conflict.late.id }; version = conflict.late.version }))
    shown_some conflict first =
        let is = lost-first writes.tables versions (apart entries ok u within versions made) (whole entries ok u within versions made) carried-once conflict first in
        (is.later, λ pair version later. is.least pair version later)

    conflict_is : (o : Option Conflict) → ShowsConflict kept overlay o → least_conflict replay.written u again.written ≡ o
    conflict_is o shows =
        ap (λ (s : Seen (Unit {0})). least_conflict replay.written u s.written) again_seen
        ∙ sym (shown_is cut replay.committed replay.written (history entries ok u within versions made) active (over_at entries ok u within versions made writes.read_committed n (omega arith)) kept made.spans writes.begin overlay runs o shows)

    -- ---- how many rows

    counted : (count : ℕ) → count_spans versions count ≡ spans_made unannotated log tables u count
    counted zero = refl
    counted (suc place) = λ i. counted place i + length (made.spans place i)

    marked_is : (place : ℕ) → published_rows again (suc place) ≡ published_rows again place + length (filter (λ row. row.mark) (view_below writes.tables versions place))
    marked_is place =
        ap (λ rows. published_rows again place + length rows)
        (ap (λ (s : Seen (Unit {0})). filter (λ (row : PlainRow). is_written place row.identity (pairs s.written)) (s.view place)) again_seen
        ∙ sym (marked_are cut replay.committed replay.written (history entries ok u within versions made) active (over_at entries ok u within versions made writes.read_committed n (omega arith)) (spans_of versions) writes.begin overlay runs place))

    left_is : spans_left writes.tables versions ≡ replay.rows + published_rows again tables
    left_is =
        (λ i. count_spans versions (made.count i) + count_rows (commit_of writes.tables versions) (made.count i))
        ∙ (λ i. (counted tables ∙ sym (rows_made unannotated log tables u)) i + commit-count writes versions (published_rows again) refl marked_is tables i)

    -- ---- the outcomes

    abbrev expected : Option RunStop → Option Conflict → Bool → Option m.ReplayStop
    expected stop conflict full = option_or None (first_stop (suc u) stop conflict full)

    none_due : IsFirstConflict (length versions) (lates_at writes.tables versions) None → (full : Bool) → nat_lt parameters.published (replay.rows + published_rows again tables) ≡ full → stop_upto entries (suc u) ≡ expected None None full
    none_due none full is = λ i. option_or (made.unstopped i) (first_stop (suc u) (ran.unstopped i) (conflict_is None (shown_none none) i) (is i))

    pub committed : (new : List Versions) → length new ≡ length versions → txn.Commits (suc u) writes versions new → IsMade entries (suc u) new
    committed new same commits = record {
      count = same ∙ made.count;
      unstopped = none_due commits.made.first false (le-ltb MAX_SPANS (replay.rows + published_rows again tables) (subst (λ n. n ≤ MAX_SPANS) left_is commits.made.few));
      spans = λ place.
          spans-everywhere (suc u) writes versions new same commits ran.there (statement_version t n entries) nothing place
          ∙ commit_spans cut replay.committed replay.written (history entries ok u within versions made) active (over_at entries ok u within versions made writes.read_committed n (omega arith)) (spans_of versions) writes.begin overlay place
          (commit_of writes.tables versions place) (made.spans place) runs
          (record { names = commit-bases writes versions own place; rows = commit-rows writes versions place })
          ∙ sym (ap (λ (s : Seen (Unit {0})). machine.spans_of (suc u) (with_value (suc u) (next_version (replay.committed u) s.view (pairs s.written)) replay.committed) (with_value (suc u) (pairs s.written) replay.written) place) again_seen);
    }

    abbrev CommitStops : CommitStop → Type 0
    CommitStops (stop.Conflict version table id) = Stops (code.Lost (suc u) version table id) (stop_upto entries (suc u))
    CommitStops stop.Full = Stops code.Full (stop_upto entries (suc u))
    CommitStops stop.NoMemory = Unit {0}

    pub commit_stops : (s : CommitStop) → HasCause s (length versions) (lates_at writes.tables versions) (spans_left writes.tables versions) → CommitStops s
    commit_stops (stop.Conflict version table id) cause =
        λ i. option_or (made.unstopped i) (first_stop (suc u) (ran.unstopped i)
        (conflict_is (Some (record { pair = record { table = table; identity = id }; version = version })) (shown_some (record { place = table; late = record { id = id; version = version } }) cause) i)
        (nat_lt parameters.published (replay.rows + published_rows again tables)))
    commit_stops stop.Full cause = none_due cause.0 true (lt-ltb MAX_SPANS (replay.rows + published_rows again tables) (subst (λ n. MAX_SPANS < n) left_is cause.1))
    commit_stops stop.NoMemory cause = tt
