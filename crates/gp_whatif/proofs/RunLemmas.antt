-- A transaction that runs again sees what it has read, and has written what the history machine says.
use Rattle.gp_whatif.proofs.Prelude.{◌≡◌, ℕ, zero, suc, ◌+◌, ◌<◌, ◌≤◌, Bool, true, false, cond, List, length, Option, Some, None, refl, sym, ap, ◌∙◌, subst, arith, ◌==◌, option_or, Database, unannotated, Written, step, Statement, read, Versions, rows_at, Writes, table_at, view_at, writes_at, with_bases, Entry, Log, committer_of, log_of, statement_at, statement_count, statement_version, versions_in, OverNodes, OverRows, RunStop, run_stop, statement_stop, wrote_by, start_by, Replay, CommitsInOrder, upto_version, Overlay, RepresentsActive, run_before, stepped, Active, parameters, tables_in, commits_in_order, eqb-true}
use Rattle.std.proofs.Common.{⊎_elim}
use Rattle.gp_base.specs.declared.row_id.TheConstants.{MAX_NODES}
use Rattle.gp_base.specs.Identities.{Identity}
use Rattle.gp_algebra.specs.Effects.{wrote, is_over_rows, is_over_nodes}
use Rattle.gp_base.specs.declared.limit.TheConstants.{MAX_TABLE_ROWS}
use Rattle.gp_versions.specs.Commits.{AreBelow}
use Rattle.gp_versions.specs.TableSpans.{AreWhole, NoOverlap}
use Rattle.gp_versions.specs.declared.span.Span.{Span}
use Rattle.gp_txn.specs.Applying.{Wrote, has_too_many_nodes, has_too_many_rows}
use Rattle.gp_txn.specs.Bases.{base_after, base_of, refreshed}
use Rattle.gp_txn.proofs.UnwrittenLemmas.{unwritten-base, unwritten-is, unwritten-view}
use Rattle.gp_txn.specs.Overlay as txn
use Rattle.gp_txn.specs.Overlay.{rows_below, view_rows}
use Rattle.gp_txn.specs.Transactions.{AreOthers, AreThere, HoldsOthers, IsUnwritten, database_below, has_written, overlay_at}
use Rattle.gp_txn.specs.declared.overlay.TableWrites.{TableWrites}
use Rattle.gp_machine.proofs.ActiveLemmas.{IsOver}
use Rattle.gp_machine.proofs.BaseLemmas.{base_more}
use Rattle.gp_machine.proofs.OverlayLemmas.{shown_at}
use Rattle.gp_machine.proofs.ReplayLemmas.{before_again, history_made}
use Rattle.gp_machine.proofs.SpanCommit.{others_spans}
use Rattle.gp_machine.proofs.SpanLaws.{plain_spans_rows, spans_apart, spans_below, spans_whole}
use Rattle.gp_machine.specs.Histories.{IsHistory}
use Rattle.gp_machine.specs.Represents as machine
use Rattle.gp_machine.specs.Represents.{base_among}
use Rattle.gp_whatif.specs.Remade.{HasRun, Ran, made_upto, seen_upto}
use Rattle.gp_whatif.specs.Replays.{IsMade, IsReplayable}

-- ---- the writes of a transaction, as the history machine sees them

abbrev pub spans_of : List Versions → ℕ → List Span
spans_of versions place = (table_at place versions).spans

abbrev pub overlay_of : (ℕ → List Span) → Writes → ℕ → Overlay
overlay_of spans writes k = record {
  transaction = writes.t;
  read_committed = writes.read_committed;
  begin = writes.begin;
  version = λ place. (writes_at place writes.tables).version;
  statements = k;
  shown = λ rows place. view_rows (txn.overlay_of (spans place) (writes_at place writes.tables)) (rows place);
  base = λ rows place id. base_of (txn.overlay_of (spans place) (writes_at place writes.tables)) (rows place) id;
}

-- what they show in a version
pub view_same : (versions : List Versions) (writes : Writes) (k version place : ℕ) → machine.view_at (spans_of versions) (overlay_of (spans_of versions) writes k) version place ≡ view_at writes.tables versions version place
view_same versions writes k version place =
    elim (version == (writes_at place writes.tables).version) as (λ b. (version == (writes_at place writes.tables).version) ≡ b
    → cond b (view_rows (overlay_at place writes.tables versions) (rows_below (overlay_at place writes.tables versions) (table_at place versions).spans))
    (refreshed (overlay_at place writes.tables versions) (rows_below (overlay_at place writes.tables versions) (table_at place versions).spans) (rows_at unannotated version (table_at place versions).spans))
    ≡ cond b (view_rows (overlay_at place writes.tables versions) (rows_at unannotated version (table_at place versions).spans))
    (refreshed (overlay_at place writes.tables versions) (rows_below (overlay_at place writes.tables versions) (table_at place versions).spans) (rows_at unannotated version (table_at place versions).spans))) [
      | true ↦ λ is. ap (λ v. view_rows (overlay_at place writes.tables versions) (rows_at unannotated v (table_at place versions).spans)) (sym (eqb-true version (writes_at place writes.tables).version is))
      | false ↦ λ is. refl
    ] refl

-- the base of a row after a statement
base_same : (now place : ℕ) (id : Identity) (all : List Written) (base : Option ℕ) → base_after now (has_written all place id) base ≡ machine.base_after now place id all base
base_same now place id all None = refl
base_same now place id all (Some version) = refl

-- ---- one statement

module _ (k version : ℕ) (versions : List Versions) where
  pub wrote_ran : (statement : Statement) (old new : Writes) (count : ℕ) → Wrote k version statement versions old new count → Ran k version statement versions old new
  wrote_ran statement old new count w =
      let a = w.applied in
      record { t = a.t; last = let l = a.last in omega arith; view = a.view; base = a.base; below = a.below; there = a.there; few_rows = w.few_rows; few_nodes = w.few_nodes }

-- ---- the transaction that made the next version

module _ (entries : List Entry) (ok : IsReplayable entries) (u : ℕ) (within : u < versions_in entries) (versions : List Versions) (made : IsMade entries u versions) where
  abbrev log : Log
  log = log_of entries

  abbrev cut : Log
  cut = upto_version u log

  abbrev tables : ℕ
  tables = length (tables_in entries)

  abbrev replay : Replay (Unit {0})
  replay = made_upto entries u

  abbrev t : ℕ
  t = committer_of (suc u) entries

  abbrev n : ℕ
  n = statement_count t entries

  order : CommitsInOrder log
  order = commits_in_order entries ok.sessions

  pub history : IsHistory unannotated cut replay.committed replay.written
  history = history_made unannotated log tables parameters order u (omega arith) made.unstopped

  reads : (k : ℕ) → k ≤ n → statement_version t k entries ≤ u
  reads k l = order.order u k within l

  -- the spans hold the versions made so far
  pub held : (v place : ℕ) → v ≤ u → rows_at unannotated v (spans_of versions place) ≡ replay.committed v place
  held v place l = ap (rows_at unannotated v) (made.spans place) ∙ plain_spans_rows cut replay.committed replay.written history v place l

  -- after its first k statements
  abbrev pub active_at : Bool → ℕ → Active (Unit {0})
  active_at read_committed k = record { transaction = t; read_committed = read_committed; version = statement_version t k entries; statements = k; seen = seen_upto entries u k }

  pub over_at : (read_committed : Bool) (k : ℕ) → k ≤ n → IsOver unannotated cut replay.committed (active_at read_committed k)
  over_at read_committed k l = record {
    seen = refl;
    version = refl;
    read = λ j m. order.order u j within (omega arith);
    rising = λ j m. order.later u j within (omega arith);
    unfinished = λ v m is. let same : v ≡ u = order.once v u (omega arith) within is in omega arith;
  }

  pub above : (place : ℕ) → AreBelow (suc u) (table_at place versions).spans
  above place = subst (AreBelow (suc u)) (sym (made.spans place)) (spans_below u replay.committed replay.written place)

  pub others : HoldsOthers t versions
  others place = subst (AreOthers t) (sym (made.spans place)) (others_spans cut replay.committed replay.written history (active_at false n) (over_at false n (omega arith)) place)

  pub apart : (place : ℕ) → NoOverlap (table_at place versions).spans
  apart place = subst NoOverlap (sym (made.spans place)) (spans_apart unannotated cut replay.committed replay.written history place)

  pub whole : (place : ℕ) → AreWhole (table_at place versions).spans
  whole place = subst AreWhole (sym (made.spans place)) (spans_whole u replay.committed replay.written place)

  -- its writes represent it
  pub represents : (k : ℕ) (writes : Writes) → HasRun entries u versions k writes → RepresentsActive (spans_of versions) writes.begin (overlay_of (spans_of versions) writes k) (active_at writes.read_committed k)
  represents k writes ran = record {
    transaction = ran.t_is;
    read_committed = refl;
    begin = refl;
    statements = refl;
    version = ran.below;
    view = λ place. view_same versions writes k (statement_version t k entries) place ∙ ran.view place;
    base = λ place id other. ran.base place id (λ is. other (is ∙ sym ran.t_is));
  }

  -- before its first statement
  pub started : (writes : Writes) → writes.t ≡ t → writes.last ≡ 0 → ((place : ℕ) → IsUnwritten (statement_version t zero entries) (writes_at place writes.tables)) → HasRun entries u versions zero writes
  started writes same last none = record {
    t_is = same;
    last = omega arith;
    below = λ place. (none place).below;
    view = λ place. unwritten-view (statement_version t zero entries) (statement_version t zero entries) (writes_at place writes.tables) (table_at place versions).spans (none place)
        ∙ held (statement_version t zero entries) place (reads zero (omega arith));
    base = λ place id other. unwritten-base (statement_version t zero entries) (writes_at place writes.tables) (spans_of versions place) (database_below writes.tables versions place) id (none place);
    there = λ place. subst (λ (table : TableWrites). AreThere (table_at place versions).spans table.carried)
        (sym (unwritten-is (statement_version t zero entries) (writes_at place writes.tables) (none place))) tt;
    unstopped = refl;
  }

  -- ---- one statement more

  module _ (k : ℕ) (more : k < n) (statement : Statement) (is : statement_at t (suc k) entries ≡ Some statement) (old : Writes) (ran : HasRun entries u versions k old) where
    abbrev now : ℕ
    now = statement_version t (suc k) entries

    abbrev start : Database (Unit {0})
    start = start_by unannotated cut t k replay.committed

    -- it sees there what the history machine has it read
    seen_before : view_at old.tables versions now ≡ start
    seen_before = λ i place. (
        sym (view_same versions old k now place)
        ∙ shown_at cut replay.committed replay.written history (active_at old.read_committed k) (over_at old.read_committed k (omega arith)) (spans_of versions) old.begin (overlay_of (spans_of versions) old k) (represents k old ran)
        now (order.later u k within more) (reads (suc k) more) (λ place. held now place (reads (suc k) more)) place) i

    stop_is : run_stop unannotated parameters log t (suc k) replay.committed ≡ statement_stop unannotated parameters t (suc k) (Some statement) start
    stop_is =
        (λ i. option_or (ran.unstopped i) (statement_stop unannotated parameters t (suc k) (is i) (run_before unannotated log t k replay.committed)))
        ∙ ap (statement_stop unannotated parameters t (suc k) (Some statement)) (before_again unannotated log tables parameters order u within history k more)

    rows_is : (b : Bool) → has_too_many_rows (suc k) now statement versions old ≡ b → is_over_rows unannotated MAX_TABLE_ROWS t (suc k) statement start ≡ b
    rows_is b e = sym (λ i. is_over_rows unannotated MAX_TABLE_ROWS (ran.t_is i) (suc k) statement (seen_before i)) ∙ e

    nodes_is : (b : Bool) → has_too_many_nodes (suc k) now statement versions old ≡ b → is_over_nodes unannotated MAX_NODES t (suc k) statement start ≡ b
    nodes_is b e = sym (λ i. is_over_nodes unannotated MAX_NODES (ran.t_is i) (suc k) statement (seen_before i)) ∙ e

    abbrev stop_by : Bool → Bool → Option RunStop
    stop_by a b = cond a (Some (OverRows t (suc k))) (cond b (Some (OverNodes t (suc k))) None)

    pub next_ran : (new : Writes) → Ran (suc k) now statement versions old new → HasRun entries u versions (suc k) new
    next_ran new r = record {
      t_is = r.t ∙ ran.t_is;
      last = r.last;
      below = λ place. ⊎_elim
          (λ same. let before = ran.below place in let later = order.later u k within more in omega arith)
          (λ here. omega arith) (r.below place);
      view = λ place.
          r.view place ∙ (λ i. step unannotated (ran.t_is i) (suc k) statement (seen_before i) place) ∙ sym (ap (λ s. stepped unannotated t (suc k) s start place) is);
      base = λ place id other.
          r.base place id (λ own. other (own ∙ ran.t_is))
          ∙ (λ i. base_after now (has_written (wrote unannotated (ran.t_is i) (suc k) statement (seen_before i)) place id) (ran.base place id other i))
          ∙ base_same now place id (wrote unannotated t (suc k) statement start) (base_among place id (seen_upto entries u k).written)
          ∙ sym (ap (λ s. base_among place id (with_bases now (seen_upto entries u k).written (wrote_by unannotated t (suc k) s start))) is
          ∙ base_more place id now (seen_upto entries u k).written (wrote unannotated t (suc k) statement start));
      there = r.there ran.there;
      unstopped = stop_is ∙ (λ i. stop_by (rows_is false r.few_rows i) (nodes_is false r.few_nodes i));
    }

    pub over_rows : has_too_many_rows (suc k) now statement versions old ≡ true → run_stop unannotated parameters log t (suc k) replay.committed ≡ Some (OverRows t (suc k))
    over_rows many = stop_is ∙ ap (λ b. stop_by b (is_over_nodes unannotated MAX_NODES t (suc k) statement start)) (rows_is true many)

    pub over_nodes : has_too_many_rows (suc k) now statement versions old ≡ false → has_too_many_nodes (suc k) now statement versions old ≡ true → run_stop unannotated parameters log t (suc k) replay.committed ≡ Some (OverNodes t (suc k))
    over_nodes few many = stop_is ∙ (λ i. stop_by (rows_is false few i) (nodes_is true many i))

  -- a run that stops stays stopped
  pub stop_stays : (k more : ℕ) (stop : RunStop) → run_stop unannotated parameters log t k replay.committed ≡ Some stop → run_stop unannotated parameters log t (more + k) replay.committed ≡ Some stop
  stop_stays k zero stop e = let is : zero + k ≡ k = omega arith in ap (λ n. run_stop unannotated parameters log t n replay.committed) is ∙ e
  stop_stays k (suc more) stop e =
      let is : suc more + k ≡ suc (more + k) = omega arith in
      ap (λ n. run_stop unannotated parameters log t n replay.committed) is
      ∙ ap (λ s. option_or s (statement_stop unannotated parameters t (suc (more + k)) (log.statement t (suc (more + k))) (run_before unannotated log t (more + k) replay.committed))) (stop_stays k more stop e)
