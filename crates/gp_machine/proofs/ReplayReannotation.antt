-- A homomorphism of annotations commutes with what transactions read, so it takes histories to histories, and with commits that are made again.
use Rattle.gp_machine.proofs.Prelude.{◌≡◌, ℕ, zero, suc, ◌+◌, true, false, cond, List, Option, Some, None, refl, sym, ap, ◌∙◌, subst, map, ◌==◌, nat_lt, AllByRecursion, option_or, step_reannotated, wrote_reannotated, Written, IsHomomorphism, database_reannotated, reannotated, Statement, Annotations, Database, Environment, pairs, with_bases, merged, next_version, least_conflict, Log, committer_of, log_of, statement_count, published_rows, IsFirst, IsHistory, spans_of, Parameters, Seen, next_seen, started, wrote_by, seen_by, Replay, first_stop, replay_stop, replayed, rerun, run_written, version_stop, replayed_spans, run, run_before, stepped, State, with_value, seen_reannotated, state_reannotated, IsUnstopped}
use Rattle.gp_machine.proofs.AnnotationLemmas.{merged_is, next_version_is, publishes_is, spans_is, with_mapped}
use Rattle.gp_machine.proofs.PointReannotation.{before_reannotated, run_reannotated, run_stop_reannotated}
use Rattle.gp_machine.specs.Replaying.{commit_stop, remade}

module _ {M N : Type 0} (domain : Annotations M) (other : Annotations N) (h : M → N) (keeps : IsHomomorphism domain other h) where
  abbrev mapped : Environment M → Environment N
  mapped versions version = database_reannotated h (versions version)

  -- ---- what a transaction reads

  stepped_is : (t k : ℕ) (statement : Option Statement) (db : Database M) → stepped other t k statement (database_reannotated h db) ≡ database_reannotated h (stepped domain t k statement db)
  stepped_is t k None db = refl
  stepped_is t k (Some statement) db = λ i table. step_reannotated domain other h keeps t k statement db (database_reannotated h db) (λ table. refl) table i

  wrote_by_is : (t k : ℕ) (statement : Option Statement) (db : Database M) → wrote_by other t k statement (database_reannotated h db) ≡ wrote_by domain t k statement db
  wrote_by_is t k None db = refl
  wrote_by_is t k (Some statement) db = wrote_reannotated domain other h keeps t k statement db (database_reannotated h db) (λ table. refl)

  started_is : (old new : ℕ) (now : Database M) (seen : Seen M) → started old new (database_reannotated h now) (seen_reannotated h seen) ≡ database_reannotated h (started old new now seen)
  started_is old new now seen =
      elim (new == old) as (λ b. cond b (database_reannotated h seen.view) (merged (database_reannotated h now) (database_reannotated h seen.view) (pairs seen.written))
      ≡ database_reannotated h (cond b seen.view (merged now seen.view (pairs seen.written)))) [
        | true ↦ refl
        | false ↦ merged_is h now seen.view (pairs seen.written)
      ]

  next_seen_is : (t k old new : ℕ) (now : Database M) (statement : Option Statement) (seen : Seen M)
      → next_seen other t k old new (database_reannotated h now) statement (seen_reannotated h seen) ≡ seen_reannotated h (next_seen domain t k old new now statement seen)
  next_seen_is t k old new now statement seen = λ i. record {
    view = (ap (stepped other t k statement) (started_is old new now seen) ∙ stepped_is t k statement (started old new now seen)) i;
    written = with_bases new seen.written ((ap (wrote_by other t k statement) (started_is old new now seen) ∙ wrote_by_is t k statement (started old new now seen)) i);
  }

  pub seen_by_is : (log : Log) (t k : ℕ) (versions : Environment M) → seen_by other log t k (mapped versions) ≡ seen_reannotated h (seen_by domain log t k versions)
  seen_by_is log t zero versions = refl
  seen_by_is log t (suc k) versions =
      ap (next_seen other t (suc k) (log.version t k) (log.version t (suc k)) (database_reannotated h (versions (log.version t (suc k)))) (log.statement t (suc k))) (seen_by_is log t k versions)
      ∙ next_seen_is t (suc k) (log.version t k) (log.version t (suc k)) (versions (log.version t (suc k))) (log.statement t (suc k)) (seen_by domain log t k versions)

  run_is : (log : Log) (t k : ℕ) (versions : Environment M) → run other log t k (mapped versions) ≡ database_reannotated h (run domain log t k versions)
  run_is log t k versions = λ i table. run_reannotated domain other h keeps versions (mapped versions) (λ version table. refl) log t k table i

  -- ---- histories

  pub history_reannotated : (log : Log) (committed : Environment M) (written : ℕ → List Written) → IsHistory domain log committed written → IsHistory other log (mapped committed) written
  history_reannotated log committed written history = record {
    start = λ table. ap (map (reannotated h)) (history.start table);
    order = history.order;
    later = history.later;
    once = history.once;
    wrote = λ u l. history.wrote u l ∙ sym (ap (λ (x : Seen N). pairs x.written) (seen_by_is log (log.committer (suc u)) (log.statement_count (log.committer (suc u))) committed));
    published = λ u table l.
        ap (map (reannotated h)) (history.published u table l)
        ∙ sym (next_version_is h (committed u) (seen_by domain log (log.committer (suc u)) (log.statement_count (log.committer (suc u))) committed).view (written (suc u)) table)
        ∙ sym (ap (λ (x : Seen N). next_version (database_reannotated h (committed u)) x.view (written (suc u)) table) (seen_by_is log (log.committer (suc u)) (log.statement_count (log.committer (suc u))) committed));
    first = λ u l. subst (λ (x : Seen N). AllByRecursion (IsFirst written u) x.written) (sym (seen_by_is log (log.committer (suc u)) (log.statement_count (log.committer (suc u))) committed)) (history.first u l);
  }

  pub unstopped_reannotated : (parameters : Parameters) (state : State M) → IsUnstopped domain parameters state → IsUnstopped other parameters (state_reannotated h state)
  unstopped_reannotated parameters state is = record {
    history = history_reannotated (log_of state.entries) state.committed state.written is.history;
    views = λ u k within has. ap (database_reannotated h) (is.views u k within has) ∙ sym (run_is (log_of state.entries) (committer_of (suc u) state.entries) k state.committed);
    runs = λ u within. run_stop_reannotated domain other h keeps state.committed (mapped state.committed) (λ version table. refl) parameters (log_of state.entries) (committer_of (suc u) state.entries)
        (statement_count (committer_of (suc u) state.entries) state.entries) ∙ is.runs u within;
  }

  -- ---- commits made again

  abbrev replay_reannotated : Replay M → Replay N
  replay_reannotated before = record { committed = mapped before.committed; written = before.written; rows = before.rows }

  module _ (log : Log) where
    run_written_is : (t k : ℕ) (versions : Environment M) → run_written other log t k (mapped versions) ≡ run_written domain log t k versions
    run_written_is t zero versions = refl
    run_written_is t (suc k) versions =
        let before : run_before other log t k (mapped versions) ≡ database_reannotated h (run_before domain log t k versions) =
        λ i table. before_reannotated domain other h keeps versions (mapped versions) (λ version table. refl) log t k table i in
        λ i. with_bases (log.version t (suc k)) (run_written_is t k versions i)
        ((ap (wrote_by other t (suc k) (log.statement t (suc k))) before ∙ wrote_by_is t (suc k) (log.statement t (suc k)) (run_before domain log t k versions)) i)

    rerun_is : (t : ℕ) (versions : Environment M) → rerun other log t (mapped versions) ≡ seen_reannotated h (rerun domain log t versions)
    rerun_is t versions = λ i. record { view = run_is log t (log.statement_count t) versions i; written = run_written_is t (log.statement_count t) versions i }

    remade_is : (tables u : ℕ) (seen : Seen M) (before : Replay M) → remade tables u (seen_reannotated h seen) (replay_reannotated before) ≡ replay_reannotated (remade tables u seen before)
    remade_is tables u seen before = λ i. record {
      committed = committed i;
      written = with_value (suc u) (pairs seen.written) before.written;
      rows = before.rows + publishes_is h seen tables i;
    }
      where
        committed : with_value (suc u) (next_version (database_reannotated h (before.committed u)) (database_reannotated h seen.view) (pairs seen.written)) (mapped before.committed)
            ≡ mapped (with_value (suc u) (next_version (before.committed u) seen.view (pairs seen.written)) before.committed)
        committed =
            ap (λ db. with_value (suc u) db (mapped before.committed)) (λ i table. next_version_is h (before.committed u) seen.view (pairs seen.written) table i)
            ∙ with_mapped (database_reannotated h) (suc u) _ before.committed

    -- the versions are the same but for annotations
    pub replayed_is : (tables u : ℕ) → replayed other log tables u ≡ replay_reannotated (replayed domain log tables u)
    replayed_is tables zero = refl
    replayed_is tables (suc u) =
        let t : ℕ = log.committer (suc u) in
        let before : Replay M = replayed domain log tables u in
        ap (λ (own : Replay N). remade tables u (rerun other log t own.committed) own) (replayed_is tables u)
        ∙ ap (λ (seen : Seen N). remade tables u seen (replay_reannotated before)) (rerun_is t before.committed)
        ∙ remade_is tables u (rerun domain log t before.committed) before

    pub replayed_spans_is : (tables u place : ℕ) → replayed_spans other log tables u place ≡ replayed_spans domain log tables u place
    replayed_spans_is tables u place =
        ap (λ (own : Replay N). spans_of u own.committed own.written place) (replayed_is tables u) ∙ spans_is h u (replayed domain log tables u).committed (replayed domain log tables u).written place

    module _ (parameters : Parameters) where
      commit_stop_is : (tables u t : ℕ) (before : Replay M) → commit_stop other log parameters tables u t (replay_reannotated before) ≡ commit_stop domain log parameters tables u t before
      commit_stop_is tables u t before =
          let seen = rerun_is t before.committed in
          let stop = run_stop_reannotated domain other h keeps before.committed (mapped before.committed) (λ version table. refl) parameters log t (log.statement_count t) in
          let rows : published_rows (rerun other log t (mapped before.committed)) tables ≡ published_rows (rerun domain log t before.committed) tables =
          ap (λ (x : Seen N). published_rows x tables) seen ∙ publishes_is h (rerun domain log t before.committed) tables in
          λ i. first_stop (suc u) (stop i) (least_conflict before.written u (seen i).written) (nat_lt parameters.published (before.rows + rows i))

      version_stop_is : (tables u : ℕ) → version_stop other log parameters tables u ≡ version_stop domain log parameters tables u
      version_stop_is tables u =
          ap (commit_stop other log parameters tables u (log.committer (suc u))) (replayed_is tables u) ∙ commit_stop_is tables u (log.committer (suc u)) (replayed domain log tables u)

      -- and stop where they stopped
      pub replay_stop_is : (tables u : ℕ) → replay_stop other log parameters tables u ≡ replay_stop domain log parameters tables u
      replay_stop_is tables zero = refl
      replay_stop_is tables (suc u) = λ i. option_or (replay_stop_is tables u i) (version_stop_is tables u i)
