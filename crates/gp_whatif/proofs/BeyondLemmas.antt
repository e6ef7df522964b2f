-- A transaction reads no rows of tables that are not there, and commits made again make none.
use Rattle.gp_whatif.proofs.Prelude.{◌≡◌, ℕ, zero, suc, ◌<◌, ◌≤◌, true, false, cond, List, [], ◌++◌, Option, Some, None, refl, ap, ◌∙◌, arith, length, map, ◌==◌, nat_tests, Table, Database, Environment, unannotated, Written, step, Statement, insert, insert_select, update, delete, read, pairs, is_written, next_version, Entry, Log, committer_of, log_of, statement_at, statement_count, statement_version, HasTarget, Seen, start_by, replayed, rerun, upto_version, replayed_spans, refreshed, run, run_before, stepped, statements_fit}
use Rattle.std.specs.Prelude.{not}
use Rattle.std.specs.List.{filter}
use Rattle.gp_base.specs.Annotated.{Annotated}
use Rattle.gp_algebra.specs.Effects.{with_rows}
use Rattle.gp_machine.specs.Committed.{merged, unmarked}
use Rattle.gp_machine.specs.HistorySpans.{span_from, spans_upto}
use Rattle.gp_machine.specs.Publishing.{publish, was_written}
use Rattle.gp_machine.specs.Reading.{started}
use Rattle.gp_machine.specs.ReadBy.{seen_by}
use Rattle.gp_whatif.specs.Replays.{WritesTables}
use Rattle.gp_log.proofs.FittingLogs.{statement_at_fits}
use Rattle.gp_whatif.proofs.FittingLogs.{fits_target, statement_at_target}

other_table : (place table tables : ℕ) → tables ≤ place → table < tables → (place == table) ≡ false
other_table place table tables high there = grind (arith, nat_tests)

module _ (tables : List Table) (place : ℕ) (high : length tables ≤ place) where
  kept : (table : ℕ) (rows : List (Annotated (Unit {0}))) (db : Database (Unit {0})) → table < length tables → with_rows table rows db place ≡ db place
  kept table rows db there = ap (λ b. cond b rows (db place)) (other_table place table (length tables) high there)

  step_beyond : (t k : ℕ) (statement : Statement) (db : Database (Unit {0})) → HasTarget (length tables) statement → step unannotated t k statement db place ≡ db place
  step_beyond t k (insert table rows) db there = kept table _ db there
  step_beyond t k (insert_select table select) db there = kept table _ db there
  step_beyond t k (update table sets c) db there = kept table _ db there
  step_beyond t k (delete table c) db there = kept table _ db there
  step_beyond t k (read select) db there = refl

  started_beyond : (old new : ℕ) (now : Database (Unit {0})) (seen : Seen (Unit {0})) → now place ≡ [] → seen.view place ≡ [] → started old new now seen place ≡ []
  started_beyond old new now seen none before =
      elim (new == old) as (λ b. (cond b seen.view (merged now seen.view (pairs seen.written))) place ≡ []) [
        | true ↦ before
        | false ↦ λ i.
            filter (λ (row : Annotated (Unit {0})). not (is_written place row.identity (pairs seen.written))) (none i) ++ filter (λ (row : Annotated (Unit {0})). is_written place row.identity (pairs seen.written)) (before i)
      ]

  module _ (entries : List Entry) (fits : statements_fit tables entries ≡ true) (u t n : ℕ) (env : Environment (Unit {0})) (none : (k : ℕ) → k ≤ n → env ((log_of entries).version t k) place ≡ []) where
    abbrev log : Log
    log = upto_version u (log_of entries)

    stepped_beyond : (k : ℕ) (statement : Option Statement) → log.statement t k ≡ statement → (db : Database (Unit {0})) → stepped unannotated t k statement db place ≡ db place
    stepped_beyond k None is db = refl
    stepped_beyond k (Some statement) is db = step_beyond t k statement db (fits_target tables statement (statement_at_fits tables entries fits t k statement is))

    pub seen_beyond : (k : ℕ) → k ≤ n → (seen_by unannotated log t k env).view place ≡ []
    seen_beyond zero l = none zero (omega arith)
    seen_beyond (suc k) l =
        stepped_beyond (suc k) (log.statement t (suc k)) refl (start_by unannotated log t k env)
        ∙ started_beyond (log.version t k) (log.version t (suc k)) (env (log.version t (suc k))) (seen_by unannotated log t k env) (none (suc k) l) (seen_beyond k (omega arith))

  -- ---- commits made again

  module _ (entries : List Entry) (writes : WritesTables (length tables) entries) where
    ran_beyond : (t k : ℕ) (statement : Option Statement) → statement_at t k entries ≡ statement → (db : Database (Unit {0})) → stepped unannotated t k statement db place ≡ db place
    ran_beyond t k None is db = refl
    ran_beyond t k (Some statement) is db = step_beyond t k statement db (statement_at_target (length tables) entries writes t k statement is)

    published_beyond : (base mine later : Database (Unit {0})) → mine place ≡ [] → later place ≡ [] → publish base mine later place ≡ []
    published_beyond base mine later own others = λ i.
        filter (λ (row : Annotated (Unit {0})). not (was_written (base place) (own i) row.identity)) (others i) ++ filter (λ (row : Annotated (Unit {0})). row.mark) (own i)

    refreshed_beyond : (versions : Environment (Unit {0})) → ((version : ℕ) → versions version place ≡ []) → (old new : ℕ) (db : Database (Unit {0})) → db place ≡ []
        → refreshed old new versions db place ≡ []
    refreshed_beyond versions none old new db before =
        elim (new == old) as (λ b. (cond b db (publish (versions old) db (versions new))) place ≡ []) [
          | true ↦ before
          | false ↦ published_beyond (versions old) db (versions new) before (none new)
        ]

    run_beyond : (t k : ℕ) (versions : Environment (Unit {0})) → ((version : ℕ) → versions version place ≡ []) → run unannotated (log_of entries) t k versions place ≡ []
    run_beyond t zero versions none = none (statement_version t zero entries)
    run_beyond t (suc k) versions none =
        ran_beyond t (suc k) (statement_at t (suc k) entries) refl (run_before unannotated (log_of entries) t k versions)
        ∙ refreshed_beyond versions none (statement_version t k entries) (statement_version t (suc k) entries) (run unannotated (log_of entries) t k versions) (run_beyond t k versions none)

    next_beyond : (newest view : Database (Unit {0})) (written : List Written) → newest place ≡ [] → view place ≡ [] → next_version newest view written place ≡ []
    next_beyond newest view written old own = λ i.
        map unmarked (filter (λ (row : Annotated (Unit {0})). not (is_written place row.identity written)) (old i) ++ filter (λ (row : Annotated (Unit {0})). is_written place row.identity written) (own i))

    made_beyond : (count u version : ℕ) → (replayed unannotated (log_of entries) count u).committed version place ≡ []
    made_beyond count zero version = refl
    made_beyond count (suc u) version =
        let t : ℕ = committer_of (suc u) entries in
        let before : Environment (Unit {0}) = (replayed unannotated (log_of entries) count u).committed in
        let seen : Seen (Unit {0}) = rerun unannotated (log_of entries) t before in
        elim (version == suc u) as (λ b. (cond b (next_version (before u) seen.view (pairs seen.written)) (before version)) place ≡ []) [
          | true ↦ next_beyond (before u) seen.view (pairs seen.written) (made_beyond count u u) (run_beyond t (statement_count t entries) before (made_beyond count u))
          | false ↦ made_beyond count u version
        ]

    upto_beyond : (n : ℕ) (committed : Environment (Unit {0})) (written : ℕ → List Written) → ((version : ℕ) → committed version place ≡ []) → (m : ℕ) → spans_upto n committed written place m ≡ []
    upto_beyond n committed written none zero = refl
    upto_beyond n committed written none (suc m) = λ i.
        upto_beyond n committed written none m i
        ++ map (span_from n committed written place (suc m)) (filter (λ (row : Annotated (Unit {0})). is_written place row.identity (written (suc m))) (none (suc m) i))

    -- a table that is not there has no row versions
    pub replayed_beyond : (count u : ℕ) → replayed_spans unannotated (log_of entries) count u place ≡ []
    replayed_beyond count u =
        upto_beyond u (replayed unannotated (log_of entries) count u).committed (replayed unannotated (log_of entries) count u).written (made_beyond count u) u
