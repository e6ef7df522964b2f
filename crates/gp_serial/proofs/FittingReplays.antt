-- The row versions of commits made again fit the tables of their log.
use Rattle.gp_serial.proofs.Prelude.{◌≡◌, ℕ, zero, suc, true, false, cond, List, length, Option, Some, None, ◌&&◌, not, AllByRecursion, list_all, eq-eqb, Cell, Table, Annotated, Database, Environment, unannotated, width_of, Statement, pairs, next_version, Entry, Log, log_of, run_stop, statement_stop, publish, Seen, Replay, replay_stop, replayed, rerun, version_stop, refreshed, run, run_before, stepped, parameters, tables_in, SpanFits, SpansFit, statements_fit, FitsIfSome, logged_fits, each_append, each_map, none_parts}
use Rattle.std.proofs.Common.{◌==◌}
use Rattle.std.specs.Prelude.{◌-◌}
use Rattle.std.specs.List.{filter}
use Rattle.gp_base.specs.declared.row_id.TheConstants.{MAX_NODES}
use Rattle.gp_base.specs.UserCells.{is_user_cell}
use Rattle.gp_algebra.specs.Effects.{Written}
use Rattle.gp_algebra.specs.Fitting.{row_fits}
use Rattle.gp_machine.specs.Committed.{is_written, merged, unmarked}
use Rattle.gp_machine.specs.HistorySpans.{span_from, spans_upto}
use Rattle.gp_machine.specs.Publishing.{was_written}
use Rattle.gp_machine.specs.ReplayForms.{replayed_spans}
use Rattle.gp_machine.proofs.Distinct.{each_both, each_filter, each_weaker}
use Rattle.gp_machine.proofs.ReplayLemmas.{unstopped}
use Rattle.gp_rewrite.specs.Meaning.{AreAsWide}
use Rattle.gp_rewrite.proofs.WidthLemmas.{step_wide}
use Rattle.gp_reenact.proofs.HeldLemmas.{AreHeld, IsHeld, held_step}

abbrev Rows : Type 0
Rows = Database (Unit {0})

fits_row : (width : ℕ) (row : List Cell) → length row ≡ width → list_all is_user_cell row ≡ true → row_fits width row ≡ true
fits_row width row wide user = λ i. eq-eqb (length row) width wide i && user i

module _ (entries : List Entry) (fits : statements_fit (tables_in entries) entries ≡ true) where
  abbrev catalogue : List Table
  catalogue = tables_in entries

  abbrev log : Log
  log = log_of entries

  -- a row that its table can have
  abbrev IsFit : ℕ → Annotated (Unit {0}) → Type 0
  IsFit table row = IsHeld MAX_NODES row × (length row.cells ≡ width_of catalogue table)

  abbrev AreFit : Rows → Type 0
  AreFit db = (table : ℕ) → AllByRecursion (IsFit table) (db table)

  held : (db : Rows) → AreFit db → AreHeld MAX_NODES db
  held db fit table = each_weaker (IsHeld MAX_NODES) (IsFit table) (λ row is. is.0) (db table) (fit table)

  wide : (db : Rows) → AreFit db → AreAsWide (width_of catalogue) db
  wide db fit table = each_weaker (λ row. length row.cells ≡ width_of catalogue table) (IsFit table) (λ row is. is.1) (db table) (fit table)

  -- ---- statements

  stepped_wide : (t k : ℕ) (found : Option Statement) (db : Rows) → FitsIfSome catalogue found → AreAsWide (width_of catalogue) db → AreAsWide (width_of catalogue) (stepped unannotated t k found db)
  stepped_wide t k None db fit are = are
  stepped_wide t k (Some statement) db fit are = step_wide unannotated catalogue t k statement db fit are

  stepped_fit : (t k : ℕ) (found : Option Statement) (db : Rows) → FitsIfSome catalogue found → statement_stop unannotated parameters t k found db ≡ None → AreFit db → AreFit (stepped unannotated t k found db)
  stepped_fit t k found db fit none are table =
      each_both (IsFit table) (IsHeld MAX_NODES) (λ row. length row.cells ≡ width_of catalogue table) (λ row own long. (own, long)) (stepped unannotated t k found db table)
      (held_step unannotated parameters catalogue t k found db fit none (held db are) table) (stepped_wide t k found db fit (wide db are) table)

  published_fit : (base mine later : Rows) → AreFit mine → AreFit later → AreFit (publish base mine later)
  published_fit base mine later own others table =
      each_append (IsFit table) _ _
      (each_filter (IsFit table) (IsFit table) (λ row. not (was_written (base table) (mine table) row.identity)) (λ row kept is. is) (later table) (others table))
      (each_filter (IsFit table) (IsFit table) (λ row. row.mark) (λ row kept is. is) (mine table) (own table))

  refreshed_fit : (versions : Environment (Unit {0})) → ((version : ℕ) → AreFit (versions version)) → (old new : ℕ) (db : Rows) → AreFit db → AreFit (refreshed old new versions db)
  refreshed_fit versions are old new db own =
      elim (new == old) as (λ b. AreFit (cond b db (publish (versions old) db (versions new)))) [ true ↦ own | false ↦ published_fit (versions old) db (versions new) own (are new) ]

  run_fit : (t k : ℕ) (versions : Environment (Unit {0})) → ((version : ℕ) → AreFit (versions version)) → run_stop unannotated parameters log t k versions ≡ None → AreFit (run unannotated log t k versions)
  run_fit t zero versions are none = are (log.version t zero)
  run_fit t (suc k) versions are none =
      let both = none_parts (run_stop unannotated parameters log t k versions) (statement_stop unannotated parameters t (suc k) (log.statement t (suc k)) (run_before unannotated log t k versions)) none in
      stepped_fit t (suc k) (log.statement t (suc k)) (run_before unannotated log t k versions) (logged_fits catalogue t (suc k) entries fits) both.1
      (refreshed_fit versions are (log.version t k) (log.version t (suc k)) (run unannotated log t k versions) (run_fit t k versions are both.0))

  -- ---- commits

  next_fit : (newest view : Rows) (written : List Written) → AreFit newest → AreFit view → AreFit (next_version newest view written)
  next_fit newest view written old own table =
      each_map (IsFit table) (IsFit table) unmarked (λ row is. (record { cells = is.0.cells; small = is.0.small }, is.1)) (merged newest view written table)
      (each_append (IsFit table) _ _
      (each_filter (IsFit table) (IsFit table) (λ row. not (is_written table row.identity written)) (λ row kept is. is) (newest table) (old table))
      (each_filter (IsFit table) (IsFit table) (λ row. is_written table row.identity written) (λ row kept is. is) (view table) (own table)))

  module _ (count : ℕ) where
    abbrev made : ℕ → Replay (Unit {0})
    made u = replayed unannotated log count u

    made_fit : (u : ℕ) → replay_stop unannotated log parameters count u ≡ None → (version : ℕ) → AreFit ((made u).committed version)
    made_fit zero none version = λ table. tt
    made_fit (suc u) none version =
        let t : ℕ = log.committer (suc u) in
        let both = none_parts (replay_stop unannotated log parameters count u) (version_stop unannotated log parameters count u) none in
        let seen : Seen (Unit {0}) = rerun unannotated log t (made u).committed in
        let before = made_fit u both.0 in
        elim (version == suc u) as (λ b. AreFit (cond b (next_version ((made u).committed u) seen.view (pairs seen.written)) ((made u).committed version))) [
          | true ↦ next_fit ((made u).committed u) seen.view (pairs seen.written) (before u) (run_fit t (log.statement_count t) (made u).committed before (unstopped (suc u) _ _ _ both.1).runs)
          | false ↦ before version
        ]

    upto_fit : (n : ℕ) (committed : Environment (Unit {0})) (written : ℕ → List Written) → ((version : ℕ) → AreFit (committed version)) → (table m : ℕ)
        → AllByRecursion (SpanFits (width_of catalogue table)) (spans_upto n committed written table m)
    upto_fit n committed written are table zero = tt
    upto_fit n committed written are table (suc m) =
        each_append (SpanFits (width_of catalogue table)) _ _ (upto_fit n committed written are table m)
        (each_map (SpanFits (width_of catalogue table)) (IsFit table) (span_from n committed written table (suc m))
        (λ row is. record { cells = fits_row (width_of catalogue table) row.cells is.1 is.0.cells; small = is.0.small })
        (filter (λ row. is_written table row.identity (written (suc m))) (committed (suc m) table))
        (each_filter (IsFit table) (IsFit table) (λ row. is_written table row.identity (written (suc m))) (λ row kept is. is) (committed (suc m) table) (are (suc m) table)))

    pub spans_made_fit : (u : ℕ) → replay_stop unannotated log parameters count u ≡ None → SpansFit catalogue (λ place. replayed_spans unannotated log count u place)
    spans_made_fit u none table = upto_fit u (made u).committed (made u).written (made_fit u none) table u
