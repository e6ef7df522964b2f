-- A commit that would be lost, when the commits of a log are made again, is of a version of the log, to an earlier version, and on a table of the log.
use Rattle.std.proofs.Common.{◌≡◌, ℕ, zero, suc, ◌<◌, ◌≤◌, Bool, true, false, List, [], ◌∷◌, length, map, Option, Some, None, refl, sym, ap, ◌∙◌, subst, ⊎_elim, arith}
use Rattle.std.specs.Prelude.{◌&&◌}
use Rattle.std.specs.List.{AllByRecursion, filter, list_all}
use Rattle.std.specs.Option.{option_or}
use Rattle.std.proofs.lemmas.Bool.{and_parts, ltb-true}
use Rattle.gp_base.specs.Annotated.{Annotated, Database, Environment, unannotated}
use Rattle.gp_algebra.specs.Effects.{Written, wrote, written_in}
use Rattle.gp_algebra.specs.Fitting.{branches_fit, cond_fits, is_countable, is_there, row_fits, set_fits, statement_fits}
use Rattle.gp_algebra.specs.Statements.{width_of}
use Rattle.gp_algebra.specs.Statements.{Statement, insert, insert_select, update, delete, read}
use Rattle.gp_machine.specs.Bases.{Based, is_new, with_base}
use Rattle.gp_machine.specs.Conflicts.{Conflict, least_conflict}
use Rattle.gp_machine.specs.ConflictForms.{IsBased, IsLeastConflict}
use Rattle.gp_machine.specs.Entries.{Entry, committer_of, log_of, statement_at, statement_count, statement_version}
use Rattle.gp_machine.specs.Points.{RunStop, run_stop}
use Rattle.gp_machine.specs.Reading.{wrote_by}
use Rattle.gp_machine.specs.Replaying.{Loses, ReplayStop, first_stop, replay_stop, replayed, rerun, run_written, version_stop}
use Rattle.gp_machine.specs.Runs.{run_before}
use Rattle.gp_machine.proofs.Distinct.{each_all, each_filter}
use Rattle.gp_log.specs.Parameters.{parameters}
use Rattle.gp_log.specs.LogFacts.{tables_in}
use Rattle.gp_log.specs.LogFitting.{statements_fit}
use Rattle.gp_whatif.specs.Replays.{stop_upto}
use Rattle.gp_log.proofs.FittingLogs.{statement_at_fits}
use Rattle.gp_base.proofs.SmallLemmas.{each_append, each_map}

-- the versions and the table of a commit that is lost
pub record IsLost (entries : List Entry) (n version : ℕ) (conflict : Conflict) : Type 0 where
  pub first : 0 < version
  pub within : version ≤ n
  pub other_first : 0 < conflict.version
  pub other_within : conflict.version ≤ n
  pub table : conflict.pair.table < length (tables_in entries)

module _ (entries : List Entry) (fits : statements_fit (tables_in entries) entries ≡ true) where
  abbrev IsThere : Written → Type 0
  IsThere pair = pair.table < length (tables_in entries)

  abbrev IsBasedThere : Based → Type 0
  IsBasedThere based = IsThere based.pair

  -- ---- the rows that a statement writes

  rows_there : (table : ℕ) (rows : List (Annotated (Unit {0}))) → is_there (tables_in entries) table ≡ true → AllByRecursion IsThere (written_in table rows)
  rows_there table rows there =
      each_map IsThere (λ row. Unit {0}) (λ (row : Annotated (Unit {0})). record { table = table; identity = row.identity }) (λ row is. ltb-true table (length (tables_in entries)) there) rows
      (each_all (λ row. Unit {0}) (λ row. tt) rows)

  wrote_there : (t k : ℕ) (statement : Statement) (db : Database (Unit {0})) → statement_fits (tables_in entries) statement ≡ true → AllByRecursion IsThere (wrote unannotated t k statement db)
  wrote_there t k (insert table rows) db fit =
      rows_there table _ (and_parts (is_there (tables_in entries) table) (is_countable rows && list_all (row_fits (width_of (tables_in entries) table)) rows) fit).0
  wrote_there t k (insert_select table select) db fit = rows_there table _ (and_parts (is_there (tables_in entries) table) (branches_fit (tables_in entries) (width_of (tables_in entries) table) select) fit).0
  wrote_there t k (update table sets c) db fit =
      rows_there table _ (and_parts (is_there (tables_in entries) table) (list_all (set_fits (width_of (tables_in entries) table)) sets && cond_fits (width_of (tables_in entries) table) c) fit).0
  wrote_there t k (delete table c) db fit = rows_there table _ (and_parts (is_there (tables_in entries) table) (cond_fits (width_of (tables_in entries) table) c) fit).0
  wrote_there t k (read select) db fit = tt

  found_there : (t k : ℕ) (found : Option Statement) → statement_at t k entries ≡ found → (db : Database (Unit {0})) → AllByRecursion IsThere (wrote_by unannotated t k found db)
  found_there t k None is db = tt
  found_there t k (Some statement) is db = wrote_there t k statement db (statement_at_fits (tables_in entries) entries fits t k statement is)

  -- ---- the rows that a transaction writes

  run_there : (t k : ℕ) (versions : Environment (Unit {0})) → AllByRecursion IsBasedThere (run_written unannotated (log_of entries) t k versions)
  run_there t zero versions = tt
  run_there t (suc k) versions =
      let before = run_written unannotated (log_of entries) t k versions in
      let db = run_before unannotated (log_of entries) t k versions in
      each_append IsBasedThere before _ (run_there t k versions)
      (each_map IsBasedThere IsThere (with_base (statement_version t (suc k) entries)) (λ pair is. is) _
      (each_filter IsThere IsThere (is_new before) (λ pair kept is. is) (wrote_by unannotated t (suc k) (statement_at t (suc k) entries) db)
      (found_there t (suc k) (statement_at t (suc k) entries) refl db)))

  among_there : (all : List Based) → AllByRecursion IsBasedThere all → (based : Based) → IsBased based all → IsBasedThere based
  among_there [] are based among = absurd among
  among_there (other ∷ others) are based among = ⊎_elim (λ (same : based ≡ other). subst IsBasedThere (sym same) are.0) (λ later. among_there others are.1 based later) among

  -- ---- the first stop

  module _ (least : (written : ℕ → List Written) (versions : ℕ) (all : List Based) (conflict : Conflict) → least_conflict written versions all ≡ Some conflict → IsLeastConflict written versions all conflict) where
    lost_here : (u version : ℕ) (conflict : Conflict) (run : Option RunStop) (found : Option Conflict) (full : Bool)
        → least_conflict (replayed unannotated (log_of entries) (length (tables_in entries)) u).written u
        (rerun unannotated (log_of entries) (committer_of (suc u) entries) (replayed unannotated (log_of entries) (length (tables_in entries)) u).committed).written ≡ found
        → first_stop (suc u) run found full ≡ Some (Loses version conflict) → IsLost entries (suc u) version conflict
    lost_here u version conflict (Some stop) found full is e = absurd cc
    lost_here u version conflict None None true is e = absurd cc
    lost_here u version conflict None None false is e = absurd cc
    lost_here u version conflict None (Some other) full is e =
        let t = committer_of (suc u) entries in
        let before = replayed unannotated (log_of entries) (length (tables_in entries)) u in
        let number : suc u ≡ version = cc in
        let same : other ≡ conflict = cc in
        let conflicts = least before.written u (rerun unannotated (log_of entries) t before.committed).written conflict (is ∙ ap Some same) in
        record {
          first = omega (arith, number);
          within = omega (arith, number);
          other_first = omega (arith, conflicts.later);
          other_within = omega (arith, conflicts.there);
          table = among_there (rerun unannotated (log_of entries) t before.committed).written (run_there t (statement_count t entries) before.committed) _ conflicts.among;
        }

    wider : (u version : ℕ) (conflict : Conflict) → IsLost entries u version conflict → IsLost entries (suc u) version conflict
    wider u version conflict lost = record {
      first = lost.first;
      within = omega (arith, lost.within);
      other_first = lost.other_first;
      other_within = omega (arith, lost.other_within);
      table = lost.table;
    }

    lost_next : (u version : ℕ) (conflict : Conflict) (before next : Option ReplayStop)
        → (before ≡ Some (Loses version conflict) → IsLost entries (suc u) version conflict)
        → (next ≡ Some (Loses version conflict) → IsLost entries (suc u) version conflict)
        → option_or before next ≡ Some (Loses version conflict) → IsLost entries (suc u) version conflict
    lost_next u version conflict (Some stop) next one other is = one is
    lost_next u version conflict None next one other is = other is

    pub lost_is : (n version : ℕ) (conflict : Conflict) → stop_upto entries n ≡ Some (Loses version conflict) → IsLost entries n version conflict
    lost_is zero version conflict is = absurd cc
    lost_is (suc u) version conflict is =
        let t = committer_of (suc u) entries in
        let before = replayed unannotated (log_of entries) (length (tables_in entries)) u in
        lost_next u version conflict (stop_upto entries u) (version_stop unannotated (log_of entries) parameters (length (tables_in entries)) u) (λ e. wider u version conflict (lost_is u version conflict e))
        (lost_here u version conflict (run_stop unannotated parameters (log_of entries) t (statement_count t entries) before.committed)
        (least_conflict before.written u (rerun unannotated (log_of entries) t before.committed).written) _ refl)
        is
