-- A program that ends in a table, run over the scans that it has asked for.
use Rattle.std.proofs.Common.{◌≡◌, ℕ, zero, suc, ◌==◌, ◌&&◌, true, false, cond, List, [], ◌∷◌, refl, sym, ap, ◌∙◌, subst, arith, Result, Ok, Err}
use Rattle.std.proofs.lemmas.Bool.{and_parts, eq-eqb, eqb-true}
use Rattle.std.proofs.lemmas.List.Sorted.{IsPermutation-refl}
use Rattle.std.specs.List.Sorted.{IsPermutation}
use Rattle.gp_algebra.specs.Plain.{PlainEnvironment, PlainProgram, program_meaning}
use Rattle.gp_algebra.specs.Stops.{program_stop}
use Rattle.gp_base.specs.declared.cell.Cell.{Cell}
use Rattle.gp_base.specs.declared.row_id.TheConstants.{MAX_NODES}
use Rattle.gp_exec.specs.Running.{RunsTable, environment_view, scanned_rows}
use Rattle.gp_exec.specs.declared.env.Env.{Env}
use Rattle.gp_exec.specs.declared.error.ExecStop.{ExecStop}
use Rattle.gp_exec.specs.declared.error.ExecStop.TheVariants.{Ancestry, Answer, NoMemory, Rows}
use Rattle.gp_algebra.specs.Scans.{AgreeOn}
use Rattle.gp_algebra.specs.declared.plain.ScanAt.{ScanAt}
use Rattle.gp_history.specs.Running.{RunsTableOver}
use Rattle.gp_history.specs.Scanning.{scans_at}

pub runs_over : {X : Type 0} (most : ℕ) (view : X → List (List Cell)) (result : Result X ExecStop) (scanned : Env) (env : PlainEnvironment) (program meant : PlainProgram)
    → program_meaning (environment_view scanned) program ≡ program_meaning env meant
    → program_stop most MAX_NODES (environment_view scanned) program ≡ program_stop most MAX_NODES env meant
    → RunsTable most view result scanned program → RunsTableOver most view result env meant
runs_over most view (Ok found) scanned env program meant same_rows same_stop runs = (sym same_stop ∙ runs.0, subst (λ rows. IsPermutation (view found) rows) (runs.1 ∙ same_rows) (IsPermutation-refl (view found)))
runs_over most view (Err (Rows j)) scanned env program meant same_rows same_stop runs = sym same_stop ∙ runs
runs_over most view (Err (Ancestry j)) scanned env program meant same_rows same_stop runs = sym same_stop ∙ runs
runs_over most view (Err Answer) scanned env program meant same_rows same_stop runs = runs
runs_over most view (Err NoMemory) scanned env program meant same_rows same_stop runs = tt

-- ---- scans of an environment

found_first : (env : PlainEnvironment) (at : ScanAt) (others : List ScanAt) → scanned_rows (scans_at env (at ∷ others)) at.version at.table ≡ env at.version at.table
found_first env at others = rw (eq-eqb at.version at.version refl, eq-eqb at.table at.table refl) refl

-- the first scan of a table in a version has its rows
pub scans_found : (env : PlainEnvironment) (scans : List ScanAt) → AgreeOn scans (scanned_rows (scans_at env scans)) env
scans_found env [] scan (k, within, is) = absurd (omega arith)
scans_found env (at ∷ others) scan (zero, within, is) = rw (sym is) (found_first env at others)
scans_found env (at ∷ others) scan (suc k, within, is) =
    elim ((at.version == scan.version) && (at.table == scan.table)) as (λ c. ((at.version == scan.version) && (at.table == scan.table)) ≡ c → cond c (env at.version at.table) (scanned_rows (scans_at env others) scan.version scan.table) ≡ env scan.version scan.table) [
      | true ↦ λ same.
          let parts = and_parts (at.version == scan.version) (at.table == scan.table) same in
          ap (λ (version : ℕ). env version at.table) (eqb-true at.version scan.version parts.0) ∙ ap (λ (table : ℕ). env scan.version table) (eqb-true at.table scan.table parts.1)
      | false ↦ λ other. scans_found env others scan (k, omega arith, is)
    ] refl
