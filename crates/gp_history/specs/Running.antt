-- Machinery: what a program gives over an environment: a plain one the rows of a table, an annotated one sums of elements.
use Rattle.std.specs.Prelude.{◌≡◌, ◌<◌, ◌≤◌, ℕ, length, List, Some, None, Result, Ok, Err}
use Rattle.std.specs.List.Sorted.{IsPermutation}
use Rattle.gp_base.specs.declared.cell.Cell.{Cell}
use Rattle.gp_base.specs.declared.row_id.TheConstants.{MAX_NODES}
use Rattle.gp_base.specs.Annotated.{Annotations, Environment}
use Rattle.gp_base.specs.Order.{row_cmp}
use Rattle.gp_algebra.specs.AnnotatedMeaning as qm
use Rattle.gp_algebra.specs.AnnotatedQueries.{Program}
use Rattle.gp_algebra.specs.Plain.{PlainEnvironment, PlainProgram, program_meaning}
use Rattle.gp_algebra.specs.Stops.{rows, ancestry, program_stop}
use Rattle.gp_exec.specs.declared.error.ExecStop.{ExecStop}
use Rattle.gp_exec.specs.declared.error.ExecStop.TheVariants as exec
use Rattle.gp_base.specs.declared.limit.TheConstants.{MAX_ANSWER_ROWS, MAX_TABLE_ROWS}
use Rattle.gp_kexec.specs.AnnotatedStops as k
use Rattle.gp_kexec.specs.Rows.{pairs_of}
use Rattle.gp_semiring.specs.Sums.{summed}

-- the rows in any order, unless a step stops; an INSERT may leave this many rows
abbrev pub RunsTableOver : {X : Type 0} → ℕ → (X → List (List Cell)) → Result X ExecStop → PlainEnvironment → PlainProgram → Type 0
RunsTableOver most view (Ok found) env program =
    (program_stop most MAX_NODES env program ≡ None) × IsPermutation (view found) (program_meaning env program)
RunsTableOver most view (Err (exec.Rows j)) env program = program_stop most MAX_NODES env program ≡ Some (rows j)
RunsTableOver most view (Err (exec.Ancestry j)) env program = program_stop most MAX_NODES env program ≡ Some (ancestry j)
RunsTableOver most view (Err exec.Answer) env program = ⊥
RunsTableOver most view (Err exec.NoMemory) env program = Unit {0}

module _ {K : Type 0} (domain : Annotations K) where
  -- the distinct rows of the last query in ascending order, each with the sum of its elements, unless a step stops, or no step stops and there are too many
  abbrev pub SumsOver : {X : Type 0} → (K → K → K) → (X → List (List Cell × K)) → Result X ExecStop → Environment K → Program → Type 0
  SumsOver plus view (Ok found) env program =
      (k.program_stop domain MAX_TABLE_ROWS MAX_NODES env program ≡ None)
      × ((view found ≡ summed row_cmp plus (pairs_of (qm.program_meaning domain env program)))
      × (length (summed row_cmp plus (pairs_of (qm.program_meaning domain env program))) ≤ MAX_ANSWER_ROWS))
  SumsOver plus view (Err (exec.Rows j)) env program = k.program_stop domain MAX_TABLE_ROWS MAX_NODES env program ≡ Some (rows j)
  SumsOver plus view (Err (exec.Ancestry j)) env program = k.program_stop domain MAX_TABLE_ROWS MAX_NODES env program ≡ Some (ancestry j)
  SumsOver plus view (Err exec.Answer) env program =
      (k.program_stop domain MAX_TABLE_ROWS MAX_NODES env program ≡ None)
      × (MAX_ANSWER_ROWS < length (summed row_cmp plus (pairs_of (qm.program_meaning domain env program))))
  SumsOver plus view (Err exec.NoMemory) env program = Unit {0}
