-- Of the contracts of `reenact` and `saw`: what reenactment answers: the rows of the database of a state, in any order, or the refusal that is due. Running out
-- of memory says nothing.
use Rattle.std.specs.Prelude.{◌≡◌, ◌<◌, ◌≤◌, ℕ, zero, List, length, Option, Some, None, Result, Ok, Err, slice_index_or}
use Rattle.std.specs.List.Sorted.{IsPermutation}
use Rattle.gp_base.specs.declared.cell.Cell.{Cell}
use Rattle.gp_base.specs.declared.refusal.Refusal.{Refusal}
use Rattle.gp_base.specs.declared.refusal.Refusal.TheVariants.{E25, E26, E27}
use Rattle.gp_base.specs.declared.row_id.TheConstants.{MAX_NODES}
use Rattle.gp_grammar.specs.Syntax as y
use Rattle.gp_algebra.specs.Answers.{Element, cells_of}
use Rattle.gp_algebra.specs.Plain.{PlainEnvironment, PlainProgram, program_meaning}
use Rattle.gp_algebra.specs.Stops.{rows, ancestry, program_stop}
use Rattle.gp_exec.specs.declared.error.ExecStop.{ExecStop}
use Rattle.gp_exec.specs.declared.error.ExecStop.TheVariants as exec
use Rattle.gp_base.specs.declared.limit.TheConstants.{MAX_TABLE_ROWS, MAX_ANSWER_ROWS}
use Rattle.gp_reenact.specs.Travel.{no_table}
use Rattle.gp_versions.specs.declared.span.Span.{Span}
use Rattle.gp_versions.specs.Spans.{Versions}
use Rattle.gp_base.specs.declared.stop.Stop.{Stop}
use Rattle.gp_base.specs.declared.stop.Stop.TheVariants.{Refused, NoMemory}

-- the row versions of each table; a table that is not there has none
abbrev pub spans_of : List Versions → ℕ → List Span
spans_of versions table = (slice_index_or versions table no_table).spans

abbrev pub Reenacts : {X M : Type 0} → (X → List (List Cell)) → Result X Stop → Result (List (Element M)) Refusal → Type 0
Reenacts view (Ok found) (Ok elements) = IsPermutation (view found) (cells_of elements)
Reenacts view (Ok found) (Err expected) = ⊥
Reenacts view (Err (Refused refusal)) (Ok elements) = ⊥
Reenacts view (Err (Refused refusal)) (Err expected) = refusal ≡ expected
Reenacts view (Err NoMemory) expected = Unit {0}

-- it is that of a state, or the log gives the refusal
abbrev pub Plans : {X : Type 0} → (X → PlainProgram) → Result X Stop → Option Refusal → PlainProgram → Type 0
Plans view (Ok found) expected program = (expected ≡ None) × (view found ≡ program)
Plans view (Err (Refused refusal)) expected program = expected ≡ Some refusal
Plans view (Err NoMemory) expected program = Unit {0}

-- ---- a plain program over an environment

-- its rows in any order, unless one of its steps stops or they are too many
abbrev pub RunsOver : {X : Type 0} → (X → List (List Cell)) → Result X ExecStop → PlainEnvironment → PlainProgram → Type 0
RunsOver view (Ok found) env program =
    (program_stop MAX_TABLE_ROWS MAX_NODES env program ≡ None)
    × (IsPermutation (view found) (program_meaning env program) × (length (program_meaning env program) ≤ MAX_ANSWER_ROWS))
RunsOver view (Err (exec.Rows j)) env program = program_stop MAX_TABLE_ROWS MAX_NODES env program ≡ Some (rows j)
RunsOver view (Err (exec.Ancestry j)) env program = program_stop MAX_TABLE_ROWS MAX_NODES env program ≡ Some (ancestry j)
RunsOver view (Err exec.Answer) env program =
    (program_stop MAX_TABLE_ROWS MAX_NODES env program ≡ None) × (MAX_ANSWER_ROWS < length (program_meaning env program))
RunsOver view (Err exec.NoMemory) env program = Unit {0}

-- ---- refusals

-- the transaction of a state; a version has none
abbrev pub transaction_at : y.Point → ℕ
transaction_at (y.as_of version) = zero
transaction_at (y.after t k) = t
transaction_at (y.Point.commit t) = t

-- the refusal of a state whose program stops; a step has the number of its statement
abbrev pub stopped : ℕ → ExecStop → Stop
stopped t (exec.Rows j) = Refused (E25 t j)
stopped t (exec.Ancestry j) = Refused (E26 t j)
stopped t exec.Answer = Refused E27
stopped t exec.NoMemory = NoMemory
