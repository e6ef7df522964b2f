-- Of the contract of `looked`: the programs of what any transaction saw and of the rows by which one looks at a statement, and what running them answers.
use Rattle.std.specs.Prelude.{◌≡◌, ℕ, suc, List, [], ◌∷◌, ◌++◌, map, false, Some, None, Result, Ok, Err}
use Rattle.gp_base.specs.declared.cell.Cell.{Cell}
use Rattle.gp_base.specs.declared.cell.Cell.TheVariants as cell
use Rattle.gp_base.specs.declared.refusal.Refusal.{Refusal}
use Rattle.gp_base.specs.declared.limit.TheConstants.{MAX_TABLE_ROWS}
use Rattle.gp_base.specs.declared.row_id.TheConstants.{MAX_NODES}
use Rattle.gp_base.specs.Annotated.{Annotated, unannotated}
use Rattle.gp_algebra.specs.Plain.{PlainEnvironment, PlainProgram, program_meaning}
use Rattle.gp_algebra.specs.Statements.{Select, Statement, width_of}
use Rattle.gp_algebra.specs.Stops.{ancestry, program_stop, rows}
use Rattle.gp_compose.specs.Composed.{program_after}
use Rattle.gp_compose.specs.Composing.{looking_program}
use Rattle.gp_compose.specs.Seen.{looked_at}
use Rattle.gp_exec.specs.declared.error.ExecStop.{ExecStop}
use Rattle.gp_exec.specs.declared.error.ExecStop.TheVariants as exec
use Rattle.gp_log.specs.LogFacts.{tables_in}
use Rattle.gp_machine.specs.Entries.{Entry, log_of}
use Rattle.gp_machine.specs.HistorySpans.{as_of}
use Rattle.gp_machine.specs.Parameters.{Parameters}
use Rattle.gp_machine.specs.Questions.{given}
use Rattle.gp_machine.specs.Runs.{run_before}
use Rattle.gp_merge.specs.Merging.{merged}
use Rattle.gp_prov.specs.ToPlain.{plain_program}
use Rattle.gp_versions.specs.declared.span.Span.{Span}
use Rattle.gp_reenact.specs.Looking.{looked_refusal}
use Rattle.gp_base.specs.declared.stop.Stop.{Stop}
use Rattle.gp_base.specs.declared.stop.Stop.TheVariants.{Refused, NoMemory}

-- the program of a query over what the transaction saw after its first statements
abbrev pub saw_program : List Entry → ℕ → ℕ → Select → PlainProgram
saw_program entries t k select = merged (plain_program (width_of (tables_in entries)) false (program_after (width_of (tables_in entries)) (log_of entries) t k select))

-- a row with its identity and its mark behind its cells
abbrev pub system_row : Annotated (Unit {0}) → List Cell
system_row row = row.cells ++ cell.Id row.identity ∷ cell.Mark row.mark ∷ []

module _ (parameters : Parameters) (entries : List Entry) (spans : ℕ → List Span) (t k : ℕ) (statement : Statement) where
  -- the rows by which one looks at statement k + 1 of a transaction
  abbrev pub looked_rows : List (Annotated (Unit {0}))
  looked_rows = looked_at unannotated t (suc k) statement (run_before unannotated (log_of entries) t k (as_of unannotated spans))

  abbrev pub looked_answer : Result (List (List Cell)) Refusal
  looked_answer = given (looked_refusal parameters entries spans t k statement) (map system_row looked_rows)

-- their program
abbrev pub looked_program : List Entry → ℕ → ℕ → Statement → PlainProgram
looked_program entries t k statement = merged (plain_program (width_of (tables_in entries)) false (looking_program (width_of (tables_in entries)) (log_of entries) t k statement))

-- what looking answers: the rows, in the order of their table, or the refusal that is due
abbrev pub Looks : {X : Type 0} → (X → List (List Cell)) → Result X Stop → Result (List (List Cell)) Refusal → Type 0
Looks view (Ok found) (Ok list) = view found ≡ list
Looks view (Ok found) (Err expected) = ⊥
Looks view (Err (Refused refusal)) (Ok list) = ⊥
Looks view (Err (Refused refusal)) (Err expected) = refusal ≡ expected
Looks view (Err NoMemory) expected = Unit {0}

-- what running a program that ends in a table gives over past versions: its rows in order, unless one of its steps stops
abbrev pub EndsInTable : {X : Type 0} → (X → List (List Cell)) → Result X ExecStop → PlainProgram → PlainEnvironment → Type 0
EndsInTable view (Ok found) program past = (program_stop MAX_TABLE_ROWS MAX_NODES past program ≡ None) × (view found ≡ program_meaning past program)
EndsInTable view (Err (exec.Rows j)) program past = program_stop MAX_TABLE_ROWS MAX_NODES past program ≡ Some (rows j)
EndsInTable view (Err (exec.Ancestry j)) program past = program_stop MAX_TABLE_ROWS MAX_NODES past program ≡ Some (ancestry j)
EndsInTable view (Err exec.Answer) program past = ⊥
EndsInTable view (Err exec.NoMemory) program past = Unit {0}
