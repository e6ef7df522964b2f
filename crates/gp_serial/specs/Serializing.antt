-- Part of the statement: whether the transactions that committed could have run one after another. Where which comes before which has no cycle, the order that keeps
-- it is tried: they run in it, and are compared with what they did.
use Rattle.std.specs.Prelude.{ℕ, zero, suc, ◌==◌, ◌&&◌, List, [], ◌∷◌, filter, length, is_some, slice_get, Option, None, if◌then◌else◌}
use Rattle.std.specs.Option.{option_map, option_or}
use Rattle.gp_base.specs.declared.refusal.Refusal.{Refusal}
use Rattle.gp_base.specs.Annotated.{unannotated}
use Rattle.gp_base.specs.declared.table.Table.{Table}
use Rattle.gp_machine.specs.Entries.{Entry, committer_of, log_of, statement_count, transactions_in, version_of}
use Rattle.gp_machine.specs.HistorySpans.{as_of}
use Rattle.gp_machine.specs.Parameters.{Parameters}
use Rattle.gp_machine.specs.Points.{run_stop}
use Rattle.gp_machine.specs.Precedence.{Reason, is_before, numbers, reasons}
use Rattle.gp_machine.specs.Questions.{stop_refusal}
use Rattle.gp_machine.specs.RowChanges.{RowChange}
use Rattle.gp_machine.specs.SerialForms.{committers}
use Rattle.gp_machine.specs.SerialRuns.{is_serial}
use Rattle.gp_versions.specs.declared.span.Span.{Span}
use Rattle.gp_serial.specs.Graphs.{least_cycle, order_of}

-- E25 or E26 of the transactions that made the first versions, this many, over the row versions
abbrev pub runs_refusal : Parameters → List Entry → (ℕ → List Span) → ℕ → Option Refusal
runs_refusal parameters entries spans zero = None
runs_refusal parameters entries spans (suc u) =
    let t = committer_of (suc u) entries in
    option_or (runs_refusal parameters entries spans u)
    (option_map stop_refusal (run_stop unannotated parameters (log_of entries) t (statement_count t entries) (as_of unannotated spans)))

-- a transaction, the next one of a cycle, and why it comes before that one
pub record Step : Type 0 where
  pub first : ℕ
  pub next : ℕ
  pub reason : Option Reason

pub data Serial : Type 0 where
  InOrder : List ℕ → Serial
  InCycle : List Step → Serial
  Undecided : Serial

-- the transactions that committed, in the order of their numbers
abbrev pub by_number : List Entry → List ℕ
by_number entries = filter (λ t. is_some (version_of t entries)) (numbers (transactions_in entries))

module _ (tables : List Table) (entries : List Entry) (changes : List RowChange) where
  abbrev pub step_of : ℕ → ℕ → Step
  step_of a b = record { first = a; next = b; reason = slice_get (reasons tables entries changes a b) 0 }

  -- from each to the next one, and from the last to this one
  abbrev pub steps_to : ℕ → List ℕ → List Step
  steps_to first [] = []
  steps_to first (a ∷ []) = step_of a first ∷ []
  steps_to first (a ∷ b ∷ others) = step_of a b ∷ steps_to first (b ∷ others)

  abbrev pub steps_of : List ℕ → List Step
  steps_of [] = []
  steps_of (first ∷ others) = steps_to first (first ∷ others)

  -- the order that keeps what comes before what, if it has all of them and they do so what they did; given the row versions
  abbrev pub in_order : Parameters → (ℕ → List Span) → List ℕ → Serial
  in_order parameters spans order =
      if (length order == length (committers entries)) && is_serial parameters (log_of entries) (length tables) (as_of unannotated spans) order then InOrder order else Undecided

  -- given the first of the shortest cycles
  abbrev pub serial_by : Parameters → (ℕ → List Span) → List ℕ → Serial
  serial_by parameters spans [] = in_order parameters spans (order_of (is_before tables entries changes) (committers entries))
  serial_by parameters spans (first ∷ others) = InCycle (steps_of (first ∷ others))

  abbrev pub serial_of : Parameters → (ℕ → List Span) → Serial
  serial_of parameters spans = serial_by parameters spans (least_cycle (is_before tables entries changes) (by_number entries))
