-- Part of the statement: the answer to SERIAL, from a dump alone. A history held the same: its own dump decides it.
use Rattle.std.specs.Prelude.{ℕ, List, [], ◌∷◌, map, codes}
use Rattle.std.specs.Fmt.{decimal}
use Rattle.std.specs.List.{concat}
use Rattle.std.specs.Option.{option_map_or}
use Rattle.gp_base.specs.declared.table.Table.{Table}
use Rattle.gp_base.specs.Identities.{identity_text}
use Rattle.gp_dump.specs.Dumps.{Dump}
use Rattle.gp_log.specs.LogFacts.{tables_in}
use Rattle.gp_log.specs.Parameters.{parameters}
use Rattle.gp_machine.specs.Entries.{Entry, statement_version, versions_in}
use Rattle.gp_machine.specs.Event.{name_at}
use Rattle.gp_machine.specs.Precedence.{Reason, ReadAfter, ReadBefore, Wrote}
use Rattle.gp_machine.specs.RowChanges.{RowChange, tables_changes}
use Rattle.gp_serial.specs.Serializing.{InCycle, InOrder, Serial, Step, Undecided, runs_refusal, serial_of}
use Rattle.gp_ask.specs.declared.answered.Answered.{Answered}
use Rattle.gp_ask.specs.declared.answered.Answered.TheVariants as answered
use Rattle.gp_ask.specs.declared.answered.Heading.TheVariants as heading
use Rattle.gp_ask.specs.Asking.{table_spans}
use Rattle.gp_ask.specs.Values.{unless_refused}

-- ---- texts

module _ (tables : List Table) where
  abbrev pub changed_row_text : RowChange → List ℕ
  changed_row_text change = concat (name_at change.row.table tables ∷ codes " " ∷ identity_text change.row.identity ∷ [])

  -- two transactions that wrote a row
  abbrev pub writing_text : ℕ → ℕ → RowChange → RowChange → List ℕ
  writing_text first next change other =
      concat (decimal first ∷ codes " wrote " ∷ changed_row_text change ∷ codes " as " ∷ decimal change.version ∷ codes ", " ∷ decimal next ∷ codes " as " ∷ decimal other.version ∷ [])

  module _ (entries : List Entry) where
    -- a statement that read a row, at its version, and the transaction that wrote it
    abbrev pub reading_text : ℕ → ℕ → ℕ → RowChange → List ℕ
    reading_text reader k writer change =
        concat (decimal reader ∷ codes "." ∷ decimal k ∷ codes " read " ∷ changed_row_text change ∷ codes " at " ∷ decimal (statement_version reader k entries) ∷ codes ", "
        ∷ decimal writer ∷ codes " wrote it as " ∷ decimal change.version ∷ [])

    abbrev pub reason_text : ℕ → ℕ → Reason → List ℕ
    reason_text first next (ReadBefore k change) = reading_text first k next change
    reason_text first next (ReadAfter k change) = reading_text next k first change
    reason_text first next (Wrote change other) = writing_text first next change other

    abbrev pub step_text : Step → List ℕ
    step_text step =
        concat (decimal step.first ∷ codes " before " ∷ decimal step.next ∷ codes " : " ∷ option_map_or (reason_text step.first step.next) step.reason [] ∷ [])

    abbrev pub answered_serial : Serial → Answered
    answered_serial (InOrder order) = answered.Lines heading.Serial (map decimal order)
    answered_serial (InCycle steps) = answered.Lines heading.Cycle (map step_text steps)
    answered_serial Undecided = answered.Lines heading.Undecided []

-- ---- the answer

abbrev pub serial_answer : Dump → Answered
serial_answer dump =
    let tables = tables_in dump.entries in
    let spans = table_spans dump.tables in
    unless_refused (runs_refusal parameters dump.entries spans (versions_in dump.entries))
    (answered_serial tables dump.entries (serial_of tables dump.entries (tables_changes 0 dump.tables) parameters spans))
