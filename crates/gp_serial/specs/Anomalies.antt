-- Part of the statement: the anomalies of a history: cycles of what comes before what, one for each pair of transactions that goes back. Each has a name, and a reason
-- for each of its steps.
use Rattle.std.specs.Prelude.{ℕ, ◌==◌, ◌&&◌, ◌||◌, nat_lt, not, Bool, false, List, [], ◌∷◌, filter, length, map, slice_get, Option, Some, None, is_none, is_some, if◌then◌else◌}
use Rattle.std.specs.List.{flat_map, list_any}
use Rattle.std.specs.Option.{option_map, option_map_or, option_or}
use Rattle.gp_base.specs.declared.refusal.Refusal.{Refusal}
use Rattle.gp_base.specs.declared.refusal.Refusal.TheVariants.{E27}
use Rattle.gp_base.specs.declared.table.Table.{Table}
use Rattle.gp_machine.specs.Entries.{Entry, version_of, versions_in}
use Rattle.gp_machine.specs.Parameters.{Parameters}
use Rattle.gp_machine.specs.Precedence.{ReadAfter, ReadBefore, Reason, Wrote, changes_by, is_before, read_after, read_before, same_row, wrote_before}
use Rattle.gp_machine.specs.RowChanges.{RowChange}
use Rattle.gp_versions.specs.declared.span.Span.{Span}
use Rattle.gp_serial.specs.declared.anomaly.AnomalyName.{AnomalyName}
use Rattle.gp_serial.specs.declared.anomaly.AnomalyName.TheVariants.{LostUpdate, ReadOnly, ReadSkew, WriteSkew}
use Rattle.gp_serial.specs.PairCycles.{line_count, pairs_of, pair_cycles}
use Rattle.gp_serial.specs.Serializing.{Step, by_number, runs_refusal, step_of}

-- a cycle by its steps
pub record Anomaly : Type 0 where
  pub name : AnomalyName
  pub phantom : Bool
  pub steps : List Step

pub data Anomalies : Type 0 where
  Found : List Anomaly → Anomalies
  Refused : Refusal → Anomalies

-- what is told of two transactions, and of one
pub record Facts : Type 0 where
  -- the step from one to the other
  pub step : ℕ → ℕ → Step
  -- whether one is before the other by nothing but what it read
  pub alone : ℕ → ℕ → Bool
  -- the update of the other that one lost: its read of a row, and both writes
  pub update : ℕ → ℕ → Option (Reason × Reason)
  -- whether a transaction wrote nothing
  pub idle : ℕ → Bool

abbrev pub is_empty : {A : Type 0} → List A → Bool
is_empty list = length list == 0

abbrev pub is_later : Option ℕ → Option ℕ → Bool
is_later (Some version) (Some other) = nat_lt other version
is_later version other = false

-- a row that is missing on one side
abbrev pub comes_or_goes : RowChange → Bool
comes_or_goes change = is_none change.before || is_none change.after

abbrev pub reads_a_phantom : Reason → Bool
reads_a_phantom (ReadBefore k change) = comes_or_goes change
reads_a_phantom reason = false

-- a read of a row
abbrev pub reads_row : RowChange → Reason → Bool
reads_row change (ReadBefore k read) = same_row change read
reads_row change (ReadAfter k read) = same_row change read
reads_row change reason = false

-- a read of the row that a transaction wrote before another one
abbrev pub reads_written : Reason → Reason → Bool
reads_written (Wrote change other) reason = reads_row change reason
reads_written wrote reason = false

-- ---- two transactions

module _ (tables : List Table) (entries : List Entry) (changes : List RowChange) where
  -- it is before one that made a lesser version
  abbrev pub goes_back : ℕ → ℕ → Bool
  goes_back a b = is_before tables entries changes a b && is_later (version_of a entries) (version_of b entries)

  abbrev pub cycles : List (List ℕ)
  cycles = pair_cycles (is_before tables entries changes) (by_number entries) goes_back

  -- of one that is before another: nothing holds but that it read what was before the other's commit
  abbrev pub only_read : ℕ → ℕ → Bool
  only_read a b = is_empty (read_after tables entries changes a b) && is_empty (wrote_before tables entries changes a b)

  -- the rows that b wrote before a did, where a looked at nothing that b made of it
  abbrev pub unseen : ℕ → ℕ → List Reason
  unseen a b = filter (λ wrote. not (list_any (reads_written wrote) (read_after tables entries changes b a))) (wrote_before tables entries changes b a)

  -- and which a had read before b wrote them: each by both reasons
  abbrev pub lost : ℕ → ℕ → List (Reason × Reason)
  lost a b = flat_map (λ wrote. map (λ read. (read, wrote)) (filter (reads_written wrote) (read_before tables entries changes a b))) (unseen a b)

  abbrev pub facts : Facts
  facts = record {
    step = step_of tables entries changes;
    alone = only_read;
    update = λ a b. slice_get (lost a b) 0;
    idle = λ t. is_empty (changes_by tables entries changes t);
  }

-- ---- a cycle

abbrev pub own_step : ℕ → ℕ → Reason → Step
own_step a b reason = record { first = a; next = b; reason = Some reason }

module _ (facts : Facts) where
  abbrev pub steps_between : List (ℕ × ℕ) → List Step
  steps_between = map (λ (pair : ℕ × ℕ). facts.step pair.0 pair.1)

  -- the steps of a lost update, by its first row
  abbrev pub lost_steps : List ℕ → Option (List Step)
  lost_steps (a ∷ b ∷ []) =
      option_or (option_map (λ (two : Reason × Reason). own_step a b two.0 ∷ own_step b a two.1 ∷ []) (facts.update a b))
      (option_map (λ (two : Reason × Reason). own_step a b two.1 ∷ own_step b a two.0 ∷ []) (facts.update b a))
  lost_steps cycle = None

  -- how many steps hold by nothing but a read before a commit
  abbrev pub reads_alone : List (ℕ × ℕ) → ℕ
  reads_alone pairs = length (filter (λ (pair : ℕ × ℕ). facts.alone pair.0 pair.1) pairs)

  -- the first name that fits, of a cycle that is no lost update
  abbrev pub name_of : List ℕ → AnomalyName
  name_of cycle =
      if reads_alone (pairs_of cycle) == 1 then ReadSkew
      else if nat_lt 2 (length cycle) && list_any facts.idle cycle then ReadOnly
      else WriteSkew

  abbrev pub is_phantom : Step → Bool
  is_phantom step = facts.alone step.first step.next && option_map_or reads_a_phantom step.reason false

  abbrev pub by_steps : AnomalyName → List Step → Anomaly
  by_steps name steps = record { name = name; phantom = list_any is_phantom steps; steps = steps }

  abbrev pub anomaly_of : List ℕ → Anomaly
  anomaly_of cycle = option_map_or (by_steps LostUpdate) (lost_steps cycle) (by_steps (name_of cycle) (steps_between (pairs_of cycle)))

-- ---- all of them

module _ (tables : List Table) (entries : List Entry) (changes : List RowChange) where
  abbrev pub found : Parameters → Anomalies
  found parameters = if nat_lt parameters.answer (line_count (cycles tables entries changes)) then Refused E27 else Found (map (anomaly_of (facts tables entries changes)) (cycles tables entries changes))

  abbrev pub anomalies_of : Parameters → (ℕ → List Span) → Anomalies
  anomalies_of parameters spans = option_map_or Refused (runs_refusal parameters entries spans (versions_in entries)) (found parameters)
