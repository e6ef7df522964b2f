-- Part of the laws of anomalies: what the steps of an anomaly show.
use Rattle.std.specs.Prelude.{◌≡◌, ℕ, List, map, Contains, Option, Some}
use Rattle.std.specs.List.{AllByRecursion}
use Rattle.gp_base.specs.declared.table.Table.{Table}
use Rattle.gp_machine.specs.Entries.{Entry}
use Rattle.gp_machine.specs.Precedence.{Reason, reasons}
use Rattle.gp_machine.specs.RowChanges.{RowChange}
use Rattle.gp_serial.specs.Anomalies.{Anomaly}
use Rattle.gp_serial.specs.PairCycles.{pairs_of}
use Rattle.gp_serial.specs.Serializing.{Step}

module _ (tables : List Table) (entries : List Entry) (changes : List RowChange) where
  -- a reason is shown, and it is one
  pub record IsHeld (step : Step) : Type 0 where
    pub reason : Reason
    pub is : step.reason ≡ Some reason
    pub holds : Contains (reasons tables entries changes step.first step.next) reason

  -- a step for each pair of neighbours
  pub record IsShown (cycle : List ℕ) (anomaly : Anomaly) : Type 0 where
    pub pairs : map (λ (step : Step). (step.first, step.next)) anomaly.steps ≡ pairs_of cycle
    pub each : AllByRecursion IsHeld anomaly.steps
