-- Part of the statement: the answer to ANOMALIES, from a dump alone. A history held the same: its own dump decides it.
use Rattle.std.specs.Prelude.{ℕ, Bool, List, [], ◌∷◌, map, codes, if◌then◌else◌}
use Rattle.std.specs.Fmt.{decimal}
use Rattle.std.specs.List.{concat, flat_map}
use Rattle.gp_base.specs.declared.table.Table.{Table}
use Rattle.gp_dump.specs.Dumps.{Dump}
use Rattle.gp_log.specs.LogFacts.{tables_in}
use Rattle.gp_log.specs.Parameters.{parameters}
use Rattle.gp_machine.specs.Entries.{Entry}
use Rattle.gp_machine.specs.RowChanges.{tables_changes}
use Rattle.gp_serial.specs.declared.anomaly.AnomalyName.{AnomalyName}
use Rattle.gp_serial.specs.declared.anomaly.AnomalyName.TheVariants.{LostUpdate, ReadOnly, ReadSkew, WriteSkew}
use Rattle.gp_serial.specs.Anomalies.{Anomalies, Anomaly, Found, Refused, anomalies_of}
use Rattle.gp_serial.specs.Serializing.{Step}
use Rattle.gp_ask.specs.declared.answered.AnomalyText.{AnomalyText}
use Rattle.gp_ask.specs.declared.answered.Answered.{Answered}
use Rattle.gp_ask.specs.declared.answered.Answered.TheVariants as answered
use Rattle.gp_ask.specs.Asking.{table_spans}
use Rattle.gp_ask.specs.SerialAnswers.{step_text}

-- ---- texts

abbrev pub name_text : AnomalyName → List ℕ
name_text LostUpdate = codes "lost update"
name_text ReadSkew = codes "read skew"
name_text ReadOnly = codes "read-only anomaly"
name_text WriteSkew = codes "write skew"

abbrev pub phantom_text : Bool → List ℕ
phantom_text phantom = if phantom then codes " phantom" else []

abbrev pub transaction_text : ℕ → List ℕ
transaction_text t = concat (codes " " ∷ decimal t ∷ [])

abbrev pub number_text : Step → List ℕ
number_text step = transaction_text step.first

-- a cycle by its name and its transactions
abbrev pub title_text : Anomaly → List ℕ
title_text anomaly = concat (name_text anomaly.name ∷ phantom_text anomaly.phantom ∷ codes " :" ∷ flat_map number_text anomaly.steps ∷ [])

module _ (tables : List Table) (entries : List Entry) where
  -- its steps are written as those of SERIAL are
  abbrev pub anomaly_text : Anomaly → AnomalyText
  anomaly_text anomaly = record { title = title_text anomaly; steps = map (step_text tables entries) anomaly.steps }

  abbrev pub answered_anomalies : Anomalies → Answered
  answered_anomalies (Found anomalies) = answered.Anomalies (map anomaly_text anomalies)
  answered_anomalies (Refused refusal) = answered.Refused refusal

-- ---- the answer

abbrev pub anomaly_answer : Dump → Answered
anomaly_answer dump =
    let tables = tables_in dump.entries in
    answered_anomalies tables dump.entries (anomalies_of tables dump.entries (tables_changes 0 dump.tables) parameters (table_spans dump.tables))
