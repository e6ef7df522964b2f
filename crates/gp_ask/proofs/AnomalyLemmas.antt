-- What an answer to ANOMALIES is made of: the cycles that were found, or a refusal.
use Rattle.std.proofs.Common.{◌≡◌, ℕ, Bool, true, false, cond, List, map, Option, Some, None, refl}
use Rattle.std.specs.Prelude.{nat_lt}
use Rattle.std.specs.Option.{option_map_or}
use Rattle.gp_base.specs.declared.refusal.Refusal.{Refusal}
use Rattle.gp_base.specs.declared.refusal.Refusal.TheVariants.{E27}
use Rattle.gp_base.specs.declared.table.Table.{Table}
use Rattle.gp_log.specs.Parameters.{parameters}
use Rattle.gp_machine.specs.Entries.{Entry}
use Rattle.gp_machine.specs.RowChanges.{RowChange}
use Rattle.gp_serial.specs.Anomalies as s
use Rattle.gp_serial.specs.Anomalies.{Anomaly, anomaly_of, cycles, facts, found}
use Rattle.gp_serial.specs.PairCycles.{line_count}
use Rattle.gp_ask.specs.declared.answered.AnomalyText.{AnomalyText}
use Rattle.gp_ask.specs.declared.answered.Answered.TheVariants as answered
use Rattle.gp_ask.specs.AnomalyAnswers.{anomaly_text, answered_anomalies}

module _ (tables : List Table) (entries : List Entry) (changes : List RowChange) where
  abbrev told : List Anomaly
  told = map (anomaly_of (facts tables entries changes)) (cycles tables entries changes)

  -- an answer of cycles is one of those that were found
  pub anomalies_given : (texts : List AnomalyText) (refusal : Option Refusal)
      → answered_anomalies tables entries (option_map_or s.Refused refusal (found tables entries changes parameters)) ≡ answered.Anomalies texts → texts ≡ map (anomaly_text tables entries) told
  anomalies_given texts (Some refusal) e = absurd cc
  anomalies_given texts None e = by (nat_lt parameters.answer (line_count (cycles tables entries changes))) e
    where
      by : (over : Bool) → answered_anomalies tables entries (cond over (s.Refused E27) (s.Found told)) ≡ answered.Anomalies texts → texts ≡ map (anomaly_text tables entries) told
      by true e = absurd cc
      by false e = cc

  -- where no transaction stops, only their lines are too many
  pub refused_given : (refusal : Refusal) (stopped : Option Refusal) → stopped ≡ None
      → answered_anomalies tables entries (option_map_or s.Refused stopped (found tables entries changes parameters)) ≡ answered.Refused refusal → refusal ≡ E27
  refused_given refusal (Some other) none e = absurd cc
  refused_given refusal None none e = by (nat_lt parameters.answer (line_count (cycles tables entries changes))) e
    where
      by : (over : Bool) → answered_anomalies tables entries (cond over (s.Refused E27) (s.Found told)) ≡ answered.Refused refusal → refusal ≡ E27
      by true e = cc
      by false e = absurd cc
