-- The anomalies, of what the functions give.
use Rattle.gp_serial.proofs.Prelude.{◌≡◌, ℕ, Bool, true, false, List, map, Option, Some, None, Err, refl, sym, ap, ◌∙◌, nat_lt, none-some, same_Some, option_map_or, if◌then◌else◌, parameters, Table, Entry, versions_in, RowChange, Span}
use Rattle.gp_base.specs.declared.limit.TheConstants.{MAX_ANSWER_ROWS}
use Rattle.gp_base.specs.declared.refusal.Refusal.{Refusal}
use Rattle.gp_base.specs.declared.refusal.Refusal.TheVariants.{E27}
use Rattle.gp_serial.specs.declared.error.SerialStop.{SerialStop}
use Rattle.gp_serial.specs.declared.error.SerialStop.TheVariants as stop
use Rattle.gp_serial.specs.Anomalies as s
use Rattle.gp_serial.specs.AnomalyViews.{AreAnomalies}
use Rattle.gp_serial.specs.Comparing.{ChecksRuns}
use Rattle.gp_serial.specs.PairCycles.{line_count}
use Rattle.gp_serial.specs.PathForms.{few_cycles}
use Rattle.gp_serial.specs.Serializing.{runs_refusal}

module _ (tables : List Table) (entries : List Entry) (changes : List RowChange) where
  abbrev cycles : List (List ℕ)
  cycles = s.cycles tables entries changes

  abbrev each : List (List ℕ) → List s.Anomaly
  each = map (s.anomaly_of (s.facts tables entries changes))

  abbrev found : s.Anomalies
  found = s.found tables entries changes parameters

  pub all_found : (kept : List (List ℕ)) → Some kept ≡ few_cycles MAX_ANSWER_ROWS cycles → (told : List s.Anomaly) → told ≡ each kept → s.Found told ≡ found
  all_found kept is told own = by (nat_lt MAX_ANSWER_ROWS (line_count cycles)) refl is
    where
      by : (over : Bool) → nat_lt MAX_ANSWER_ROWS (line_count cycles) ≡ over → Some kept ≡ (if over then None else Some cycles) → s.Found told ≡ found
      by true e is = absurd (none-some kept (sym is))
      by false e is = ap s.Found (own ∙ ap each (same_Some kept cycles is)) ∙ sym (ap (λ (over : Bool). if over then s.Refused E27 else s.Found (each cycles)) e)

  pub too_many : None ≡ few_cycles MAX_ANSWER_ROWS cycles → s.Refused E27 ≡ found
  too_many is = by (nat_lt MAX_ANSWER_ROWS (line_count cycles)) refl is
    where
      by : (over : Bool) → nat_lt MAX_ANSWER_ROWS (line_count cycles) ≡ over → None ≡ (if over then None else Some cycles) → s.Refused E27 ≡ found
      by true e is = sym (ap (λ (over : Bool). if over then s.Refused E27 else s.Found (each cycles)) e)
      by false e is = absurd (none-some cycles is)

  module _ (spans : ℕ → List Span) where
    abbrev answer : s.Anomalies
    answer = s.anomalies_of tables entries changes parameters spans

    pub refused : (why : SerialStop) → ChecksRuns entries spans (versions_in entries) (Err why) → AreAnomalies answer (Err why)
    refused (stop.Refused refusal) is = ap (λ (refusal : Option Refusal). option_map_or s.Refused refusal found) (sym is)
    refused stop.NoMemory is = tt

    pub none_refused : runs_refusal parameters entries spans (versions_in entries) ≡ None → found ≡ answer
    none_refused none = ap (λ (refusal : Option Refusal). option_map_or s.Refused refusal found) (sym none)
