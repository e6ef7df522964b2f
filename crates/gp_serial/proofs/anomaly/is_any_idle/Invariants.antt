use Rattle.std.proofs.Common.{◌≡◌, drop}
use Rattle.std.specs.List.{list_any}
use Rattle.gp_serial.specs.Anomalies.{is_empty}
use Rattle.gp_serial.specs.NameForms.{changes_at}
use Rattle.gp_serial.proofs.anomaly.is_any_idle.Given as goal

-- those that remain decide
abbrev pub invariant-loop-t : goal.invariant-loop-t
invariant-loop-t l = list_any (λ t. is_empty (changes_at l.lists t)) (drop l.t-index l.cycle) ≡ list_any (λ t. is_empty (changes_at l.lists t)) l.cycle
