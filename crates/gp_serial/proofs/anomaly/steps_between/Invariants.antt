use Rattle.std.proofs.Common.{◌≡◌, ◌++◌, drop, map}
use Rattle.gp_log.specs.Contents.{entries, tables}
use Rattle.gp_serial.specs.Anomalies as s
use Rattle.gp_serial.specs.NameForms.{facts_of}
use Rattle.gp_serial.specs.SerialViews.{step_view}
use Rattle.gp_serial.proofs.anomaly.steps_between.Given as goal

-- the pairs that remain give the other steps
abbrev pub invariant-loop-pair : goal.invariant-loop-pair
invariant-loop-pair l =
    map step_view l.steps.items ++ s.steps_between (facts_of (tables l.log) (entries l.log) l.lists) (drop l.pair-index l.pairs)
    ≡ s.steps_between (facts_of (tables l.log) (entries l.log) l.lists) l.pairs
