use Rattle.std.proofs.Common.{◌≡◌, ◌≤◌, ◌+◌, drop}
use Rattle.gp_log.specs.Contents.{entries, tables}
use Rattle.gp_serial.specs.Anomalies as s
use Rattle.gp_serial.specs.NameForms.{facts_of}
use Rattle.gp_serial.proofs.anomaly.reads_alone.Given as goal

-- the pairs that remain give the other ones
abbrev pub invariant-loop-pair : goal.invariant-loop-pair
invariant-loop-pair l = record {
  rest :
      l.count + s.reads_alone (facts_of (tables l.log) (entries l.log) l.lists) (drop l.pair-index l.pairs) ≡ s.reads_alone (facts_of (tables l.log) (entries l.log) l.lists) l.pairs;
  few : l.count ≤ l.pair-index;
}
