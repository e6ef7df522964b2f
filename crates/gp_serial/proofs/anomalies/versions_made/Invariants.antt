use Rattle.gp_log.specs.Contents.{entries}
use Rattle.gp_serial.specs.NameForms.{AreVersions}
use Rattle.gp_serial.proofs.anomalies.versions_made.Given as goal

abbrev pub invariant-loop-t : goal.invariant-loop-t
invariant-loop-t l = AreVersions (entries l.log) l.t l.versions.items
