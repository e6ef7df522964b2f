use Rattle.std.proofs.Common.{◌≡◌, [], map}
use Rattle.gp_log.specs.Contents.{entries, tables}
use Rattle.gp_serial.specs.Changes.{change_view}
use Rattle.gp_serial.specs.Reasons.{paired, readings}
use Rattle.gp_serial.proofs.reason.first_reading.Given as goal

-- the first statements look at none
abbrev pub invariant-loop-before : goal.invariant-loop-before
invariant-loop-before l = readings (tables l.log) (entries l.log) paired l.reader l.writer (map change_view l.changes) l.earlier l.before ≡ []
