use Rattle.std.proofs.Common.{◌≡◌, drop}
use Rattle.gp_log.specs.Contents.{entries, tables}
use Rattle.gp_serial.specs.NameForms.{first_lost}
use Rattle.gp_serial.proofs.naming.lost.Given as goal

-- the changes that remain decide
abbrev pub invariant-loop-change : goal.invariant-loop-change
invariant-loop-change l =
    first_lost (tables l.log) (entries l.log) l.a l.b l.changes (drop l.change-index l.changes) ≡ first_lost (tables l.log) (entries l.log) l.a l.b l.changes l.changes
