use Rattle.std.proofs.Common.{◌≡◌, drop, map}
use Rattle.std.specs.Prelude.{filter}
use Rattle.gp_serial.specs.LookViews.{look_view}
use Rattle.gp_serial.specs.Reasons.{first_of, is_looked}
use Rattle.gp_serial.proofs.reason.first_among.Given as goal

-- the changes that remain decide
abbrev pub invariant-loop-change : goal.invariant-loop-change
invariant-loop-change l =
    first_of (filter (is_looked l.writer l.version l.earlier (map look_view l.looks)) (drop l.change-index l.changes))
    ≡ first_of (filter (is_looked l.writer l.version l.earlier (map look_view l.looks)) l.changes)
