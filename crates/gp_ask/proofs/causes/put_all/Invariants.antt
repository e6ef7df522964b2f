use Rattle.gp_dump.specs.Views.{dump_view}
use Rattle.gp_whatif.specs.Replays.{IsMade}
use Rattle.gp_ask.specs.Writes.{ArePut}
use Rattle.gp_ask.proofs.causes.put_all.Given as goal

-- the versions so far are made, and the lines of their statements are put there
abbrev pub invariant-loop-before : goal.invariant-loop-before
invariant-loop-before l = IsMade (dump_view l.asked.dump.now).entries l.before l.versions.items × ArePut l.asked l.writes l.before l.lines
