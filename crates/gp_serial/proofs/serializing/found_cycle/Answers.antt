use Rattle.std.proofs.Common.{◌∙◌, ap, map, sym}
use Rattle.gp_log.specs.Contents.{entries, tables}
use Rattle.gp_serial.specs.Changes.{change_view}
use Rattle.gp_serial.specs.Serializing.{InCycle}
use Rattle.gp_serial.proofs.StepLemmas.{cycle_is, no_cycle_is}
use Rattle.gp_serial.proofs.serializing.found_cycle.Goals as goal

pub returns-then-is_empty : goal.returns-then-is_empty
returns-then-is_empty c =
    no_cycle_is (tables c.args.log.now) (entries c.args.log.now) (map change_view c.args.changes.now) c.args.cycle.now (sym c.is_empty.ensures ∙ c.if-is_empty.true)

pub returns : goal.returns
returns c =
    ap InCycle c.in_ok-steps.ensures ∙ cycle_is (tables c.args.log.now) (entries c.args.log.now) (map change_view c.args.changes.now) c.args.cycle.now (sym c.is_empty.ensures ∙ c.if-is_empty.false)
