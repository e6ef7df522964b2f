use Rattle.std.proofs.Common.{◌∙◌}
use Rattle.gp_log.specs.Contents.{entries}
use Rattle.gp_serial.proofs.NameLemmas.{made_row}
use Rattle.gp_serial.proofs.naming.lost_by.Goals as goal

pub unseen_read-requires-clause-made : goal.unseen_read-requires-clause-made
unseen_read-requires-clause-made c =
    made_row (entries c.args.log.now) c.args.change.now c.args.changes.now c.deref.result.now c.requires.made (c.deref.ensures.value ∙ c.in_ok-rows-in-Some.ensures)
