use Rattle.std.proofs.Common.{map, sym}
use Rattle.gp_log.specs.Contents.{entries, tables}
use Rattle.gp_serial.specs.Changes.{change_view}
use Rattle.gp_serial.proofs.StepLemmas.{no_reason}
use Rattle.gp_serial.proofs.serializing.reason_between.Goals as goal

pub returns-then-first-next : goal.returns-then-first-next
returns-then-first-next c = sym (no_reason (tables c.args.log.now) (entries c.args.log.now) (map change_view c.args.changes.now) c.args.first c.args.next c.if-first-next.true)
