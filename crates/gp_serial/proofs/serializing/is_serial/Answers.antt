use Rattle.std.proofs.Common.{List, subst, sym}
use Rattle.gp_versions.specs.Spans.{Versions}
use Rattle.gp_log.specs.Contents.{entries}
use Rattle.gp_serial.specs.Comparing.{AreAllComparable, ComparesAll}
use Rattle.gp_serial.proofs.ComparableLogs.{comparable, compares, replayable, unmade}
use Rattle.gp_serial.proofs.serializing.is_serial.Goals as goal

pub replay-requires : goal.replay-requires
replay-requires c = replayable c.args.log.now c.args.versions.now c.args.order.now c.requires.rules c.requires.order (entries c.in_ok-other.other) c.in_ok-other.ensures.entries

pub do_same-requires : goal.do_same-requires
do_same-requires c =
    subst (λ (made : List Versions). AreAllComparable c.args.log.now c.args.versions.now c.in_ok-other.other made c.args.order.now) (sym c.deref.ensures.value)
    (comparable c.args.log.now c.args.versions.now c.args.order.now c.requires.rules c.requires.order c.in-Ok.made.items c.requires.runs c.in_ok-other.other c.in_ok-other.ensures.entries c.in-Ok.ensures.made)

pub returns-in-Ok : goal.returns-in-Ok
returns-in-Ok c =
    compares c.args.log.now c.args.versions.now c.args.order.now c.requires.rules c.requires.order c.in-Ok.made.items (entries c.in_ok-other.other) c.in_ok-other.ensures.entries c.in-Ok.ensures.made c.do_same.result
    (subst (λ (made : List Versions). ComparesAll (entries c.args.log.now) c.args.versions.now (entries c.in_ok-other.other) made c.args.order.now c.do_same.result) c.deref.ensures.value c.do_same.ensures)

pub returns : goal.returns
returns c =
    unmade c.args.log.now c.args.versions.now c.args.order.now c.requires.rules c.requires.order (entries c.in_ok-other.other) c.in_ok-other.ensures.entries c.in-Err.stop c.unmade.result c.in-Err.ensures.stop c.unmade.ensures
