use Rattle.std.proofs.Common.{sym}
use Rattle.gp_log.specs.Contents.{entries, tables}
use Rattle.gp_serial.specs.Changes.{change_view}
use Rattle.gp_serial.specs.Reasons.{reason_view}
use Rattle.std.specs.Option.{option_map}
use Rattle.gp_serial.proofs.ReasonLemmas.{reads_after, reads_before, writes_before}
use Rattle.gp_serial.proofs.reason.reason_of.Goals as goal

pub returns-in-Some : goal.returns-in-Some
returns-in-Some c =
    reads_before (tables c.args.log.now) (entries c.args.log.now) c.args.a c.args.b c.args.changes.now c.requires.made c.requires.two c.in-Some.k (change_view c.in-Some.change)
    (sym (rw c.in-Some.is at c.in_ok-k.ensures))

pub returns-in-Some-2 : goal.returns-in-Some-2
returns-in-Some-2 c =
    reads_after (tables c.args.log.now) (entries c.args.log.now) c.args.a c.args.b c.args.changes.now c.requires.made c.requires.two (sym (rw c.in_default.is at c.in_ok-k.ensures))
    c.in-Some-2.k (change_view c.in-Some-2.change) (sym (rw c.in-Some-2.is at c.in_ok-k-2.ensures))

pub returns : goal.returns
returns c =
    writes_before (tables c.args.log.now) (entries c.args.log.now) c.args.a c.args.b c.args.changes.now c.requires.made c.requires.two (sym (rw c.in_default.is at c.in_ok-k.ensures))
    (sym (rw c.in_default-2.is at c.in_ok-k-2.ensures)) (option_map reason_view c.first_write.result) c.first_write.ensures
