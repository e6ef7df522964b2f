use Rattle.std.proofs.Common.{◌∙◌, Some, ap, sym}
use Rattle.std.proofs.lemmas.List.{drop_all}
use Rattle.gp_log.specs.Contents.{entries, tables}
use Rattle.gp_serial.specs.NameForms.{first_lost, two_view}
use Rattle.gp_serial.proofs.NameLemmas.{lost_here, lost_is}
use Rattle.gp_serial.proofs.naming.lost.Goals as goal

pub returns-in-Some : goal.returns-in-Some
returns-in-Some c =
    let all = c.args.changes.now in
    sym (lost_is (tables c.args.log.now) (entries c.args.log.now) c.args.a c.args.b all c.requires.made
    ∙ sym c.loop-change.invariant
    ∙ lost_here (tables c.args.log.now) (entries c.args.log.now) c.args.a c.args.b all c.requires.made all c.loop-change.change-index c.loop-change-test.true c.change-item.result c.change-item.is
    (Some (two_view c.in-Some.two)) (rw c.in-Some.is at c.in_ok-two.ensures))

pub returns : goal.returns
returns c =
    let all = c.args.changes.now in
    sym (lost_is (tables c.args.log.now) (entries c.args.log.now) c.args.a c.args.b all c.requires.made
    ∙ sym c.loop-change.invariant
    ∙ ap (first_lost (tables c.args.log.now) (entries c.args.log.now) c.args.a c.args.b all) (drop_all c.loop-change.change-index all c.loop-change-test.false))
