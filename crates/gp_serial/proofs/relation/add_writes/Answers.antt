use Rattle.std.proofs.Common.{◌+◌, ◌∷◌, ◌∙◌, ◌&&◌, ◌||◌, Bool, List, ap, drop, sym}
use Rattle.std.proofs.lemmas.List.{drop_more}
use Rattle.gp_serial.specs.declared.changes.RowChange.{RowChange}
use Rattle.gp_serial.specs.Preceding.{first_links, write_links}
use Rattle.gp_serial.proofs.RelationLemmas.{remains_next}
use Rattle.gp_serial.proofs.relation.add_writes.Goals as goal

pub loop-other-preserved : goal.loop-other-preserved
loop-other-preserved c =
    let change = c.args.change.now in
    let others = c.args.others.now in
    let i = c.loop-other.other-index in
    let other = c.other-item.result in
    let links = first_links change in
    remains_next (links (drop i others)) (links (drop (i + 1) others)) (links others) (write_links change other) c.args.graph.now c.loop-other.graph c.add_pair.new.graph
    c.loop-other.invariant c.add_pair.ensures
    (λ a b.
    ap (λ (list : List RowChange). links list a b) (drop_more others i other c.loop-other-test.true ∙ ap (λ x. x ∷ drop (i + 1) others) (sym c.other-item.is))
    ∙ ap (λ (same : Bool). same && (write_links change other a b || links (drop (i + 1) others) a b)) (sym c.is_same_row.ensures ∙ c.if-not-is_same_row.false))
