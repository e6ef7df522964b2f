use Rattle.std.proofs.Common.{List, ◌++◌, ◌∙◌, ap, take, drop, ◌+◌, append_assoc}
use Rattle.std.specs.List.{flat_map}
use Rattle.std.proofs.lemmas.Result.{err_from_is_err_and}
use Rattle.gp_base.proofs.WritingLemmas.{AppendsPrefix-part, AppendsPrefix-after, flat_map-parts, flat_map-around}
use Rattle.gp_base.proofs.join.write_others.Goals as goal

pub returns-in_err-extend_from_slice-clause-err : goal.returns-in_err-extend_from_slice-clause-err
returns-in_err-extend_from_slice-clause-err g c =
    let p = err_from_is_err_and c.from_residual.result c.from_residual.ensures.1 in
    let text = λ (item : g.row.T.Denot). c.args.separator.now ++ g.W.TextFormat.text item in
    let items = c.args.items.now in
    rw p.1 (AppendsPrefix-part c.args.out.now.items c.extend_from_slice.new.self.items (flat_map text items) (flat_map text (take c.loop-item.item-index items)) _
    (c.in_err-extend_from_slice.ensures.items ∙ c.loop-item.invariant) (flat_map-parts text items c.loop-item.item-index))

pub returns-in_err-write-clause-err : goal.returns-in_err-write-clause-err
returns-in_err-write-clause-err g c =
    let p = err_from_is_err_and c.from_residual-in_err-write.result c.from_residual-in_err-write.ensures.1 in
    let text = λ (item : g.row.T.Denot). c.args.separator.now ++ g.W.TextFormat.text item in
    let items = c.args.items.now in
    let i = c.loop-item.item-index in
    let item = c.item-item.result in
    let around = flat_map-around text items i item c.loop-item-test.true c.item-item.is in
    let rest = flat_map text (drop (i + 1) items) in
    rw p.1 (AppendsPrefix-after c.args.out.now.items c.extend_from_slice.new.self.items c.write.new.out.items (flat_map text items)
    (flat_map text (take i items) ++ c.args.separator.now) (g.W.TextFormat.text item) rest
    (c.in_ok-extend_from_slice.ensures.items ∙ ap (λ (t : List _). t ++ c.args.separator.now) c.loop-item.invariant ∙ append_assoc c.args.out.now.items (flat_map text (take i items)) c.args.separator.now)
    c.in_err-write.ensures.err
    (around ∙ simp append_assoc))
