use Rattle.std.proofs.Common.{◌+◌, ◌∷◌, List, arith, drop, filter, length, ap, sym, ◌∙◌}
use Rattle.std.proofs.lemmas.List.{drop_all, drop_more}
use Rattle.gp_syntax.specs.Views.{change_view, changes_view}
use Rattle.gp_syntax.specs.declared.question.LogChange.{LogChange}
use Rattle.gp_whatif.specs.Changed.{adds}
use Rattle.gp_whatif.proofs.ChangingLemmas.{lines-counted}
use Rattle.gp_whatif.proofs.changing.lines_for.Goals as goal

pub loop-change-preserved : goal.loop-change-preserved
loop-change-preserved c =
    let changes = c.args.changes.now in
    let at = c.loop-change.change-index in
    let change = c.change-item.result in
    let left : List LogChange = drop (at + 1) changes in
    let more = ap (λ (xs : List LogChange). length (filter adds (changes_view xs))) (ap (λ x. x ∷ left) c.change-item.is ∙ sym (drop_more changes at change c.loop-change-test.true)) in
    record {
      rest = omega (arith, c.line_for-lines.ensures.count, lines-counted (change_view change) (changes_view left), more, c.loop-change.invariant.rest);
      few = omega (arith, c.line_for-lines.ensures.few, c.loop-change.invariant.few);
    }

pub returns-clause-count : goal.returns-clause-count
returns-clause-count c =
    let none = ap (λ (xs : List LogChange). length (filter adds (changes_view xs))) (drop_all c.loop-change.change-index c.args.changes.now c.loop-change-test.false) in
    omega (arith, none, c.loop-change.invariant.rest)
