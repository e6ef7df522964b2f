use Rattle.std.proofs.Common.{◌≡◌, ◌+◌, ◌∷◌, List, drop, ap, sym, ◌∙◌}
use Rattle.std.proofs.lemmas.List.{drop_all, drop_more}
use Rattle.gp_syntax.specs.declared.question.LogChange.{LogChange}
use Rattle.gp_syntax.specs.Measures.{earlier}
use Rattle.gp_syntax.proofs.LimitLemmas.{commands-end, commands-step, limit_of_commands}
use Rattle.gp_syntax.proofs.limits.commands_limit.Goals as goal

pub loop-change-preserved : goal.loop-change-preserved
loop-change-preserved c =
    let changes = c.args.changes.now in
    let at = c.loop-change.change-index in
    let change = c.change-item.result in
    let left : List LogChange = drop (at + 1) changes in
    ap (λ found. earlier found (limit_of_commands left)) (c.earlier-found.ensures ∙ ap (earlier c.loop-change.found) c.change_limit.ensures)
    ∙ commands-step c.loop-change.found change left
    ∙ ap (λ rest. earlier c.loop-change.found (limit_of_commands rest)) (ap (λ x. x ∷ left) c.change-item.is ∙ sym (drop_more changes at change c.loop-change-test.true))
    ∙ c.loop-change.invariant

pub returns : goal.returns
returns c =
    commands-end c.loop-change.found
    ∙ ap (λ rest. earlier c.loop-change.found (limit_of_commands rest)) (sym (drop_all c.loop-change.change-index c.args.changes.now c.loop-change-test.false))
    ∙ c.loop-change.invariant
