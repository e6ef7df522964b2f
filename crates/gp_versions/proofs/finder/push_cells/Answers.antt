use Rattle.std.proofs.Common.{List, ap, drop, inr, subst, sym, ◌+◌, ◌∙◌, ◌∷◌}
use Rattle.std.proofs.lemmas.List.{drop_more}
use Rattle.gp_versions.specs.declared.places.InColumn.{InColumn}
use Rattle.gp_versions.proofs.FinderLemmas.{FindsCells, drop-end, finds-all, finds-next}
use Rattle.gp_versions.proofs.finder.push_cells.Goals as goal

pub loop-own-init : goal.loop-own-init
loop-own-init c = record { kept = λ q there. there; finds = λ own there. inr there }

pub loop-own-preserved : goal.loop-own-preserved
loop-own-preserved c =
    let spans = c.args.spans.now in
    let cells = c.args.cells.now in
    let at = c.loop-own.own-index in
    let own = c.own-item.result in
    let before = c.loop-own.found.items in
    let step = drop_more cells at own c.loop-own-test.true ∙ ap (λ (x : InColumn). x ∷ drop (at + 1) cells) (sym c.own-item.is) in
    record {
      kept = λ q there. c.in_ok-push_with.ensures.kept q (c.loop-own.invariant.kept q there);
      finds =
          finds-next spans cells (drop (at + 1) cells) own before c.push_with.new.found.items c.in_ok-push_with.ensures.kept (c.in_ok-push_with.ensures.all c.if-not-branch.false)
          (subst (λ (rest : List InColumn). FindsCells spans cells rest before) step c.loop-own.invariant.finds);
    }

pub returns-clause-kept : goal.returns-clause-kept
returns-clause-kept c = c.loop-own.invariant.kept

pub returns-clause-all : goal.returns-clause-all
returns-clause-all c = λ all.
    let spans = c.args.spans.now in
    let cells = c.args.cells.now in
    finds-all spans cells c.loop-own.found.items
    (subst (λ (rest : List InColumn). FindsCells spans cells rest c.loop-own.found.items) (drop-end c.loop-own.own-index cells c.loop-own-test.false) c.loop-own.invariant.finds)
