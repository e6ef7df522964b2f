use Rattle.std.proofs.Common.{List, subst, sym, ◌+◌, ◌++◌, ◌∷◌, []}
use Rattle.gp_reenact.specs.Reenacting.{spans_of}
use Rattle.gp_versions.specs.declared.finder.Finder.{Finder}
use Rattle.gp_versions.specs.declared.span.Span.{Span}
use Rattle.gp_versions.specs.Finding.{IsFinder}
use Rattle.gp_history.proofs.RenewingLemmas.{AreFirst, first_more, first_none}
use Rattle.gp_history.proofs.finders.finders_of.Goals as goal

pub loop-table-init : goal.loop-table-init
loop-table-init c = first_none (spans_of c.args.versions.now) c.new-finders.result.items c.new-finders.ensures.items

pub loop-table-preserved : goal.loop-table-preserved
loop-table-preserved c =
    let spans = spans_of c.args.versions.now in
    let table = c.loop-table.table in
    let own = subst (λ (list : List Span). IsFinder list c.in_ok-new.field-0) c.spans_in.ensures.spans c.in_ok-new.ensures in
    subst (AreFirst spans (table + 1)) (sym c.in_ok-push.ensures.items) (first_more spans table c.loop-table.finders.items c.in_ok-new.field-0 own c.loop-table.invariant)

pub returns : goal.returns
returns c = c.loop-table.invariant.each
