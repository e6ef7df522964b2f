use Rattle.std.proofs.Common.{◌+◌, subst, sym}
use Rattle.gp_algebra.specs.Views.{statement_view}
use Rattle.gp_syntax.specs.Views.{command_view}
use Rattle.gp_whatif.proofs.ChangingLemmas.{Others, others_addable, others_next}
use Rattle.gp_whatif.proofs.changing.with_replaced.Goals as goal

pub append-requires-clause-new : goal.append-requires-clause-new
append-requires-clause-new c =
    others_addable c.args.t c.args.k (λ own. command_view c.args.command.now.value) (λ own. statement_view c.args.stmt.now.value) c.args.log.now.entries c.loop-place.place c.loop-place.new.entries c.entry.result.now c.in_ok-entry.entry
    c.bounds.ensures.names c.bounds.ensures.tables
    c.entry.ensures.entry c.entry.ensures.number c.in_ok-entry.ensures.same c.loop-place.invariant

pub loop-place-preserved : goal.loop-place-preserved
loop-place-preserved c =
    subst (Others c.args.t c.args.k (λ own. command_view c.args.command.now.value) (λ own. statement_view c.args.stmt.now.value) c.args.log.now.entries (c.loop-place.place + 1)) (sym c.in_ok-append.ensures.ok)
    (others_next c.args.t c.args.k (λ own. command_view c.args.command.now.value) (λ own. statement_view c.args.stmt.now.value) c.args.log.now.entries c.loop-place.place c.loop-place.new.entries c.entry.result.now c.in_ok-entry.entry
    c.entry.ensures.entry c.entry.ensures.number c.in_ok-entry.ensures.view c.loop-place.invariant)
