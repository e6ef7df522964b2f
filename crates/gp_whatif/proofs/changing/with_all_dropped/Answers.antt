use Rattle.std.proofs.Common.{◌+◌, subst, sym}
use Rattle.gp_whatif.specs.Changed.{dropped_of}
use Rattle.gp_whatif.proofs.ChangedLemmas.{all_dropped_same}
use Rattle.gp_whatif.proofs.ChangingLemmas.{Mapped, count_dropped, mapped_addable, mapped_next}
use Rattle.gp_whatif.proofs.changing.with_all_dropped.Goals as goal

pub append-requires-clause-new : goal.append-requires-clause-new
append-requires-clause-new c =
    mapped_addable (dropped_of c.args.t) (all_dropped_same c.args.t) (count_dropped c.args.t) c.args.log.now.entries c.loop-place.place c.loop-place.new.entries c.entry.result.now c.in_ok-entry.entry
    c.bounds.ensures.names c.bounds.ensures.tables
    c.entry.ensures.entry c.entry.ensures.number c.in_ok-entry.ensures.same c.loop-place.invariant

pub loop-place-preserved : goal.loop-place-preserved
loop-place-preserved c =
    subst (Mapped (dropped_of c.args.t) c.args.log.now.entries (c.loop-place.place + 1)) (sym c.in_ok-append.ensures.ok)
    (mapped_next (dropped_of c.args.t) (all_dropped_same c.args.t) (count_dropped c.args.t) c.args.log.now.entries c.loop-place.place c.loop-place.new.entries c.entry.result.now c.in_ok-entry.entry
    c.entry.ensures.entry c.in_ok-entry.ensures.view c.loop-place.invariant)
