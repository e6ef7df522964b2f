use Rattle.std.proofs.Common.{◌+◌, subst, sym, arith}
use Rattle.std.proofs.lemmas.Nat.{mul-lt}
use Rattle.gp_whatif.specs.Changed.{spread}
use Rattle.gp_whatif.proofs.ChangedLemmas.{spread_same}
use Rattle.gp_whatif.proofs.ChangingLemmas.{Mapped, count_spread, line-at, mapped_addable, mapped_next}
use Rattle.gp_whatif.proofs.changing.spread_log.Goals as goal

pub spread-requires : goal.spread-requires
spread-requires c =
    let line = line-at c.args.log.now.entries c.loop-place.place c.entry.result.now c.requires.lines c.entry.ensures.entry in
    let few = c.requires.times in
    let product = mul-lt c.entry.result.now.line c.args.times 16777218 18 (omega (arith, line)) (omega (arith, few)) in
    omega (arith, product)

pub append-requires-clause-new : goal.append-requires-clause-new
append-requires-clause-new c =
    mapped_addable (spread c.args.times) (spread_same c.args.times) (count_spread c.args.times) c.args.log.now.entries c.loop-place.place c.loop-place.new.entries c.entry.result.now c.in_ok-entry.entry
    c.bounds.ensures.names c.bounds.ensures.tables
    c.entry.ensures.entry c.entry.ensures.number c.in_ok-entry.ensures.same c.loop-place.invariant

pub loop-place-preserved : goal.loop-place-preserved
loop-place-preserved c =
    subst (Mapped (spread c.args.times) c.args.log.now.entries (c.loop-place.place + 1)) (sym c.in_ok-append.ensures.ok)
    (mapped_next (spread c.args.times) (spread_same c.args.times) (count_spread c.args.times) c.args.log.now.entries c.loop-place.place c.loop-place.new.entries c.entry.result.now c.in_ok-entry.entry
    c.entry.ensures.entry c.in_ok-entry.ensures.view c.loop-place.invariant)
