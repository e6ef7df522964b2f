use Rattle.std.proofs.Common.{◌∙◌, sym}
use Rattle.gp_whatif.proofs.ChangingLemmas.{fewer_next, tables_here}
use Rattle.gp_whatif.proofs.changing.place_of.Goals as goal

pub returns-then-is_own-clause-tables : goal.returns-then-is_own-clause-tables
returns-then-is_own-clause-tables c =
    tables_here c.args.t c.args.k c.args.log.now.entries c.loop-place.place c.entry.result.now c.entry.ensures.entry c.entry.ensures.number (sym c.is_own.ensures ∙ c.if-is_own.true)

pub loop-place-preserved : goal.loop-place-preserved
loop-place-preserved c =
    fewer_next c.args.t c.args.k c.args.log.now.entries c.loop-place.place c.entry.result.now c.entry.ensures.entry c.entry.ensures.number (sym c.is_own.ensures ∙ c.if-is_own.false) c.loop-place.invariant
