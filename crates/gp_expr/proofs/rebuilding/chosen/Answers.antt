use Rattle.gp_expr.proofs.RebuildingLemmas.{chosen_found, found_size}
use Rattle.gp_expr.proofs.rebuilding.chosen.Goals as goal

pub returns-clause-view : goal.returns-clause-view
returns-clause-view c =
    let lookup = c.get.ensures.lookup in
    chosen_found c.args.n c.args.inner.now c.if-n-eq0.false c.get.result lookup.1 lookup.3

pub returns-clause-smaller : goal.returns-clause-smaller
returns-clause-smaller c =
    let lookup = c.get.ensures.lookup in
    found_size c.args.n c.args.inner.now c.if-n-eq0.false c.get.result lookup.1 lookup.3
