use Rattle.gp_base.proofs.CatalogLemmas.{added}
use Rattle.gp_base.proofs.catalog.Catalog.add.Goals as goal

pub invariant_of-self-2 : goal.invariant_of-self-2
invariant_of-self-2 c =
    let all = added _ _ _ _ _ c.in_ok-name.ensures.cases c.self.view_is c.self.invariant.0 c.in_ok-place.ensures.new
    c.in_ok-place.ensures.room c.in_ok-insert.ensures.entries in
    (all.names, all.within)

pub returns-clause-added : goal.returns-clause-added
returns-clause-added c =
    (added _ _ _ _ _ c.in_ok-name.ensures.cases c.self.view_is c.self.invariant.0 c.in_ok-place.ensures.new
    c.in_ok-place.ensures.room c.in_ok-insert.ensures.entries).values
