use Rattle.std.proofs.Common.{◌∙◌, ap}
use Rattle.gp_base.specs.Catalogs.{table_names}
use Rattle.gp_base.proofs.CatalogLemmas.{different_names}
use Rattle.gp_base.proofs.catalog.Catalog.len.Goals as goal

pub returns-clause-different : goal.returns-clause-different
returns-clause-different c =
    different_names _ _ (c.self.invariant.0 ∙ ap table_names c.self.view_is) c.len.ensures.unique
