use Rattle.gp_explain.proofs.RangeLemmas.{shaped_spelled}
use Rattle.gp_explain.proofs.text.written.Goals as goal

pub write-requires : goal.write-requires
write-requires c = shaped_spelled _ _ _ c.catalog-catalog.ensures c.requires c.tables_are_named.ensures c.program_in_range.ensures
