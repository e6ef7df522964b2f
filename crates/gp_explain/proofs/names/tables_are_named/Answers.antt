use Rattle.gp_explain.proofs.Prelude.{◌≡◌, true, table_is_spellable}
use borrow.Author.Count.{below_more}
use Rattle.gp_explain.proofs.names.tables_are_named.Goals as goal

pub loop-place-preserved : goal.loop-place-preserved
loop-place-preserved c = below_more (λ table. table_is_spellable c.args.catalog.now table ≡ true) c.loop-place.place c.loop-place.invariant c.table_is_named.ensures
