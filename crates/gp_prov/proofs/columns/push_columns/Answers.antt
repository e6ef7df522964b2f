use Rattle.std.proofs.Common.{arith}
use Rattle.std.proofs.lemmas.Grind.{common_steps}
use Rattle.gp_prov.proofs.ColumnLists.{columns_next}
use Rattle.gp_prov.proofs.columns.push_columns.Goals as goal

pub loop-n-preserved : goal.loop-n-preserved
loop-n-preserved c = grind (arith, common_steps, columns_next)
