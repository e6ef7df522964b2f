use Rattle.std.proofs.Common.{arith}
use Rattle.std.proofs.lemmas.Grind.{common_steps}
use Rattle.gp_prov.proofs.ColumnLists.{parts_before_none, parts_before_one}
use Rattle.gp_prov.proofs.columns.identity_columns.Goals as goal

pub loop-width-preserved : goal.loop-width-preserved
loop-width-preserved c = grind (arith, common_steps, parts_before_one)

pub returns : goal.returns
returns c = grind (arith, common_steps, parts_before_none)
