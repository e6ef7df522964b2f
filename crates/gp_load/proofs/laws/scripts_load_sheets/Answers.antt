use Rattle.gp_load.proofs.LoadLemmas.{loads-sheets}
use Rattle.gp_load.proofs.laws.scripts_load_sheets.Goals as goal

pub returns : goal.returns
returns c = record { loads = loads-sheets }
