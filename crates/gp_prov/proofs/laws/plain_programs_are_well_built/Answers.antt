use Rattle.gp_prov.proofs.BuiltLemmas.{program_built}
use Rattle.gp_prov.proofs.laws.plain_programs_are_well_built.Goals as goal

pub returns : goal.returns
returns c = record { built = program_built }
