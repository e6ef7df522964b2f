use Rattle.gprom_cli.proofs.PromisesLemmas.{consequences}
use Rattle.gprom_cli.proofs.laws.promises_have_consequences.Goals as goal

pub returns : goal.returns
returns c = consequences
