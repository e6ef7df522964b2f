use Rattle.gp_history.proofs.MakerBounds.{made_once}
use Rattle.gp_history.proofs.RunBounds.{made_few, versions_within}
use Rattle.gp_history.proofs.value_laws.tokens_are_within_nodes.Goals as goal

pub returns : goal.returns
returns c = record {
  versions = λ log spans newest version table. versions_within log spans newest version table;
  few = λ log version t. made_few log version t;
  once = λ entries makes t version within. made_once entries makes t version within;
}
