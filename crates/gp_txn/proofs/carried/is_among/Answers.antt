use Rattle.std.proofs.Common.{◌∙◌}
use Rattle.gp_versions.proofs.WritesLemmas.{searched}
use Rattle.gp_txn.proofs.carried.is_among.Goals as goal

pub returns : goal.returns
returns c = c.is_ok.ensures.value ∙ searched c.args.ids.now c.args.id.now c.binary_search.result c.requires c.binary_search.ensures.bound c.binary_search.ensures.position
