use Rattle.gp_versions.specs.Keys.{keys_by}
use Rattle.gp_versions.proofs.finder.entered.Goals as goal

pub enter-requires : goal.enter-requires
enter-requires c = record { chained = c.new-chains.ensures (keys_by c.args.by c.args.spans.now) }
