use Rattle.gp_versions.proofs.LaterLemmas.{after-above, after-changed, after-least}
use Rattle.gp_versions.proofs.laws.written_after_is_the_least.Goals as goal

pub returns : goal.returns
returns c = record { above = after-above; changed = after-changed; least = after-least }
