use Rattle.std.proofs.Common.{◌∙◌}
use Rattle.std.proofs.lemmas.List.{set-get_or}
use Rattle.gp_txn.proofs.commit.enter_spans.Goals as goal

pub returns-in_err-enter_one : goal.returns-in_err-enter_one
returns-in_err-enter_one c = rw c.enter_one.ensures (set-get_or c.loop-place.versions c.loop-place.place c.index-versions-place.result ∙ c.loop-place.invariant)

pub loop-place-preserved : goal.loop-place-preserved
loop-place-preserved c = rw c.enter_one.ensures (set-get_or c.loop-place.versions c.loop-place.place c.index-versions-place.result ∙ c.loop-place.invariant)
