use Rattle.std.proofs.Common.{length}
use Rattle.gp_check.proofs.typing.+pairs_agree.Given as goal

abbrev pub decreases-pairs_agree : goal.decreases-pairs_agree
decreases-pairs_agree l = length l.rows.now
