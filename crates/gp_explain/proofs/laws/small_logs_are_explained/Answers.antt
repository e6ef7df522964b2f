use Rattle.gp_explain.proofs.ComposedRanges.{merged_at_range, small_explained}
use Rattle.gp_explain.proofs.laws.small_logs_are_explained.Goals as goal

pub returns-clause-range : goal.returns-clause-range
returns-clause-range c entries prov point select small few fit fits known = merged_at_range entries small fit prov select fits few point known

pub returns-clause-explained : goal.returns-clause-explained
returns-clause-explained c entries prov point select small named few fit fits known = small_explained entries small fit prov select fits few named point known
