use Rattle.std.proofs.Common.{rules}
use Rattle.gp_base.proofs.name.is_reserved.Goals as goal

pub returns : goal.returns
returns c = search rules
