use Rattle.gp_typed.proofs.ComposedTypes.{merged_at_is_typed}
use Rattle.gp_typed.proofs.laws.merged_programs_are_typed.Goals as goal

pub returns : goal.returns
returns c entries point select small fit typed fitting select_typed known = merged_at_is_typed entries small fit typed select fitting select_typed point known
