use Rattle.gp_explain.proofs.Prelude.{tables_in, merged_at}
use Rattle.gp_explain.proofs.ComposedShapes.{merged_at_shaped}
use Rattle.gp_explain.proofs.RangeLemmas.{program_spelled}
use Rattle.gp_explain.proofs.laws.merged_programs_are_spellable.Goals as goal

pub returns : goal.returns
returns c entries prov point select are fit fits known range =
    program_spelled (tables_in entries) (merged_at prov entries point select) (merged_at_shaped entries are.named fit prov select fits point known) range
