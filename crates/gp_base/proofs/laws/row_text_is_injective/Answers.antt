use Rattle.gp_base.proofs.TextLemmas.{row_text-injective}
use Rattle.gp_base.proofs.laws.row_text_is_injective.Goals as goal

pub returns : goal.returns
returns c = record { injective = row_text-injective }
