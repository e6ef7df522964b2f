use Rattle.std.proofs.Common.{sym, ◌∙◌}
use Rattle.gp_sql.proofs.WithAgain.{one-query}
use Rattle.gp_sql.proofs.laws.texts_spell_one_query.Goals as goal

pub returns : goal.returns
returns c = λ tables text query other own first second. one-query tables own query other first.spelled second.spelled (first.is ∙ sym second.is)
