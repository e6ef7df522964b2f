use Rattle.gp_log.specs.LogFacts.{tables_in}
use Rattle.gp_explain.proofs.LineLemmas.{spelled_lines}
use Rattle.gp_explain.proofs.laws.explained_texts_are_lines.Goals as goal

pub returns : goal.returns
returns c entries prov point select text explains = spelled_lines (tables_in entries) explains.program text explains.spelled
