use Rattle.std.proofs.Common.{sym}
use Rattle.gp_grammar.specs.Limits.{passed_limit}
use Rattle.gp_syntax.proofs.ReadingLemmas.{limited}
use Rattle.gp_syntax.proofs.read.limited.Goals as goal

pub returns-in-Some : goal.returns-in-Some
returns-in-Some g c =
    limited (g.T.Sentence.view c.args.statement) (passed_limit (g.T.Sentence.shape (g.T.Sentence.view c.args.statement))) c.in-Some.limit (sym c.in-Some.ensures)
