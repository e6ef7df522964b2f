use Rattle.gp_syntax.proofs.ReadingLemmas.{parsed-returns}
use Rattle.gp_syntax.proofs.read.read_text.Goals as goal

pub returns-in-Ok : goal.returns-in-Ok
returns-in-Ok g c =
    parsed-returns g.T.Sentence.parser g.T.Sentence.shape g.T.Sentence.view c.args.text.now c.in_ok-lexemes.lexemes c.lexemes-2.result.now
    (g.T.Sentence.view c.in-Ok.statement) c.limited.result c.in_ok-lexemes.ensures c.lexemes-2.ensures c.in-Ok.ensures c.limited.ensures
