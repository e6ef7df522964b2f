use Rattle.gp_grammar.proofs.Prelude.{term, IsTerm, capped, term_shape}
use Rattle.gp_grammar.proofs.LineLaws as line
use Rattle.gp_grammar.proofs.ParserLaws.{lawful-term}
use Rattle.gp_grammar.proofs.ShapeLemmas.{terms-fair}
use Rattle.gp_grammar.proofs.laws.terms_are_parsed.Goals as goal

pub returns : goal.returns
returns c = record { complete = lawful-term.parses; place = lawful-term.stops; unique = line.unambiguous term IsTerm capped term_shape lawful-term terms-fair; fair = terms-fair }
