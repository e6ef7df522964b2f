use Rattle.gp_grammar.proofs.CanonicalLaws as canonical
use Rattle.gp_grammar.proofs.laws.canonical_lexemes_are_parsed.Goals as goal

pub returns : goal.returns
returns c = record { derived = canonical.derived; parsed = canonical.parsed; shallow = canonical.shallow; proper = canonical.proper }
