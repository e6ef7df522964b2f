use Rattle.gp_grammar.proofs.CanonicalLaws as canonical
use Rattle.gp_grammar.proofs.laws.canonical_texts_are_read.Goals as goal

pub returns : goal.returns
returns c = record { again = canonical.text-read; utf8 = canonical.text-utf8; one_line = canonical.text-one_line }
