-- How many parsers of terms call one another without taking a lexeme.
use Rattle.std.specs.Prelude.{ℕ}
use Rattle.gp_grammar.specs.declared.level.Level.{Level}
use Rattle.gp_grammar.specs.declared.level.Level.TheVariants as l

abbrev pub rank : Level → ℕ
rank l.Disjunction = 10
rank l.Conjunction = 8
rank l.Sum = 4
rank l.Product = 2
