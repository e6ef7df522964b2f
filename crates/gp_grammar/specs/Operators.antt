-- Part of the statement: the symbols of the operators.
use Rattle.std.specs.Prelude.{Option, Some, None}
use Rattle.gp_lexer.specs.declared.lexeme.Symbol.{Symbol}
use Rattle.gp_lexer.specs.declared.lexeme.Symbol.TheVariants as s
use Rattle.gp_grammar.specs.declared.level.Level.{Level}
use Rattle.gp_grammar.specs.declared.level.Level.TheVariants as l
use Rattle.gp_grammar.specs.declared.op.Op.{Op}
use Rattle.gp_grammar.specs.declared.op.Op.TheVariants as op

-- the operator of a level that a symbol stands for
abbrev pub operator_of : Level → Symbol → Option Op
operator_of l.Disjunction s.Or = Some op.Or
operator_of l.Conjunction s.And = Some op.And
operator_of l.Sum s.Plus = Some op.Add
operator_of l.Sum s.Minus = Some op.Sub
operator_of l.Product s.Star = Some op.Mul
operator_of _ _ = None

-- the comparison that a symbol stands for
abbrev pub comparison_of : Symbol → Option Op
comparison_of s.Eq = Some op.Eq
comparison_of s.Ne = Some op.Ne
comparison_of s.Lt = Some op.Lt
comparison_of s.Le = Some op.Le
comparison_of s.Gt = Some op.Gt
comparison_of s.Ge = Some op.Ge
comparison_of _ = None
