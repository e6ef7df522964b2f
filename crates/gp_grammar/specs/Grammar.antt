-- Part of the statement: the grammar of terms, one constructor for each rule. It is that of value expressions in SQL (ISO/IEC 9075-2),
-- smaller; that operators of one level group to the left is the rule's own left recursion.
use Rattle.std.specs.Prelude.{◌≡◌, ℕ, pos, true, false, [], ◌∷◌, ◌++◌, Some, None}
use Rattle.gp_lexer.specs.declared.lexeme.Symbol.{Symbol}
use Rattle.gp_lexer.specs.declared.lexeme.Symbol.TheVariants as s
use Rattle.gp_lexer.specs.declared.lexeme.Lexeme.TheVariants.{Symbol as Sign, Word, Number, Text}
use Rattle.gp_grammar.specs.declared.level.Level.{Level}
use Rattle.gp_grammar.specs.declared.level.Level.TheVariants as l
use Rattle.gp_grammar.specs.declared.op.Op.{Op}
use Rattle.gp_grammar.specs.Syntax.{Lexemes, Bytes, Term, null, int, text, col, binary, neg, not, is_null, is_true, case}
use Rattle.gp_grammar.specs.Operators.{operator_of, comparison_of}

-- the nonterminals of terms; `operations at` are operands with operators of the level between them
pub data Phrase : Type 0 where
  operations : Level → Phrase
  negation test comparison factor primary : Phrase

abbrev pub operand : Level → Phrase
operand l.Disjunction = operations l.Conjunction
operand l.Conjunction = negation
operand l.Sum = operations l.Product
operand l.Product = factor

-- the grammar derives these lexemes from the nonterminal, with this term
pub data Derives : Phrase → Lexemes → Term → Type 0 where
  operation : (at : Level) (o : Op) (symbol : Symbol) (a b : Lexemes) (x y : Term) → operator_of at symbol ≡ Some o
      → Derives (operations at) a x → Derives (operand at) b y → Derives (operations at) (a ++ (Sign symbol ∷ b)) (binary o x y)
  one_operand : (at : Level) (a : Lexemes) (x : Term) → Derives (operand at) a x → Derives (operations at) a x
  negated : (a : Lexemes) (x : Term) → Derives test a x → Derives negation (Sign s.Not ∷ a) (not x)
  not_negated : (a : Lexemes) (x : Term) → Derives test a x → Derives negation a x
  null_test : (a : Lexemes) (x : Term) → Derives comparison a x → Derives test (a ++ (Sign s.Is ∷ Sign s.Null ∷ [])) (is_null x true)
  not_null_test : (a : Lexemes) (x : Term) → Derives comparison a x
      → Derives test (a ++ (Sign s.Is ∷ Sign s.Not ∷ Sign s.Null ∷ [])) (is_null x false)
  true_test : (a : Lexemes) (x : Term) → Derives comparison a x → Derives test (a ++ (Sign s.Is ∷ Sign s.True ∷ [])) (is_true x true)
  not_true_test : (a : Lexemes) (x : Term) → Derives comparison a x
      → Derives test (a ++ (Sign s.Is ∷ Sign s.Not ∷ Sign s.True ∷ [])) (is_true x false)
  no_test : (a : Lexemes) (x : Term) → Derives comparison a x → Derives test a x
  compared : (o : Op) (symbol : Symbol) (a b : Lexemes) (x y : Term) → comparison_of symbol ≡ Some o
      → Derives (operations l.Sum) a x → Derives (operations l.Sum) b y → Derives comparison (a ++ (Sign symbol ∷ b)) (binary o x y)
  not_compared : (a : Lexemes) (x : Term) → Derives (operations l.Sum) a x → Derives comparison a x
  signed : (a : Lexemes) (x : Term) → Derives primary a x → Derives factor (Sign s.Minus ∷ a) (neg x)
  not_signed : (a : Lexemes) (x : Term) → Derives primary a x → Derives factor a x
  number : (n : ℕ) → Derives primary (Number n ∷ []) (int (pos n))
  text_literal : (bytes : Bytes) → Derives primary (Text bytes ∷ []) (text bytes)
  null_literal : Derives primary (Sign s.Null ∷ []) null
  column : (name : Bytes) → Derives primary (Word name ∷ []) (col None name)
  qualified_column : (item name : Bytes) → Derives primary (Word item ∷ Sign s.Dot ∷ Word name ∷ []) (col (Some item) name)
  brackets : (a : Lexemes) (x : Term) → Derives (operations l.Disjunction) a x → Derives primary (Sign s.Open ∷ (a ++ (Sign s.Close ∷ []))) x
  choice : (a b c : Lexemes) (x y z : Term) → Derives (operations l.Disjunction) a x → Derives (operations l.Disjunction) b y
      → Derives (operations l.Disjunction) c z
      → Derives primary (Sign s.Case ∷ Sign s.When ∷ (a ++ (Sign s.Then ∷ (b ++ (Sign s.Else ∷ (c ++ (Sign s.End ∷ []))))))) (case x y z)

-- a term of the lowest level is any term
abbrev pub IsTerm : Lexemes → Term → Type 0
IsTerm = Derives (operations l.Disjunction)
