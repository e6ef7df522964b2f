-- What the parser builds for a phrase: the capped tree of a tree that the grammar derives. One lemma for each rule that has a term in it.
use Rattle.gp_grammar.proofs.Prelude.{◌≡◌, ℕ, pos, true, false, [], ◌∷◌, ◌++◌, Some, None, refl, ap, ◌∙◌, Symbol, Sign, Word, Number, Text, Level, Op, Lexemes, Bytes, Term, operator_of, comparison_of, capped, Built, Phrase, Derives, operand}
use Rattle.gp_lexer.specs.declared.lexeme.Symbol.TheVariants as s
use Rattle.gp_grammar.specs.declared.level.Level.TheVariants as l
use Rattle.gp_grammar.specs.Syntax as syntax
use Rattle.gp_grammar.specs.Capping as c
use Rattle.gp_grammar.specs.Grammar as g

abbrev pub Builds : Phrase → Lexemes → Term → Type 0
Builds p = Built (Derives p) capped

abbrev pub BuildsTerm : Lexemes → Term → Type 0
BuildsTerm = Builds (g.operations l.Disjunction)

pub same : {p : Phrase} {a : Lexemes} {x : Term} → Derives p a x → Builds p a (capped x)
same {x = x} i = record { tree = x; is = i; same = refl }

pub operation : (at : Level) (o : Op) (symbol : Symbol) (a b : Lexemes) (x y : Term) → operator_of at symbol ≡ Some o
    → Builds (g.operations at) a x → Builds (operand at) b y → Builds (g.operations at) (a ++ (Sign symbol ∷ b)) (c.binary o x y)
operation at o symbol a b x y e i j = record {
  tree = syntax.binary o i.tree j.tree;
  is = g.operation at o symbol a b i.tree j.tree e i.is j.is;
  same = ap (λ z. c.binary o z y) i.same ∙ ap (λ z. c.binary o (capped i.tree) z) j.same;
}

pub one_operand : (at : Level) (a : Lexemes) (x : Term) → Builds (operand at) a x → Builds (g.operations at) a x
one_operand at a x i = record { tree = i.tree; is = g.one_operand at a i.tree i.is; same = i.same }

pub negated : (a : Lexemes) (x : Term) → Builds g.test a x → Builds g.negation (Sign s.Not ∷ a) (c.not x)
negated a x i = record { tree = syntax.not i.tree; is = g.negated a i.tree i.is; same = ap c.not i.same }

pub not_negated : (a : Lexemes) (x : Term) → Builds g.test a x → Builds g.negation a x
not_negated a x i = record { tree = i.tree; is = g.not_negated a i.tree i.is; same = i.same }

pub null_test : (a : Lexemes) (x : Term) → Builds g.comparison a x → Builds g.test (a ++ (Sign s.Is ∷ Sign s.Null ∷ [])) (c.is_null x true)
null_test a x i = record { tree = syntax.is_null i.tree true; is = g.null_test a i.tree i.is; same = ap (λ z. c.is_null z true) i.same }

pub not_null_test : (a : Lexemes) (x : Term) → Builds g.comparison a x → Builds g.test (a ++ (Sign s.Is ∷ Sign s.Not ∷ Sign s.Null ∷ [])) (c.is_null x false)
not_null_test a x i = record { tree = syntax.is_null i.tree false; is = g.not_null_test a i.tree i.is; same = ap (λ z. c.is_null z false) i.same }

pub true_test : (a : Lexemes) (x : Term) → Builds g.comparison a x → Builds g.test (a ++ (Sign s.Is ∷ Sign s.True ∷ [])) (c.is_true x true)
true_test a x i = record { tree = syntax.is_true i.tree true; is = g.true_test a i.tree i.is; same = ap (λ z. c.is_true z true) i.same }

pub not_true_test : (a : Lexemes) (x : Term) → Builds g.comparison a x → Builds g.test (a ++ (Sign s.Is ∷ Sign s.Not ∷ Sign s.True ∷ [])) (c.is_true x false)
not_true_test a x i = record { tree = syntax.is_true i.tree false; is = g.not_true_test a i.tree i.is; same = ap (λ z. c.is_true z false) i.same }

pub no_test : (a : Lexemes) (x : Term) → Builds g.comparison a x → Builds g.test a x
no_test a x i = record { tree = i.tree; is = g.no_test a i.tree i.is; same = i.same }

pub compared : (o : Op) (symbol : Symbol) (a b : Lexemes) (x y : Term) → comparison_of symbol ≡ Some o
    → Builds (g.operations l.Sum) a x → Builds (g.operations l.Sum) b y → Builds g.comparison (a ++ (Sign symbol ∷ b)) (c.binary o x y)
compared o symbol a b x y e i j = record {
  tree = syntax.binary o i.tree j.tree;
  is = g.compared o symbol a b i.tree j.tree e i.is j.is;
  same = ap (λ z. c.binary o z y) i.same ∙ ap (λ z. c.binary o (capped i.tree) z) j.same;
}

pub not_compared : (a : Lexemes) (x : Term) → Builds (g.operations l.Sum) a x → Builds g.comparison a x
not_compared a x i = record { tree = i.tree; is = g.not_compared a i.tree i.is; same = i.same }

pub signed : (a : Lexemes) (x : Term) → Builds g.primary a x → Builds g.factor (Sign s.Minus ∷ a) (c.neg x)
signed a x i = record { tree = syntax.neg i.tree; is = g.signed a i.tree i.is; same = ap c.neg i.same }

pub not_signed : (a : Lexemes) (x : Term) → Builds g.primary a x → Builds g.factor a x
not_signed a x i = record { tree = i.tree; is = g.not_signed a i.tree i.is; same = i.same }

pub number : (n : ℕ) → Builds g.primary (Number n ∷ []) (syntax.int (pos n))
number n = same (g.number n)

pub text_literal : (bytes : Bytes) → Builds g.primary (Text bytes ∷ []) (syntax.text bytes)
text_literal bytes = same (g.text_literal bytes)

pub null_literal : Builds g.primary (Sign s.Null ∷ []) syntax.null
null_literal = same g.null_literal

pub column : (name : Bytes) → Builds g.primary (Word name ∷ []) (syntax.col None name)
column name = same (g.column name)

pub qualified_column : (item name : Bytes) → Builds g.primary (Word item ∷ Sign s.Dot ∷ Word name ∷ []) (syntax.col (Some item) name)
qualified_column item name = same (g.qualified_column item name)

pub brackets : (a : Lexemes) (x : Term) → BuildsTerm a x → Builds g.primary (Sign s.Open ∷ (a ++ (Sign s.Close ∷ []))) x
brackets a x i = record { tree = i.tree; is = g.brackets a i.tree i.is; same = i.same }

pub choice : (a b e : Lexemes) (x y z : Term) → BuildsTerm a x → BuildsTerm b y → BuildsTerm e z
    → Builds g.primary (Sign s.Case ∷ Sign s.When ∷ (a ++ (Sign s.Then ∷ (b ++ (Sign s.Else ∷ (e ++ (Sign s.End ∷ []))))))) (c.case x y z)
choice a b e x y z i j k = record {
  tree = syntax.case i.tree j.tree k.tree;
  is = g.choice a b e i.tree j.tree k.tree i.is j.is k.is;
  same = ap (λ w. c.case w y z) i.same ∙ ap (λ w. c.case (capped i.tree) w z) j.same ∙ ap (λ w. c.case (capped i.tree) (capped j.tree) w) k.same;
}
