-- The grammar derives a term from its canonical lexemes.
use Rattle.gp_grammar.proofs.Prelude.{◌≡◌, Some, refl, subst, Symbol, Level, Op, Lexemes, Term, operator_of, comparison_of, Phrase, Derives, IsTerm, operand, symbol_of, term_lexemes, bracketed}
use Rattle.gp_lexer.specs.declared.lexeme.Symbol.TheVariants as s
use Rattle.gp_grammar.specs.declared.level.Level.TheVariants as l
use Rattle.gp_grammar.specs.declared.op.Op.TheVariants as op
use Rattle.gp_grammar.specs.Grammar as g

pub lift : (p : Phrase) (a : Lexemes) (x : Term) → Derives g.primary a x → Derives p a x
lift (g.operations l.Disjunction) a x i = g.one_operand l.Disjunction a x (g.one_operand l.Conjunction a x (g.not_negated a x (g.no_test a x (g.not_compared a x (g.one_operand l.Sum a x (g.one_operand l.Product a x (g.not_signed a x i)))))))
lift (g.operations l.Conjunction) a x i = g.one_operand l.Conjunction a x (g.not_negated a x (g.no_test a x (g.not_compared a x (g.one_operand l.Sum a x (g.one_operand l.Product a x (g.not_signed a x i))))))
lift g.negation a x i = g.not_negated a x (g.no_test a x (g.not_compared a x (g.one_operand l.Sum a x (g.one_operand l.Product a x (g.not_signed a x i)))))
lift g.test a x i = g.no_test a x (g.not_compared a x (g.one_operand l.Sum a x (g.one_operand l.Product a x (g.not_signed a x i))))
lift g.comparison a x i = g.not_compared a x (g.one_operand l.Sum a x (g.one_operand l.Product a x (g.not_signed a x i)))
lift (g.operations l.Sum) a x i = g.one_operand l.Sum a x (g.one_operand l.Product a x (g.not_signed a x i))
lift (g.operations l.Product) a x i = g.one_operand l.Product a x (g.not_signed a x i)
lift g.factor a x i = g.not_signed a x i
lift g.primary a x i = i

whole : (p : Phrase) (a : Lexemes) (x : Term) → Derives p a x → IsTerm a x
whole (g.operations l.Disjunction) a x i = i
whole (g.operations l.Conjunction) a x i = g.one_operand l.Disjunction a x i
whole g.negation a x i = g.one_operand l.Disjunction a x (g.one_operand l.Conjunction a x i)
whole g.test a x i = g.one_operand l.Disjunction a x (g.one_operand l.Conjunction a x (g.not_negated a x i))
whole g.comparison a x i = g.one_operand l.Disjunction a x (g.one_operand l.Conjunction a x (g.not_negated a x (g.no_test a x i)))
whole (g.operations l.Sum) a x i = g.one_operand l.Disjunction a x (g.one_operand l.Conjunction a x (g.not_negated a x (g.no_test a x (g.not_compared a x i))))
whole (g.operations l.Product) a x i = g.one_operand l.Disjunction a x (g.one_operand l.Conjunction a x (g.not_negated a x (g.no_test a x (g.not_compared a x (g.one_operand l.Sum a x i)))))
whole g.factor a x i = g.one_operand l.Disjunction a x (g.one_operand l.Conjunction a x (g.not_negated a x (g.no_test a x (g.not_compared a x (g.one_operand l.Sum a x (g.one_operand l.Product a x i))))))
whole g.primary a x i = lift (g.operations l.Disjunction) a x i

brackets : (p : Phrase) (a : Lexemes) (x : Term) → Derives p a x → Derives g.primary (bracketed a) x
brackets p a x i = g.brackets a x (whole p a x i)

some-is : (a b : Op) → Some a ≡ Some b → a ≡ b
some-is a b h = cc

symbol-of : (at : Level) (symbol : Symbol) (o : Op) → operator_of at symbol ≡ Some o → operator_of at (symbol_of o) ≡ Some o
symbol-of l.Disjunction s.Or o h = subst (λ (z : Op). operator_of l.Disjunction (symbol_of z) ≡ Some z) (some-is op.Or o h) refl
symbol-of l.Disjunction _ o h = cc
symbol-of l.Conjunction s.And o h = subst (λ (z : Op). operator_of l.Conjunction (symbol_of z) ≡ Some z) (some-is op.And o h) refl
symbol-of l.Conjunction _ o h = cc
symbol-of l.Sum s.Plus o h = subst (λ (z : Op). operator_of l.Sum (symbol_of z) ≡ Some z) (some-is op.Add o h) refl
symbol-of l.Sum s.Minus o h = subst (λ (z : Op). operator_of l.Sum (symbol_of z) ≡ Some z) (some-is op.Sub o h) refl
symbol-of l.Sum _ o h = cc
symbol-of l.Product s.Star o h = subst (λ (z : Op). operator_of l.Product (symbol_of z) ≡ Some z) (some-is op.Mul o h) refl
symbol-of l.Product _ o h = cc

cmp-sign : (symbol : Symbol) (o : Op) → comparison_of symbol ≡ Some o → comparison_of (symbol_of o) ≡ Some o
cmp-sign s.Eq o h = subst (λ (z : Op). comparison_of (symbol_of z) ≡ Some z) (some-is op.Eq o h) refl
cmp-sign s.Ne o h = subst (λ (z : Op). comparison_of (symbol_of z) ≡ Some z) (some-is op.Ne o h) refl
cmp-sign s.Lt o h = subst (λ (z : Op). comparison_of (symbol_of z) ≡ Some z) (some-is op.Lt o h) refl
cmp-sign s.Le o h = subst (λ (z : Op). comparison_of (symbol_of z) ≡ Some z) (some-is op.Le o h) refl
cmp-sign s.Gt o h = subst (λ (z : Op). comparison_of (symbol_of z) ≡ Some z) (some-is op.Gt o h) refl
cmp-sign s.Ge o h = subst (λ (z : Op). comparison_of (symbol_of z) ≡ Some z) (some-is op.Ge o h) refl
cmp-sign _ o h = cc

pub canonical-derived : {p : Phrase} {a : Lexemes} {x : Term} → Derives p a x → Derives g.primary (term_lexemes x) x
canonical-derived (g.operation at o symbol a b x y e i j) =
    brackets (g.operations at) _ _ (g.operation at o (symbol_of o) (term_lexemes x) (term_lexemes y) x y (symbol-of at symbol o e) (lift (g.operations at) _ _ (canonical-derived i)) (lift (operand at) _ _ (canonical-derived j)))
canonical-derived (g.one_operand at a x i) = canonical-derived i
canonical-derived (g.negated a x i) = brackets g.negation _ _ (g.negated (term_lexemes x) x (lift g.test _ _ (canonical-derived i)))
canonical-derived (g.not_negated a x i) = canonical-derived i
canonical-derived (g.null_test a x i) = brackets g.test _ _ (g.null_test (term_lexemes x) x (lift g.comparison _ _ (canonical-derived i)))
canonical-derived (g.not_null_test a x i) = brackets g.test _ _ (g.not_null_test (term_lexemes x) x (lift g.comparison _ _ (canonical-derived i)))
canonical-derived (g.true_test a x i) = brackets g.test _ _ (g.true_test (term_lexemes x) x (lift g.comparison _ _ (canonical-derived i)))
canonical-derived (g.not_true_test a x i) = brackets g.test _ _ (g.not_true_test (term_lexemes x) x (lift g.comparison _ _ (canonical-derived i)))
canonical-derived (g.no_test a x i) = canonical-derived i
canonical-derived (g.compared o symbol a b x y e i j) =
    brackets g.comparison _ _ (g.compared o (symbol_of o) (term_lexemes x) (term_lexemes y) x y (cmp-sign symbol o e) (lift (g.operations l.Sum) _ _ (canonical-derived i)) (lift (g.operations l.Sum) _ _ (canonical-derived j)))
canonical-derived (g.not_compared a x i) = canonical-derived i
canonical-derived (g.signed a x i) = brackets g.factor _ _ (g.signed (term_lexemes x) x (canonical-derived i))
canonical-derived (g.not_signed a x i) = canonical-derived i
canonical-derived (g.number n) = g.number n
canonical-derived (g.text_literal bytes) = g.text_literal bytes
canonical-derived g.null_literal = g.null_literal
canonical-derived (g.column name) = g.column name
canonical-derived (g.qualified_column item name) = g.qualified_column item name
canonical-derived (g.brackets a x i) = canonical-derived i
canonical-derived (g.choice a b c x y z i j k) =
    g.choice (term_lexemes x) (term_lexemes y) (term_lexemes z) x y z (lift (g.operations l.Disjunction) _ _ (canonical-derived i)) (lift (g.operations l.Disjunction) _ _ (canonical-derived j)) (lift (g.operations l.Disjunction) _ _ (canonical-derived k))
