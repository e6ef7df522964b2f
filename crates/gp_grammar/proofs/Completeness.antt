-- The parser of terms is complete: it takes what the grammar derives, where the next lexeme does not go on with it.
use Rattle.gp_grammar.proofs.Prelude.{◌≡◌, ℕ, ◌<◌, ◌≤◌, List, [], ◌∷◌, ◌++◌, Some, None, Ok, Err, true, false, refl, sym, ap, arith, ◌∙◌, append_assoc, Symbol, Sign, Word, Number, Big, Text, Level, Op, Lexemes, Term, col, binary, neg, not, is_null, is_true, case, capped, operator_of, comparison_of, Outcome, Parser, ◌>>=◌, strip, expected, identifier, next_operator, by_option, with_rest, term, Phrase, Derives, IsTerm, operand}
use Rattle.gp_lexer.specs.declared.lexeme.Symbol.TheVariants as s
use Rattle.gp_grammar.specs.declared.level.Level.TheVariants as l
use Rattle.gp_grammar.specs.Parsing as r
use Rattle.gp_grammar.specs.Parsing.{expect}
use Rattle.gp_grammar.proofs.Agreement.{term-unfolds, chain-none, chain-step}
use Rattle.gp_grammar.specs.Grammar as g

-- how tightly a symbol binds the lexemes before it
abbrev binds : Symbol → ℕ
binds s.Dot = 9
binds s.Star = 7
binds s.Plus = 6
binds s.Minus = 6
binds s.Eq = 5
binds s.Ne = 5
binds s.Lt = 5
binds s.Le = 5
binds s.Gt = 5
binds s.Ge = 5
binds s.Is = 4
binds s.And = 2
binds s.Or = 1
binds _ = 0

abbrev pub first_binds : Lexemes → ℕ
first_binds [] = 0
first_binds (Sign symbol ∷ ts) = binds symbol
first_binds (Word word ∷ ts) = 0
first_binds (Number n ∷ ts) = 0
first_binds (Big ∷ ts) = 0
first_binds (Text bytes ∷ ts) = 0

-- a phrase goes on only with symbols that bind tighter than this
abbrev rank : Phrase → ℕ
rank (g.operations l.Disjunction) = 1
rank (g.operations l.Conjunction) = 2
rank g.negation = 2
rank g.test = 2
rank g.comparison = 4
rank (g.operations l.Sum) = 6
rank (g.operations l.Product) = 7
rank g.factor = 7
rank g.primary = 7

abbrev reads : Phrase → Parser Term
reads (g.operations at) ts = r.operations term at ts
reads g.negation ts = r.negation term ts
reads g.test ts = r.full_test term ts
reads g.comparison ts = r.sum term ts >>= (λ x. r.compared term x.0 x.1 (next_operator comparison_of x.1))
reads g.factor ts = r.factor term ts
reads g.primary ts = r.primary term ts

abbrev finish : Phrase → Term → Lexemes → Outcome (Term × Lexemes)
finish (g.operations at) x rest = r.chain (operator_of at) (r.operand term at) x rest
finish g.negation x rest = Ok (x, rest)
finish g.test x rest = Ok (x, rest)
finish g.comparison x rest = Ok (x, rest)
finish g.factor x rest = Ok (x, rest)
finish g.primary x rest = Ok (x, rest)

-- ---- which symbols do not go on with a phrase

no-op : (at : Level) (symbol : Symbol) → binds symbol < rank (g.operations at) → operator_of at symbol ≡ None
no-op l.Disjunction s.Or h = absurd (omega arith)
no-op l.Disjunction _ h = refl
no-op l.Conjunction s.And h = absurd (omega arith)
no-op l.Conjunction _ h = refl
no-op l.Sum s.Plus h = absurd (omega arith)
no-op l.Sum s.Minus h = absurd (omega arith)
no-op l.Sum _ h = refl
no-op l.Product s.Star h = absurd (omega arith)
no-op l.Product _ h = refl

no-next_operator : (at : Level) (ts : Lexemes) → first_binds ts < rank (g.operations at) → next_operator (operator_of at) ts ≡ None
no-next_operator at [] h = refl
no-next_operator at (Sign symbol ∷ ts) h = ap (λ x. with_rest ts x) (no-op at symbol h)
no-next_operator at (Word word ∷ ts) h = refl
no-next_operator at (Number n ∷ ts) h = refl
no-next_operator at (Big ∷ ts) h = refl
no-next_operator at (Text bytes ∷ ts) h = refl

no-cmp : (symbol : Symbol) → binds symbol < 5 → comparison_of symbol ≡ None
no-cmp s.Eq h = absurd (omega arith)
no-cmp s.Ne h = absurd (omega arith)
no-cmp s.Lt h = absurd (omega arith)
no-cmp s.Le h = absurd (omega arith)
no-cmp s.Gt h = absurd (omega arith)
no-cmp s.Ge h = absurd (omega arith)
no-cmp s.Dot h = absurd (omega arith)
no-cmp _ h = refl

no-comparison_of : (ts : Lexemes) → first_binds ts < 5 → next_operator comparison_of ts ≡ None
no-comparison_of [] h = refl
no-comparison_of (Sign symbol ∷ ts) h = ap (λ x. with_rest ts x) (no-cmp symbol h)
no-comparison_of (Word word ∷ ts) h = refl
no-comparison_of (Number n ∷ ts) h = refl
no-comparison_of (Big ∷ ts) h = refl
no-comparison_of (Text bytes ∷ ts) h = refl

no-is_by : (symbol : Symbol) (ts : Lexemes) → binds symbol < 4 → strip s.Is (Sign symbol ∷ ts) ≡ None
no-is_by s.Is ts h = absurd (omega arith)
no-is_by _ ts h = refl

no-is : (ts : Lexemes) → first_binds ts < 4 → strip s.Is ts ≡ None
no-is [] h = refl
no-is (Sign symbol ∷ ts) h = no-is_by symbol ts h
no-is (Word word ∷ ts) h = refl
no-is (Number n ∷ ts) h = refl
no-is (Big ∷ ts) h = refl
no-is (Text bytes ∷ ts) h = refl

no-dot_by : (symbol : Symbol) (ts : Lexemes) → binds symbol < 9 → strip s.Dot (Sign symbol ∷ ts) ≡ None
no-dot_by s.Dot ts h = absurd (omega arith)
no-dot_by _ ts h = refl

no-dot : (ts : Lexemes) → first_binds ts < 9 → strip s.Dot ts ≡ None
no-dot [] h = refl
no-dot (Sign symbol ∷ ts) h = no-dot_by symbol ts h
no-dot (Word word ∷ ts) h = refl
no-dot (Number n ∷ ts) h = refl
no-dot (Big ∷ ts) h = refl
no-dot (Text bytes ∷ ts) h = refl

op-binds : (at : Level) (symbol : Symbol) (o : Op) → operator_of at symbol ≡ Some o → binds symbol ≡ rank (g.operations at)
op-binds l.Disjunction s.Or o h = refl
op-binds l.Disjunction _ o h = cc
op-binds l.Conjunction s.And o h = refl
op-binds l.Conjunction _ o h = cc
op-binds l.Sum s.Plus o h = refl
op-binds l.Sum s.Minus o h = refl
op-binds l.Sum _ o h = cc
op-binds l.Product s.Star o h = refl
op-binds l.Product _ o h = cc

cmp-binds : (symbol : Symbol) (o : Op) → comparison_of symbol ≡ Some o → binds symbol ≡ 5
cmp-binds s.Eq o h = refl
cmp-binds s.Ne o h = refl
cmp-binds s.Lt o h = refl
cmp-binds s.Le o h = refl
cmp-binds s.Gt o h = refl
cmp-binds s.Ge o h = refl
cmp-binds _ o h = cc

-- ---- which symbols do not begin a phrase

abbrev IsTight : Phrase → Type 0
IsTight (g.operations l.Disjunction) = ⊥
IsTight (g.operations l.Conjunction) = ⊥
IsTight g.negation = ⊥
IsTight _ = Unit {0}

no-not : {p : Phrase} {a : Lexemes} {x : Term} → Derives p a x → IsTight p → (rest : Lexemes) → strip s.Not (a ++ rest) ≡ None
no-not (g.operation l.Disjunction o symbol a b x y e i j) h rest = absurd h
no-not (g.operation l.Conjunction o symbol a b x y e i j) h rest = absurd h
no-not (g.operation l.Sum o symbol a b x y e i j) h rest = ap (λ z. strip s.Not z) (append_assoc a (Sign symbol ∷ b) rest) ∙ no-not i tt (Sign symbol ∷ (b ++ rest))
no-not (g.operation l.Product o symbol a b x y e i j) h rest = ap (λ z. strip s.Not z) (append_assoc a (Sign symbol ∷ b) rest) ∙ no-not i tt (Sign symbol ∷ (b ++ rest))
no-not (g.one_operand l.Disjunction a x i) h rest = absurd h
no-not (g.one_operand l.Conjunction a x i) h rest = absurd h
no-not (g.one_operand l.Sum a x i) h rest = no-not i tt rest
no-not (g.one_operand l.Product a x i) h rest = no-not i tt rest
no-not (g.negated a x i) h rest = absurd h
no-not (g.not_negated a x i) h rest = absurd h
no-not (g.null_test a x i) h rest = ap (λ z. strip s.Not z) (append_assoc a (Sign s.Is ∷ Sign s.Null ∷ []) rest) ∙ no-not i tt _
no-not (g.not_null_test a x i) h rest = ap (λ z. strip s.Not z) (append_assoc a (Sign s.Is ∷ Sign s.Not ∷ Sign s.Null ∷ []) rest) ∙ no-not i tt _
no-not (g.true_test a x i) h rest = ap (λ z. strip s.Not z) (append_assoc a (Sign s.Is ∷ Sign s.True ∷ []) rest) ∙ no-not i tt _
no-not (g.not_true_test a x i) h rest = ap (λ z. strip s.Not z) (append_assoc a (Sign s.Is ∷ Sign s.Not ∷ Sign s.True ∷ []) rest) ∙ no-not i tt _
no-not (g.no_test a x i) h rest = no-not i tt rest
no-not (g.compared o symbol a b x y e i j) h rest = ap (λ z. strip s.Not z) (append_assoc a (Sign symbol ∷ b) rest) ∙ no-not i tt (Sign symbol ∷ (b ++ rest))
no-not (g.not_compared a x i) h rest = no-not i tt rest
no-not (g.signed a x i) h rest = refl
no-not (g.not_signed a x i) h rest = no-not i tt rest
no-not (g.number n) h rest = refl
no-not (g.text_literal bytes) h rest = refl
no-not g.null_literal h rest = refl
no-not (g.column name) h rest = refl
no-not (g.qualified_column item name) h rest = refl
no-not (g.brackets a x i) h rest = refl
no-not (g.choice a b c x y z i j k) h rest = refl

no-minus : {a : Lexemes} {x : Term} → Derives g.primary a x → (rest : Lexemes) → strip s.Minus (a ++ rest) ≡ None
no-minus (g.number n) rest = refl
no-minus (g.text_literal bytes) rest = refl
no-minus g.null_literal rest = refl
no-minus (g.column name) rest = refl
no-minus (g.qualified_column item name) rest = refl
no-minus (g.brackets a x i) rest = refl
no-minus (g.choice a b c x y z i j k) rest = refl

-- ---- single steps of the parser

part-is : (at : Level) (ts : Lexemes) → r.operand term at ts ≡ reads (operand at) ts
part-is l.Disjunction ts = refl
part-is l.Conjunction ts = refl
part-is l.Sum ts = refl
part-is l.Product ts = refl

operand-rank : (at : Level) (n : ℕ) → n ≤ rank (g.operations at) → n ≤ rank (operand at)
operand-rank l.Disjunction n h = omega arith
operand-rank l.Conjunction n h = omega arith
operand-rank l.Sum n h = omega arith
operand-rank l.Product n h = omega arith

operand-finish : (at : Level) (x : Term) (rest : Lexemes) → first_binds rest ≤ rank (g.operations at) → finish (operand at) x rest ≡ Ok (x, rest)
operand-finish l.Disjunction x rest h = chain-none (operator_of l.Conjunction) (r.operand term l.Conjunction) x rest (no-next_operator l.Conjunction rest (omega arith))
operand-finish l.Conjunction x rest h = refl
operand-finish l.Sum x rest h = chain-none (operator_of l.Product) (r.operand term l.Product) x rest (no-next_operator l.Product rest (omega arith))
operand-finish l.Product x rest h = refl

bind-assoc : {A B C : Type 0} (p : Outcome A) (f : A → Outcome B) (k : B → Outcome C) → (p >>= f) >>= k ≡ p >>= (λ x. f x >>= k)
bind-assoc (Ok x) f k = refl
bind-assoc (Err e) f k = refl

abbrev compared_then : Term × Lexemes → Outcome (Term × Lexemes)
compared_then x = r.compared term x.0 x.1 (next_operator comparison_of x.1)

abbrev whether_then : Term × Lexemes → Outcome (Term × Lexemes)
whether_then b = r.optional_test b.0 b.1 (strip s.Is b.1)

test-of : (ts rest : Lexemes) (x : Term) → reads g.comparison ts ≡ Ok (x, rest) → r.full_test term ts ≡ r.optional_test x rest (strip s.Is rest)
unfolding r.full_test
test-of ts rest x h = sym (bind-assoc (r.sum term ts) compared_then whether_then) ∙ ap (λ p. p >>= whether_then) h

level-of : (at : Level) (ts rest : Lexemes) (x : Term) → r.operand term at ts ≡ Ok (x, rest) → r.operations term at ts ≡ r.chain (operator_of at) (r.operand term at) x rest
unfolding r.joined
level-of at ts rest x h = ap (λ p. p >>= (λ y. r.chain (operator_of at) (r.operand term at) y.0 y.1)) h

sum-of : (ts rest : Lexemes) (x : Term) → r.operations term l.Sum ts ≡ r.chain (operator_of l.Sum) (r.operand term l.Sum) x rest → first_binds rest < 6 → r.sum term ts ≡ Ok (x, rest)
sum-of ts rest x h k = h ∙ chain-none (operator_of l.Sum) (r.operand term l.Sum) x rest (no-next_operator l.Sum rest k)

term-of : (ts rest : Lexemes) (x : Term) → r.operations term l.Disjunction ts ≡ r.chain (operator_of l.Disjunction) (r.operand term l.Disjunction) x rest → first_binds rest < 1 → term ts ≡ Ok (x, rest)
term-of ts rest x h k = term-unfolds ts ∙ h ∙ chain-none (operator_of l.Disjunction) (r.operand term l.Disjunction) x rest (no-next_operator l.Disjunction rest k)

brackets-of : (ts rest : Lexemes) (x : Term) → term ts ≡ Ok (x, Sign s.Close ∷ rest) → r.brackets term ts ≡ Ok (x, rest)
unfolding r.brackets expect
brackets-of ts rest x h = ap (λ p. p >>= (λ i. expect s.Close i.1 >>= (λ rest. Ok (i.0, rest)))) h

abbrev choice4 : Term → Term → Term × Lexemes → Outcome (Term × Lexemes)
choice4 x y other = expect s.End other.1 >>= (λ rest. Ok (case x y other.0, rest))

abbrev choice3 : Term → Term × Lexemes → Outcome (Term × Lexemes)
choice3 x y = expect s.Else y.1 >>= (λ rest. term rest >>= choice4 x y.0)

abbrev choice2 : Term × Lexemes → Outcome (Term × Lexemes)
choice2 x = expect s.Then x.1 >>= (λ rest. term rest >>= choice3 x.0)

choice-of : (ts ts2 ts3 rest : Lexemes) (x y z : Term) → term ts ≡ Ok (x, Sign s.Then ∷ ts2) → term ts2 ≡ Ok (y, Sign s.Else ∷ ts3) → term ts3 ≡ Ok (z, Sign s.End ∷ rest)
    → r.choice term (Sign s.When ∷ ts) ≡ Ok (case x y z, rest)
unfolding r.choice expect
choice-of ts ts2 ts3 rest x y z a b c = ap (λ p. p >>= choice2) a ∙ ap (λ p. p >>= choice3 x) b ∙ ap (λ p. p >>= choice4 x y) c

negation-not : (ts rest : Lexemes) (x : Term) → r.full_test term ts ≡ Ok (x, rest) → r.negation term (Sign s.Not ∷ ts) ≡ Ok (not x, rest)
unfolding r.negation
negation-not ts rest x h = ap (λ p. p >>= (λ y. Ok (not y.0, y.1))) h

negation-plain : (ts rest : Lexemes) (x : Term) → strip s.Not ts ≡ None → r.full_test term ts ≡ Ok (x, rest) → r.negation term ts ≡ Ok (x, rest)
unfolding r.negation
negation-plain ts rest x e h = ap (λ o. r.negated term ts o) e ∙ h

factor-minus : (ts rest : Lexemes) (x : Term) → r.primary term ts ≡ Ok (x, rest) → r.factor term (Sign s.Minus ∷ ts) ≡ Ok (neg x, rest)
unfolding r.factor
factor-minus ts rest x h = ap (λ p. p >>= (λ y. Ok (neg y.0, y.1))) h

factor-plain : (ts rest : Lexemes) (x : Term) → strip s.Minus ts ≡ None → r.primary term ts ≡ Ok (x, rest) → r.factor term ts ≡ Ok (x, rest)
unfolding r.factor
factor-plain ts rest x e h = ap (λ o. r.signed term ts o) e ∙ h

optional_test-null-of : (x : Term) (rest : Lexemes) → r.optional_test x (Sign s.Is ∷ Sign s.Null ∷ rest) (Some (Sign s.Null ∷ rest)) ≡ Ok (is_null x true, rest)
unfolding r.value_test expect
optional_test-null-of x rest = refl

optional_test-not-null-of : (x : Term) (rest : Lexemes) → r.optional_test x (Sign s.Is ∷ Sign s.Not ∷ Sign s.Null ∷ rest) (Some (Sign s.Not ∷ Sign s.Null ∷ rest)) ≡ Ok (is_null x false, rest)
unfolding r.value_test expect
optional_test-not-null-of x rest = refl

optional_test-true-of : (x : Term) (rest : Lexemes) → r.optional_test x (Sign s.Is ∷ Sign s.True ∷ rest) (Some (Sign s.True ∷ rest)) ≡ Ok (is_true x true, rest)
unfolding r.value_test expect
optional_test-true-of x rest = refl

optional_test-not-true-of : (x : Term) (rest : Lexemes) → r.optional_test x (Sign s.Is ∷ Sign s.Not ∷ Sign s.True ∷ rest) (Some (Sign s.Not ∷ Sign s.True ∷ rest)) ≡ Ok (is_true x false, rest)
unfolding r.value_test expect
optional_test-not-true-of x rest = refl

column-plain : (name : List ℕ) (rest : Lexemes) → strip s.Dot rest ≡ None → r.column name rest ≡ Ok (col None name, rest)
unfolding r.column
column-plain name rest e = ap (λ o. r.column_with name rest o) e

column-qualified : (item name : List ℕ) (rest : Lexemes) → r.column item (Sign s.Dot ∷ Word name ∷ rest) ≡ Ok (col (Some item) name, rest)
unfolding r.column
column-qualified item name rest = refl

compared-plain : (ts rest : Lexemes) (x : Term) → r.sum term ts ≡ Ok (x, rest) → next_operator comparison_of rest ≡ None → reads g.comparison ts ≡ Ok (x, rest)
compared-plain ts rest x h e = ap (λ p. p >>= compared_then) h ∙ ap (λ o. r.compared term x rest o) e

compared-both : (ts us rest : Lexemes) (symbol : Symbol) (o : Op) (x y : Term) → comparison_of symbol ≡ Some o → r.sum term ts ≡ Ok (x, Sign symbol ∷ us) → r.sum term us ≡ Ok (y, rest)
    → reads g.comparison ts ≡ Ok (binary o x y, rest)
compared-both ts us rest symbol o x y e h k =
    ap (λ p. p >>= compared_then) h ∙ ap (λ found. r.compared term x (Sign symbol ∷ us) (with_rest us found)) e ∙ ap (λ p. p >>= (λ r. Ok (binary o x r.0, r.1))) k

moved : (p : Phrase) (ts us : Lexemes) (out : Outcome (Term × Lexemes)) → ts ≡ us → reads p us ≡ out → reads p ts ≡ out
moved p ts us out e h = ap (λ z. reads p z) e ∙ h

-- ---- the theorem, by induction on the derivation

pub complete : {p : Phrase} {a : Lexemes} {x : Term} → Derives p a x → (rest : Lexemes) → first_binds rest ≤ rank p → reads p (a ++ rest) ≡ finish p (capped x) rest
complete (g.operation at o symbol a b x y e i j) rest h =
    moved (g.operations at) _ _ _ (append_assoc a (Sign symbol ∷ b) rest)
    (chain-step at (capped x) (capped y) (Sign symbol ∷ (b ++ rest)) (b ++ rest) rest o _ (complete i (Sign symbol ∷ (b ++ rest)) (omega (arith, op-binds at symbol o e)))
    (ap (λ f. with_rest (b ++ rest) f) e) (part-is at (b ++ rest) ∙ complete j rest (operand-rank at _ h) ∙ operand-finish at (capped y) rest h))
complete (g.one_operand at a x i) rest h = level-of at (a ++ rest) rest (capped x) (part-is at (a ++ rest) ∙ complete i rest (operand-rank at _ h) ∙ operand-finish at (capped x) rest h)
complete (g.negated a x i) rest h = negation-not (a ++ rest) rest (capped x) (complete i rest h)
complete (g.not_negated a x i) rest h = negation-plain (a ++ rest) rest (capped x) (no-not i tt rest) (complete i rest h)
complete (g.null_test a x i) rest h = moved g.test _ _ _ (append_assoc a (Sign s.Is ∷ Sign s.Null ∷ []) rest)
    (test-of _ _ (capped x) (complete i (Sign s.Is ∷ Sign s.Null ∷ rest) (omega arith)) ∙ optional_test-null-of (capped x) rest)
complete (g.not_null_test a x i) rest h = moved g.test _ _ _ (append_assoc a (Sign s.Is ∷ Sign s.Not ∷ Sign s.Null ∷ []) rest)
    (test-of _ _ (capped x) (complete i (Sign s.Is ∷ Sign s.Not ∷ Sign s.Null ∷ rest) (omega arith)) ∙ optional_test-not-null-of (capped x) rest)
complete (g.true_test a x i) rest h = moved g.test _ _ _ (append_assoc a (Sign s.Is ∷ Sign s.True ∷ []) rest)
    (test-of _ _ (capped x) (complete i (Sign s.Is ∷ Sign s.True ∷ rest) (omega arith)) ∙ optional_test-true-of (capped x) rest)
complete (g.not_true_test a x i) rest h = moved g.test _ _ _ (append_assoc a (Sign s.Is ∷ Sign s.Not ∷ Sign s.True ∷ []) rest)
    (test-of _ _ (capped x) (complete i (Sign s.Is ∷ Sign s.Not ∷ Sign s.True ∷ rest) (omega arith)) ∙ optional_test-not-true-of (capped x) rest)
complete (g.no_test a x i) rest h = test-of (a ++ rest) rest (capped x) (complete i rest (omega arith)) ∙ ap (λ o. r.optional_test (capped x) rest o) (no-is rest (omega arith))
complete (g.compared o symbol a b x y e i j) rest h = moved g.comparison _ _ _ (append_assoc a (Sign symbol ∷ b) rest)
    (compared-both _ (b ++ rest) rest symbol o (capped x) (capped y) e
    (sum-of _ _ (capped x) (complete i (Sign symbol ∷ (b ++ rest)) (omega (arith, cmp-binds symbol o e))) (omega (arith, cmp-binds symbol o e)))
    (sum-of (b ++ rest) rest (capped y) (complete j rest (omega arith)) (omega arith)))
complete (g.not_compared a x i) rest h = compared-plain (a ++ rest) rest (capped x) (sum-of (a ++ rest) rest (capped x) (complete i rest (omega arith)) (omega arith)) (no-comparison_of rest (omega arith))
complete (g.signed a x i) rest h = factor-minus (a ++ rest) rest (capped x) (complete i rest h)
complete (g.not_signed a x i) rest h = factor-plain (a ++ rest) rest (capped x) (no-minus i rest) (complete i rest h)
complete (g.number n) rest h = refl
complete (g.text_literal bytes) rest h = refl
complete g.null_literal rest h = refl
complete (g.column name) rest h = column-plain name rest (no-dot rest (omega arith))
complete (g.qualified_column item name) rest h = column-qualified item name rest
complete (g.brackets a x i) rest h = moved g.primary _ _ _ (ap (λ z. Sign s.Open ∷ z) (append_assoc a (Sign s.Close ∷ []) rest))
    (brackets-of (a ++ (Sign s.Close ∷ rest)) rest (capped x) (term-of _ _ (capped x) (complete i (Sign s.Close ∷ rest) (omega arith)) (omega arith)))
complete (g.choice a b c x y z i j k) rest h = moved g.primary _ _ _ (ap (λ u. Sign s.Case ∷ Sign s.When ∷ u) (simp append_assoc))
    (choice-of (a ++ (Sign s.Then ∷ (b ++ (Sign s.Else ∷ (c ++ (Sign s.End ∷ rest)))))) (b ++ (Sign s.Else ∷ (c ++ (Sign s.End ∷ rest)))) (c ++ (Sign s.End ∷ rest)) rest (capped x) (capped y) (capped z)
    (term-of _ _ (capped x) (complete i (Sign s.Then ∷ (b ++ (Sign s.Else ∷ (c ++ (Sign s.End ∷ rest))))) (omega arith)) (omega arith))
    (term-of _ _ (capped y) (complete j (Sign s.Else ∷ (c ++ (Sign s.End ∷ rest))) (omega arith)) (omega arith))
    (term-of _ _ (capped z) (complete k (Sign s.End ∷ rest) (omega arith)) (omega arith)))

-- a whole term is parsed, where the next lexeme does not go on with it
pub term-complete : (a : Lexemes) (x : Term) → IsTerm a x → (rest : Lexemes) → first_binds rest < 1 → term (a ++ rest) ≡ Ok (capped x, rest)
term-complete a x i rest h = term-of (a ++ rest) rest (capped x) (complete i rest (omega arith)) h
