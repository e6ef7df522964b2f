-- The parsers of terms leave fewer lexemes than they take, and the bound on their recursion does not matter where it is large enough.
use Rattle.gp_grammar.proofs.Prelude.{◌≡◌, ℕ, zero, suc, pos, ◌<◌, ◌≤◌, List, [], ◌∷◌, length, Option, Some, None, Ok, Err, IfOk, IfSome, Bool, true, false, cond, refl, sym, ap, subst, arith, ◌∙◌, Symbol, Lexeme, Sign, Word, Number, Big, Text, Level, Op, Lexemes, Term, null, int, text, col, binary, neg, not, is_null, is_true, case, operator_of, comparison_of, Outcome, Parser, is_symbol, ◌>>=◌, strip, expected, identifier, next_operator, by_option, with_rest}
use Rattle.gp_lexer.specs.declared.lexeme.Symbol.TheVariants as s
use Rattle.gp_grammar.specs.declared.level.Level.TheVariants as l
use Rattle.gp_grammar.specs.Parsing.{expect, chain_within, chain, joined, column_with, column, truth_test, value_test, is_test, optional_test, brackets, choice, primary_by, primary, signed, factor, sum, compared, full_test, negated, negation, operand, operations, term_within, term}

-- two outcomes are equal, and leave fewer lexemes than this
pub record Agree {A : Type 0} (n : ℕ) (p q : Outcome (A × Lexemes)) : Type 0 where
  pub same : p ≡ q
  pub below : IfOk p (λ r. length r.1 < n)

pub agree-refl : {A : Type 0} (n : ℕ) (p : Outcome (A × Lexemes)) → IfOk p (λ r. length r.1 < n) → Agree n p p
agree-refl n p h = record { same = refl; below = h }

pub agree-bind : {A B : Type 0} (n m : ℕ) (p q : Outcome (A × Lexemes)) (f g : A × Lexemes → Outcome (B × Lexemes)) → Agree n p q
    → ((r : A × Lexemes) → length r.1 < n → Agree m (f r) (g r)) → Agree m (p >>= f) (q >>= g)
agree-bind n m (Ok r) q f g h k = let P : Outcome _ → Type 0 = λ x. Agree m (f r) (x >>= g) in subst P h.same (k r h.below)
agree-bind n m (Err e) q f g h k = let P : Outcome _ → Type 0 = λ x. Agree m (Err e) (x >>= g) in subst P h.same (agree-refl m (Err e) tt)

pub record RestsAgree (n : ℕ) (p q : Outcome Lexemes) : Type 0 where
  pub same : p ≡ q
  pub below : IfOk p (λ rest. length rest < n)

pub rest-bind : {B : Type 0} (n m : ℕ) (p q : Outcome Lexemes) (f g : Lexemes → Outcome (B × Lexemes)) → RestsAgree n p q
    → ((rest : Lexemes) → length rest < n → Agree m (f rest) (g rest)) → Agree m (p >>= f) (q >>= g)
rest-bind n m (Ok r) q f g h k = let P : Outcome _ → Type 0 = λ x. Agree m (f r) (x >>= g) in subst P h.same (k r h.below)
rest-bind n m (Err e) q f g h k = let P : Outcome _ → Type 0 = λ x. Agree m (Err e) (x >>= g) in subst P h.same (agree-refl m (Err e) tt)

pub weaker : {A : Type 0} (n m : ℕ) (p : Outcome (A × Lexemes)) → n ≤ m → IfOk p (λ r. length r.1 < n) → IfOk p (λ r. length r.1 < m)
weaker n m (Ok r) h k = omega arith
weaker n m (Err e) h k = tt

pub agree-weaken : {A : Type 0} (n m : ℕ) (p q : Outcome (A × Lexemes)) → n ≤ m → Agree n p q → Agree m p q
agree-weaken n m p q h k = record { same = k.same; below = weaker n m p h k.below }

if-less : (b : Bool) (t : Lexeme) (ts : Lexemes) → IfSome (cond b (Some ts) None) (λ rest. length rest < length (t ∷ ts))
if-less true t ts = omega arith
if-less false t ts = tt

pub strip-less : (symbol : Symbol) (ts : Lexemes) → IfSome (strip symbol ts) (λ rest. length rest < length ts)
strip-less symbol [] = tt
strip-less symbol (t ∷ ts) = if-less (is_symbol symbol t) t ts

expected-agree : (ts : Lexemes) (o : Option Lexemes) → IfSome o (λ rest. length rest < length ts) → RestsAgree (length ts) (expected ts o) (expected ts o)
expected-agree ts None h = record { same = refl; below = tt }
expected-agree ts (Some rest) h = record { same = refl; below = h }

pub expect-agree : (symbol : Symbol) (ts : Lexemes) → RestsAgree (length ts) (expect symbol ts) (expect symbol ts)
unfolding expect
expect-agree symbol ts = expected-agree ts (strip symbol ts) (strip-less symbol ts)

with_rest-less : (t : Lexeme) (ts : Lexemes) (o : Option Op) → IfSome (with_rest ts o) (λ o. length o.1 < length (t ∷ ts))
with_rest-less t ts None = tt
with_rest-less t ts (Some op) = omega arith

pub next_operator-less : (ops : Symbol → Option Op) (ts : Lexemes) → IfSome (next_operator ops ts) (λ o. length o.1 < length ts)
next_operator-less ops [] = tt
next_operator-less ops (Sign symbol ∷ ts) = with_rest-less (Sign symbol) ts (ops symbol)
next_operator-less ops (Word word ∷ ts) = tt
next_operator-less ops (Number n ∷ ts) = tt
next_operator-less ops (Big ∷ ts) = tt
next_operator-less ops (Text bytes ∷ ts) = tt

pub identifier-agree : (ts : Lexemes) → Agree (length ts) (identifier ts) (identifier ts)
identifier-agree [] = agree-refl _ (Err []) tt
identifier-agree (Sign symbol ∷ ts) = agree-refl _ (Err (Sign symbol ∷ ts)) tt
identifier-agree (Word word ∷ ts) = agree-refl _ (Ok (word, ts)) (omega arith)
identifier-agree (Number n ∷ ts) = agree-refl _ (Err (Number n ∷ ts)) tt
identifier-agree (Big ∷ ts) = agree-refl _ (Err (Big ∷ ts)) tt
identifier-agree (Text bytes ∷ ts) = agree-refl _ (Err (Text bytes ∷ ts)) tt

-- two parsers agree on fewer than n lexemes, and leave fewer
abbrev pub AgreeBelow : ℕ → Parser Term → Parser Term → Type 0
AgreeBelow n f g = (ts : Lexemes) → length ts < n → Agree (length ts) (f ts) (g ts)

-- ---- operators

chain_step-agree : (n m : ℕ) (ops : Symbol → Option Op) (p q : Parser Term) (left : Term) (ts : Lexemes) (f g : Term → Parser Term) → AgreeBelow n p q → length ts < n
    → ((x : Term) (us : Lexemes) → length us < length ts → Agree (suc (length us)) (f x us) (g x us))
    → (o : Option (Op × Lexemes)) → IfSome o (λ o. length o.1 < length ts)
    → Agree (suc (length ts)) (by_option o (Ok (left, ts)) (λ o. p o.1 >>= (λ r. f (binary o.0 left r.0) r.1)))
    (by_option o (Ok (left, ts)) (λ o. q o.1 >>= (λ r. g (binary o.0 left r.0) r.1)))
chain_step-agree n m ops p q left ts f g agrees lt next None h = agree-refl _ (Ok (left, ts)) (omega arith)
chain_step-agree n m ops p q left ts f g agrees lt next (Some o) h =
    agree-bind (length o.1) (suc (length ts)) (p o.1) (q o.1) (λ r. f (binary o.0 left r.0) r.1) (λ r. g (binary o.0 left r.0) r.1) (agrees o.1 (omega arith))
    (λ r lt'. agree-weaken (suc (length r.1)) (suc (length ts)) (f (binary o.0 left r.0) r.1) (g (binary o.0 left r.0) r.1) (omega arith) (next (binary o.0 left r.0) r.1 (omega arith)))

pub chain_within-agree : (n : ℕ) (ops : Symbol → Option Op) (p q : Parser Term) → AgreeBelow n p q → (j k : ℕ) (left : Term) (ts : Lexemes) → length ts < n
    → length ts ≤ j → length ts ≤ k → Agree (suc (length ts)) (chain_within ops p j left ts) (chain_within ops q k left ts)
unfolding chain_within
chain_within-agree n ops p q agrees zero zero left ts lt a b = agree-refl _ (Ok (left, ts)) (omega arith)
chain_within-agree n ops p q agrees zero (suc k) left [] lt a b = agree-refl _ (Ok (left, [])) (omega arith)
chain_within-agree n ops p q agrees zero (suc k) left (t ∷ ts) lt a b = absurd (omega arith)
chain_within-agree n ops p q agrees (suc j) zero left [] lt a b = agree-refl _ (Ok (left, [])) (omega arith)
chain_within-agree n ops p q agrees (suc j) zero left (t ∷ ts) lt a b = absurd (omega arith)
chain_within-agree n ops p q agrees (suc j) (suc k) left ts lt a b =
    chain_step-agree n n ops p q left ts (chain_within ops p j) (chain_within ops q k) agrees lt
    (λ x us lt'. chain_within-agree n ops p q agrees j k x us (omega arith) (omega arith) (omega arith)) (next_operator ops ts) (next_operator-less ops ts)

pub joined-agree : (n : ℕ) (ops : Symbol → Option Op) (p q : Parser Term) → AgreeBelow n p q → AgreeBelow n (joined ops p) (joined ops q)
unfolding joined chain
joined-agree n ops p q agrees ts lt =
    agree-bind (length ts) (length ts) (p ts) (q ts) (λ r. chain ops p r.0 r.1) (λ r. chain ops q r.0 r.1) (agrees ts lt)
    (λ r lt'. agree-weaken (suc (length r.1)) (length ts) (chain ops p r.0 r.1) (chain ops q r.0 r.1) (omega arith)
    (chain_within-agree n ops p q agrees (length r.1) (length r.1) r.0 r.1 (omega arith) (omega arith) (omega arith)))

-- ---- after the first lexeme of a column or a test

column_with-agree : (word : List ℕ) (ts : Lexemes) (o : Option Lexemes) → IfSome o (λ rest. length rest < length ts)
    → Agree (suc (length ts)) (column_with word ts o) (column_with word ts o)
column_with-agree word ts None h = agree-refl _ (Ok (col None word, ts)) (omega arith)
column_with-agree word ts (Some rest) h =
    agree-bind (length rest) (suc (length ts)) (identifier rest) (identifier rest) (λ r. Ok (col (Some word) r.0, r.1)) (λ r. Ok (col (Some word) r.0, r.1))
    (identifier-agree rest) (λ r lt. agree-refl _ (Ok (col (Some word) r.0, r.1)) (omega arith))

pub column-agree : (word : List ℕ) (ts : Lexemes) → Agree (suc (length ts)) (column word ts) (column word ts)
unfolding column
column-agree word ts = column_with-agree word ts (strip s.Dot ts) (strip-less s.Dot ts)

truth_test-agree : (left : Term) (is : Bool) (ts : Lexemes) (o : Option Lexemes) → IfSome o (λ rest. length rest < length ts)
    → Agree (length ts) (truth_test left is ts o) (truth_test left is ts o)
truth_test-agree left is ts None h =
    rest-bind (length ts) (length ts) (expect s.True ts) (expect s.True ts) (λ rest. Ok (is_true left is, rest)) (λ rest. Ok (is_true left is, rest))
    (expect-agree s.True ts) (λ rest lt. agree-refl _ (Ok (is_true left is, rest)) lt)
truth_test-agree left is ts (Some rest) h = agree-refl _ (Ok (is_null left is, rest)) h

pub value_test-agree : (left : Term) (is : Bool) (ts : Lexemes) → Agree (length ts) (value_test left is ts) (value_test left is ts)
unfolding value_test
value_test-agree left is ts = truth_test-agree left is ts (strip s.Null ts) (strip-less s.Null ts)

is_test-agree : (left : Term) (ts : Lexemes) (o : Option Lexemes) → IfSome o (λ rest. length rest < length ts)
    → Agree (length ts) (is_test left ts o) (is_test left ts o)
is_test-agree left ts None h = value_test-agree left true ts
is_test-agree left ts (Some rest) h = agree-weaken (length rest) (length ts) (value_test left false rest) (value_test left false rest) (omega arith) (value_test-agree left false rest)

pub optional_test-agree : (left : Term) (ts : Lexemes) (o : Option Lexemes) → IfSome o (λ rest. length rest < length ts)
    → Agree (suc (length ts)) (optional_test left ts o) (optional_test left ts o)
optional_test-agree left ts None h = agree-refl _ (Ok (left, ts)) (omega arith)
optional_test-agree left ts (Some rest) h =
    agree-weaken (length rest) (suc (length ts)) (is_test left rest (strip s.Not rest)) (is_test left rest (strip s.Not rest)) (omega arith)
    (is_test-agree left rest (strip s.Not rest) (strip-less s.Not rest))

-- ---- parsers over a parser of the terms in brackets

module _ (n : ℕ) (f g : Parser Term) (agrees : AgreeBelow n f g) where
  brackets-agree : AgreeBelow n (brackets f) (brackets g)
  unfolding brackets
  brackets-agree ts lt =
      agree-bind (length ts) (length ts) (f ts) (g ts) (λ i. expect s.Close i.1 >>= (λ rest. Ok (i.0, rest))) (λ i. expect s.Close i.1 >>= (λ rest. Ok (i.0, rest))) (agrees ts lt)
      (λ i lt'. rest-bind (length i.1) (length ts) (expect s.Close i.1) (expect s.Close i.1) (λ rest. Ok (i.0, rest)) (λ rest. Ok (i.0, rest)) (expect-agree s.Close i.1)
      (λ rest lt''. agree-refl _ (Ok (i.0, rest)) (omega arith)))

  -- a symbol and a term
  term_behind-agree : {B : Type 0} (symbol : Symbol) (ts : Lexemes) (h k : Term × Lexemes → Outcome (B × Lexemes)) → length ts < suc n
      → ((r : Term × Lexemes) → length r.1 < length ts → Agree (length ts) (h r) (k r))
      → Agree (length ts) (expect symbol ts >>= (λ rest. f rest >>= h)) (expect symbol ts >>= (λ rest. g rest >>= k))
  term_behind-agree symbol ts h k lt next =
      rest-bind (length ts) (length ts) (expect symbol ts) (expect symbol ts) (λ rest. f rest >>= h) (λ rest. g rest >>= k) (expect-agree symbol ts)
      (λ rest lt'. agree-bind (length rest) (length ts) (f rest) (g rest) h k (agrees rest (omega arith)) (λ r lt''. next r (omega arith)))

  choice-agree : AgreeBelow (suc n) (choice f) (choice g)
  unfolding choice
  choice-agree ts lt = term_behind-agree s.When ts _ _ lt
      (λ w a. agree-weaken (length w.1) (length ts) _ _ (omega arith) (term_behind-agree s.Then w.1 _ _ (omega arith)
      (λ x b. agree-weaken (length x.1) (length w.1) _ _ (omega arith) (term_behind-agree s.Else x.1 _ _ (omega arith)
      (λ y c. agree-weaken (length y.1) (length x.1) _ _ (omega arith)
      (rest-bind (length y.1) (length y.1) (expect s.End y.1) (expect s.End y.1) (λ rest. Ok (case w.0 x.0 y.0, rest)) (λ rest. Ok (case w.0 x.0 y.0, rest)) (expect-agree s.End y.1)
      (λ rest d. agree-refl _ (Ok (case w.0 x.0 y.0, rest)) d)))))))

  primary_by-agree : (symbol : Symbol) (whole ts : Lexemes) → length ts < n → Agree (suc (length ts)) (primary_by f symbol whole ts) (primary_by g symbol whole ts)
  primary_by-agree s.Null whole ts lt = agree-refl _ (Ok (null, ts)) (omega arith)
  primary_by-agree s.Open whole ts lt = agree-weaken _ _ _ _ (omega arith) (brackets-agree ts lt)
  primary_by-agree s.Case whole ts lt = agree-weaken _ _ _ _ (omega arith) (choice-agree ts (omega arith))
  primary_by-agree _ whole ts lt = agree-refl _ (Err whole) tt

  primary-agree : AgreeBelow (suc n) (primary f) (primary g)
  primary-agree [] lt = agree-refl _ (Err []) tt
  primary-agree (Sign symbol ∷ ts) lt = primary_by-agree symbol (Sign symbol ∷ ts) ts (omega arith)
  primary-agree (Word word ∷ ts) lt = column-agree word ts
  primary-agree (Number m ∷ ts) lt = agree-refl _ (Ok (int (pos m), ts)) (omega arith)
  primary-agree (Big ∷ ts) lt = agree-refl _ (Err (Big ∷ ts)) tt
  primary-agree (Text bytes ∷ ts) lt = agree-refl _ (Ok (text bytes, ts)) (omega arith)

  signed-agree : (ts : Lexemes) (o : Option Lexemes) → length ts < suc n → IfSome o (λ rest. length rest < length ts) → Agree (length ts) (signed f ts o) (signed g ts o)
  signed-agree ts None lt h = primary-agree ts lt
  signed-agree ts (Some rest) lt h =
      agree-bind (length rest) (length ts) (primary f rest) (primary g rest) (λ r. Ok (neg r.0, r.1)) (λ r. Ok (neg r.0, r.1)) (primary-agree rest (omega arith))
      (λ r lt'. agree-refl _ (Ok (neg r.0, r.1)) (omega arith))

  factor-agree : AgreeBelow (suc n) (factor f) (factor g)
  unfolding factor
  factor-agree ts lt = signed-agree ts (strip s.Minus ts) lt (strip-less s.Minus ts)

  sum-agree : AgreeBelow (suc n) (sum f) (sum g)
  sum-agree = joined-agree (suc n) (operator_of l.Sum) _ _ (joined-agree (suc n) (operator_of l.Product) (factor f) (factor g) factor-agree)

  compared-agree : (left : Term) (ts : Lexemes) (o : Option (Op × Lexemes)) → length ts < suc n → IfSome o (λ o. length o.1 < length ts)
      → Agree (suc (length ts)) (compared f left ts o) (compared g left ts o)
  compared-agree left ts None lt h = agree-refl _ (Ok (left, ts)) (omega arith)
  compared-agree left ts (Some o) lt h =
      agree-bind (length o.1) (suc (length ts)) (sum f o.1) (sum g o.1) (λ r. Ok (binary o.0 left r.0, r.1)) (λ r. Ok (binary o.0 left r.0, r.1)) (sum-agree o.1 (omega arith))
      (λ r lt'. agree-refl _ (Ok (binary o.0 left r.0, r.1)) (omega arith))

  test-agree : AgreeBelow (suc n) (full_test f) (full_test g)
  unfolding full_test
  test-agree ts lt =
      agree-bind (length ts) (length ts) (sum f ts) (sum g ts)
      (λ r. compared f r.0 r.1 (next_operator comparison_of r.1) >>= (λ b. optional_test b.0 b.1 (strip s.Is b.1)))
      (λ r. compared g r.0 r.1 (next_operator comparison_of r.1) >>= (λ b. optional_test b.0 b.1 (strip s.Is b.1)))
      (sum-agree ts lt)
      (λ r a. agree-bind (suc (length r.1)) (length ts) (compared f r.0 r.1 (next_operator comparison_of r.1)) (compared g r.0 r.1 (next_operator comparison_of r.1))
      (λ b. optional_test b.0 b.1 (strip s.Is b.1)) (λ b. optional_test b.0 b.1 (strip s.Is b.1))
      (compared-agree r.0 r.1 (next_operator comparison_of r.1) (omega arith) (next_operator-less comparison_of r.1))
      (λ b c. agree-weaken (suc (length b.1)) (length ts) (optional_test b.0 b.1 (strip s.Is b.1)) (optional_test b.0 b.1 (strip s.Is b.1)) (omega arith)
      (optional_test-agree b.0 b.1 (strip s.Is b.1) (strip-less s.Is b.1))))

  negated-agree : (ts : Lexemes) (o : Option Lexemes) → length ts < suc n → IfSome o (λ rest. length rest < length ts) → Agree (length ts) (negated f ts o) (negated g ts o)
  negated-agree ts None lt h = test-agree ts lt
  negated-agree ts (Some rest) lt h =
      agree-bind (length rest) (length ts) (full_test f rest) (full_test g rest) (λ r. Ok (not r.0, r.1)) (λ r. Ok (not r.0, r.1)) (test-agree rest (omega arith))
      (λ r lt'. agree-refl _ (Ok (not r.0, r.1)) (omega arith))

  negation-agree : AgreeBelow (suc n) (negation f) (negation g)
  unfolding negation
  negation-agree ts lt = negated-agree ts (strip s.Not ts) lt (strip-less s.Not ts)

  pub operand-agree : (at : Level) → AgreeBelow (suc n) (operand f at) (operand g at)
  operand-agree l.Disjunction = joined-agree (suc n) (operator_of l.Conjunction) (negation f) (negation g) negation-agree
  operand-agree l.Conjunction = negation-agree
  operand-agree l.Sum = joined-agree (suc n) (operator_of l.Product) (factor f) (factor g) factor-agree
  operand-agree l.Product = factor-agree

  pub operations-agree : (at : Level) → AgreeBelow (suc n) (operations f at) (operations g at)
  operations-agree at = joined-agree (suc n) (operator_of at) (operand f at) (operand g at) (operand-agree at)

-- ---- the bound does not matter

pub within-agree : (n m : ℕ) → n ≤ m → AgreeBelow n (term_within n) (term_within m)
unfolding term_within
within-agree zero m h ts lt = absurd (omega arith)
within-agree (suc n) zero h ts lt = absurd (omega arith)
within-agree (suc n) (suc m) h ts lt = operations-agree n (term_within n) (term_within m) (within-agree n m (omega arith)) l.Disjunction ts lt

term_like : (n : ℕ) → AgreeBelow n (term_within n) term
unfolding term
term_like n ts lt =
    let h : Agree (length ts) (term_within (suc (length ts)) ts) (term_within n ts) = within-agree (suc (length ts)) n (omega arith) ts (omega arith) in
    record { same = sym h.same; below = let P : Outcome (Term × Lexemes) → Type 0 = λ x. IfOk x (λ r. length r.1 < length ts) in subst P h.same h.below }

-- the parser of terms in terms of itself, without its bound
pub term-unfolds : (ts : Lexemes) → term ts ≡ operations term l.Disjunction ts
unfolding term term_within
term-unfolds ts = (operations-agree (length ts) (term_within (length ts)) term (term_like (length ts)) l.Disjunction ts (omega arith)).same

pub term-agree : (n : ℕ) → AgreeBelow n term term
term-agree n ts lt = let h : Agree (length ts) (term_within (suc (length ts)) ts) (term ts) = term_like (suc (length ts)) ts (omega arith) in
    let P : Outcome (Term × Lexemes) → Type 0 = λ x. IfOk x (λ r. length r.1 < length ts) in agree-refl _ (term ts) (subst P h.same h.below)

pub operand-agrees : (at : Level) (n : ℕ) → AgreeBelow n (operand term at) (operand term at)
operand-agrees at n ts lt = operand-agree n term term (term-agree n) at ts (omega arith)

-- ---- one step of a chain of operators

pub chain-none : (ops : Symbol → Option Op) (p : Parser Term) (left : Term) (ts : Lexemes) → next_operator ops ts ≡ None → chain ops p left ts ≡ Ok (left, ts)
unfolding chain chain_within
chain-none ops p left [] h = refl
chain-none ops p left (t ∷ ts) h = rw h refl

pub chain-some : (at : Level) (left : Term) (ts : Lexemes) (o : Op × Lexemes) → next_operator (operator_of at) ts ≡ Some o
    → chain (operator_of at) (operand term at) left ts ≡ operand term at o.1 >>= (λ r. chain (operator_of at) (operand term at) (binary o.0 left r.0) r.1)
unfolding chain chain_within
chain-some at left [] o h = cc
chain-some at left (t ∷ ts) o h =
    let P : Option (Op × Lexemes) → Type 0 = λ x. IfSome x (λ o. length o.1 < length (t ∷ ts)) in
    let lt : length o.1 < length (t ∷ ts) = subst P h (next_operator-less (operator_of at) (t ∷ ts)) in
    let ops : Symbol → Option Op = operator_of at in
    let p : Parser Term = operand term at in
    rw h
    (agree-bind (length o.1) (suc (length o.1)) (p o.1) (p o.1) (λ r. chain_within ops p (length ts) (binary o.0 left r.0) r.1)
    (λ r. chain_within ops p (length r.1) (binary o.0 left r.0) r.1) (operand-agrees at (suc (length o.1)) o.1 (omega arith))
    (λ r a. agree-weaken (suc (length r.1)) (suc (length o.1)) (chain_within ops p (length ts) (binary o.0 left r.0) r.1) (chain_within ops p (length r.1) (binary o.0 left r.0) r.1) (omega arith)
    (chain_within-agree (suc (length r.1)) ops p p (operand-agrees at (suc (length r.1))) (length ts) (length r.1) (binary o.0 left r.0) r.1 (omega arith) (omega arith) (omega arith)))).same

pub ruleset chain_steps = (chain-none, chain-some, term-unfolds)

-- ---- for a loop over operators: its invariant, and its exit at a fault

pub chain-step : (at : Level) (left right : Term) (ts after rest : Lexemes) (o : Op) (whole : Outcome (Term × Lexemes)) → whole ≡ chain (operator_of at) (operand term at) left ts
    → next_operator (operator_of at) ts ≡ Some (o, after) → operand term at after ≡ Ok (right, rest) → whole ≡ chain (operator_of at) (operand term at) (binary o left right) rest
chain-step at left right ts after rest o whole a b c =
    let f : Term × Lexemes → Outcome (Term × Lexemes) = λ r. chain (operator_of at) (operand term at) (binary o left r.0) r.1 in
    a ∙ chain-some at left ts (o, after) b ∙ ap (λ p. p >>= f) c

pub chain-fault : (at : Level) (left : Term) (ts after rest : Lexemes) (o : Op) (whole : Outcome (Term × Lexemes)) → whole ≡ chain (operator_of at) (operand term at) left ts
    → next_operator (operator_of at) ts ≡ Some (o, after) → operand term at after ≡ Err rest → whole ≡ Err rest
chain-fault at left ts after rest o whole a b c =
    let f : Term × Lexemes → Outcome (Term × Lexemes) = λ r. chain (operator_of at) (operand term at) (binary o left r.0) r.1 in
    a ∙ chain-some at left ts (o, after) b ∙ ap (λ p. p >>= f) c
