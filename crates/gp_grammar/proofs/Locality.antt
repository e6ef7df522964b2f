-- The parser of terms is local: on two lines that are equal up to a lexeme t, it gives the same, or leaves t and the lexemes after it.
use Rattle.gp_grammar.proofs.Prelude.{int, text, null, pos, with_rest, cond, is_symbol, Bool, true, false, ◌∙◌, Number, Big, Text, Symbol, Sign, Word, ◌≡◌, ℕ, zero, suc, ◌<◌, ◌≤◌, List, [], ◌∷◌, ◌++◌, length, Option, Some, None, Ok, Err, refl, sym, ap, subst, arith, ◌⊎◌, inl, inr, Lexeme, Level, Op, Lexemes, Term, col, binary, neg, not, is_null, is_true, case, operator_of, comparison_of, Outcome, Parser, ◌>>=◌, strip, expected, identifier, next_operator, by_option, term}
use Rattle.gp_lexer.specs.declared.lexeme.Symbol.TheVariants as s
use Rattle.gp_grammar.specs.declared.level.Level.TheVariants as l
use Rattle.gp_grammar.specs.Parsing as r
use Rattle.gp_grammar.specs.Parsing.{expect}
use Rattle.gp_grammar.proofs.Agreement.{term-unfolds, chain-none, chain-some}

module _ (t : Lexeme) (m m' : Lexemes) where
  -- two lines that are equal up to t
  pub record SameUpTo (a b : Lexemes) : Type 0 where
    pub prefix : Lexemes
    pub first : a ≡ prefix ++ (t ∷ m)
    pub second : b ≡ prefix ++ (t ∷ m')

  abbrev pub Same : {A : Type 0} → Outcome (A × Lexemes) → Outcome (A × Lexemes) → Type 0
  Same (Ok a) (Ok b) = (a.0 ≡ b.0) × SameUpTo a.1 b.1
  Same (Ok a) (Err b) = ⊥
  Same (Err a) (Ok b) = ⊥
  Same (Err a) (Err b) = SameUpTo a b

  -- the outcome leaves fewer lexemes than t and those after it, so t was taken
  abbrev pub Past : {A : Type 0} → Outcome (A × Lexemes) → Type 0
  Past (Ok a) = length a.1 ≤ length m
  Past (Err a) = length a ≤ length m

  abbrev pub NotLonger : {A : Type 0} → Lexemes → Outcome (A × Lexemes) → Type 0
  NotLonger ts (Ok a) = length a.1 ≤ length ts
  NotLonger ts (Err a) = length a ≤ length ts

  pub record Local {A : Type 0} (n : ℕ) (p : Parser A) : Type 0 where
    pub not_longer : (ts : Lexemes) → length ts < n → NotLonger ts (p ts)
    pub along : (ts us : Lexemes) → length ts < n → SameUpTo ts us → Same (p ts) (p us) ⊎ Past (p ts)

  not_longer-less : {A : Type 0} (ts us : Lexemes) (o : Outcome (A × Lexemes)) → length ts ≤ length us → NotLonger ts o → NotLonger us o
  not_longer-less ts us (Ok a) h f = omega arith
  not_longer-less ts us (Err a) h f = omega arith

  not_longer-past : {A : Type 0} (ts : Lexemes) (o : Outcome (A × Lexemes)) → length ts ≤ length m → NotLonger ts o → Past o
  not_longer-past ts (Ok a) h f = omega arith
  not_longer-past ts (Err a) h f = omega arith

  pub local-weaken : {A : Type 0} (n k : ℕ) (p : Parser A) → k ≤ n → Local n p → Local k p
  local-weaken n k p h w = record { not_longer = λ ts lt. w.not_longer ts (omega arith); along = λ ts us lt e. w.along ts us (omega arith) e }

  pub local-ok : {A : Type 0} (n : ℕ) (x : A) → Local n (λ ts. Ok (x, ts))
  local-ok n x = record { not_longer = λ ts lt. omega arith; along = λ ts us lt e. inl (refl, e) }

  bind-not_longer : {A B : Type 0} (n : ℕ) (f : A × Lexemes → Outcome (B × Lexemes)) → ((x : A) → Local n (λ ts. f (x, ts))) → (ts : Lexemes) → length ts < n
      → (o : Outcome (A × Lexemes)) → NotLonger ts o → NotLonger ts (o >>= f)
  bind-not_longer n f k ts lt (Ok a) h = not_longer-less a.1 ts (f a) h ((k a.0).not_longer a.1 (omega arith))
  bind-not_longer n f k ts lt (Err a) h = h

  bind-along : {A B : Type 0} (n : ℕ) (f : A × Lexemes → Outcome (B × Lexemes)) → ((x : A) → Local n (λ ts. f (x, ts))) → (ts : Lexemes) → length ts < n
      → (o q : Outcome (A × Lexemes)) → NotLonger ts o → Same o q ⊎ Past o → Same (o >>= f) (q >>= f) ⊎ Past (o >>= f)
  bind-along n f k ts lt (Ok a) (Ok b) h (inl e) =
      let P : _ → Type 0 = λ x. Same (f a) (f (x, b.1)) ⊎ Past (f a) in subst P e.0 ((k a.0).along a.1 b.1 (omega arith) e.1)
  bind-along n f k ts lt (Ok a) (Err b) h (inl e) = absurd e
  bind-along n f k ts lt (Err a) (Ok b) h (inl e) = absurd e
  bind-along n f k ts lt (Err a) (Err b) h (inl e) = inl e
  bind-along n f k ts lt (Ok a) q h (inr e) = inr (not_longer-past a.1 (f a) e ((k a.0).not_longer a.1 (omega arith)))
  bind-along n f k ts lt (Err a) q h (inr e) = inr e

  pub local-bind : {A B : Type 0} (n : ℕ) (p : Parser A) (f : A × Lexemes → Outcome (B × Lexemes)) → Local n p → ((x : A) → Local n (λ ts. f (x, ts))) → Local n (λ ts. p ts >>= f)
  local-bind n p f w k = record {
    not_longer = λ ts lt. bind-not_longer n f k ts lt (p ts) (w.not_longer ts lt);
    along = λ ts us lt e. bind-along n f k ts lt (p ts) (p us) (w.not_longer ts lt) (w.along ts us lt e);
  }

  pub local-err : {A : Type 0} (n : ℕ) → Local {A = A} n (λ ts. Err ts)
  local-err n = record { not_longer = λ ts lt. omega arith; along = λ ts us lt e. inl e }

  here : (x : Lexeme) → x ≡ t → SameUpTo (x ∷ m) (x ∷ m')
  here x e = record { prefix = []; first = ap (λ z. z ∷ m) e; second = ap (λ z. z ∷ m') e }

  there : (x : Lexeme) (prefix : Lexemes) → SameUpTo (x ∷ (prefix ++ (t ∷ m))) (x ∷ (prefix ++ (t ∷ m')))
  there x prefix = record { prefix = x ∷ prefix; first = refl; second = refl }

  after : (prefix : Lexemes) → SameUpTo (prefix ++ (t ∷ m)) (prefix ++ (t ∷ m'))
  after prefix = record { prefix = prefix; first = refl; second = refl }

  -- a parser that is given one lexeme or more
  along-by : {A : Type 0} (p : Parser A) → (n : ℕ) → ((x : Lexeme) → x ≡ t → length m < n → Same (p (x ∷ m)) (p (x ∷ m')) ⊎ Past (p (x ∷ m)))
      → ((x : Lexeme) (prefix : Lexemes) → length (prefix ++ (t ∷ m)) < n → Same (p (x ∷ (prefix ++ (t ∷ m)))) (p (x ∷ (prefix ++ (t ∷ m')))) ⊎ Past (p (x ∷ (prefix ++ (t ∷ m)))))
      → (ts us : Lexemes) → length ts < suc n → SameUpTo ts us → Same (p ts) (p us) ⊎ Past (p ts)
  along-by p n one more ts us lt e =
      let P : Lexemes → Type 0 = λ x. Same (p x) (p us) ⊎ Past (p x) in
      let Q : Lexemes → Type 0 = λ x. Same (p (e.prefix ++ (t ∷ m))) (p x) ⊎ Past (p (e.prefix ++ (t ∷ m))) in
      subst P (sym e.first) (subst Q (sym e.second) (go e.prefix (let L : Lexemes → Type 0 = λ x. length x < suc n in subst L e.first lt)))
    where
      go : (prefix : Lexemes) → length (prefix ++ (t ∷ m)) < suc n → Same (p (prefix ++ (t ∷ m))) (p (prefix ++ (t ∷ m'))) ⊎ Past (p (prefix ++ (t ∷ m)))
      go [] lt = one t refl (omega arith)
      go (x ∷ prefix) lt = more x prefix (omega arith)

  -- ---- the first lexeme

  -- what a parser does with its first lexeme: it goes on behind it, or does there what another one does
  pub data Step {A : Type 0} (n : ℕ) (p other : Parser A) (x : Lexeme) : Type 0 where
    goes : (q : Parser A) → ((ts : Lexemes) → p (x ∷ ts) ≡ q ts) → Local n q → Step n p other x
    stays : ((ts : Lexemes) → p (x ∷ ts) ≡ other (x ∷ ts)) → Step n p other x

  module _ {A : Type 0} (n : ℕ) (p other : Parser A) (empty : p [] ≡ other []) (steps : (x : Lexeme) → Step n p other x) (w : Local (suc n) other) where
    first-not_longer : (ts : Lexemes) → length ts < suc n → NotLonger ts (p ts)
    first-not_longer [] lt = rw empty (w.not_longer [] lt)
    first-not_longer (x ∷ ts) lt = go (steps x)
      where
        go : Step n p other x → NotLonger (x ∷ ts) (p (x ∷ ts))
        go (goes q e k) = rw (e ts) (not_longer-less ts (x ∷ ts) (q ts) (omega arith) (k.not_longer ts (omega arith)))
        go (stays e) = rw (e ts) (w.not_longer (x ∷ ts) lt)

    first-one : (x : Lexeme) → x ≡ t → length m < n → Same (p (x ∷ m)) (p (x ∷ m')) ⊎ Past (p (x ∷ m))
    first-one x same lt = go (steps x)
      where
        go : Step n p other x → Same (p (x ∷ m)) (p (x ∷ m')) ⊎ Past (p (x ∷ m))
        go (goes q e k) = rw (e m, e m') (inr (not_longer-past m (q m) (omega arith) (k.not_longer m lt)))
        go (stays e) = rw (e m, e m') (w.along (x ∷ m) (x ∷ m') (omega arith) (here x same))

    first-more : (x : Lexeme) (prefix : Lexemes) → length (prefix ++ (t ∷ m)) < n
        → Same (p (x ∷ (prefix ++ (t ∷ m)))) (p (x ∷ (prefix ++ (t ∷ m')))) ⊎ Past (p (x ∷ (prefix ++ (t ∷ m))))
    first-more x prefix lt = go (steps x)
      where
        go : Step n p other x → Same (p (x ∷ (prefix ++ (t ∷ m)))) (p (x ∷ (prefix ++ (t ∷ m')))) ⊎ Past (p (x ∷ (prefix ++ (t ∷ m))))
        go (goes q e k) = rw (e (prefix ++ (t ∷ m)), e (prefix ++ (t ∷ m'))) (k.along (prefix ++ (t ∷ m)) (prefix ++ (t ∷ m')) lt (after prefix))
        go (stays e) = rw (e (prefix ++ (t ∷ m)), e (prefix ++ (t ∷ m')))
            (w.along (x ∷ (prefix ++ (t ∷ m))) (x ∷ (prefix ++ (t ∷ m'))) (omega arith) (there x prefix))

    local-first : Local (suc n) p
    local-first = record { not_longer = first-not_longer; along = along-by p n first-one first-more }

  -- where there is nothing below the bound
  pub local-zero : {A : Type 0} (p : Parser A) → Local 0 p
  local-zero p = record { not_longer = λ ts lt. absurd (omega arith); along = λ ts us lt e. absurd (omega arith) }

  pub local-first-all : {A : Type 0} (p other : Parser A) → p [] ≡ other [] → ((n : ℕ) (x : Lexeme) → Step n p other x) → ((n : ℕ) → Local n other) → (n : ℕ) → Local n p
  local-first-all p other empty steps w zero = local-zero p
  local-first-all p other empty steps w (suc n) = local-first n p other empty (steps n) (w (suc n))

  -- one parser after the symbol, where it is the first lexeme, and another one where it is not
  pub local-strip-less : {A : Type 0} (n : ℕ) (symbol : Symbol) (h : Lexemes → Option Lexemes → Outcome (A × Lexemes)) (some : Parser A) → Local (suc n) (λ ts. h ts None) → Local n some
      → ((ts rest : Lexemes) → h ts (Some rest) ≡ some rest) → Local (suc n) (λ ts. h ts (strip symbol ts))
  local-strip-less {A = A} n symbol h some w k is = local-first n (λ ts. h ts (strip symbol ts)) (λ ts. h ts None) refl (λ x. by x (is_symbol symbol x) refl) w
    where
      by : (x : Lexeme) (b : Bool) → is_symbol symbol x ≡ b → Step n (λ ts. h ts (strip symbol ts)) (λ ts. h ts None) x
      by x true e = goes some (λ ts. ap (λ b. h (x ∷ ts) (cond b (Some ts) None)) e ∙ is (x ∷ ts) ts) k
      by x false e = stays (λ ts. ap (λ b. h (x ∷ ts) (cond b (Some ts) None)) e)

  local-strip : {A : Type 0} (n : ℕ) (symbol : Symbol) (h : Lexemes → Option Lexemes → Outcome (A × Lexemes)) (some : Parser A) → Local n (λ ts. h ts None) → Local n some
      → ((ts rest : Lexemes) → h ts (Some rest) ≡ some rest) → Local n (λ ts. h ts (strip symbol ts))
  local-strip zero symbol h some w k is = local-zero (λ ts. h ts (strip symbol ts))
  local-strip (suc n) symbol h some w k is = local-strip-less n symbol h some w (local-weaken (suc n) n some (omega arith) k) is

  pub local-expect : {B : Type 0} (n : ℕ) (symbol : Symbol) (f : Parser B) → Local n f → Local n (λ ts. expect symbol ts >>= f)
  unfolding expect
  local-expect n symbol f k = local-strip n symbol (λ ts o. expected ts o >>= f) f (local-err n) k (λ ts rest. refl)

  -- ---- names and operators

  identifier-step : (n : ℕ) (x : Lexeme) → Step n identifier (λ ts. Err ts) x
  identifier-step n (Word word) = goes _ (λ ts. refl) (local-ok n word)
  identifier-step n (Sign symbol) = stays (λ ts. refl)
  identifier-step n (Number k) = stays (λ ts. refl)
  identifier-step n Big = stays (λ ts. refl)
  identifier-step n (Text bytes) = stays (λ ts. refl)

  pub local-identifier : (n : ℕ) → Local n identifier
  local-identifier = local-first-all identifier (λ ts. Err ts) refl identifier-step (λ n. local-err n)

  local-next_operator : {A : Type 0} (n : ℕ) (ops : Symbol → Option Op) (h : Lexemes → Option (Op × Lexemes) → Outcome (A × Lexemes)) (some : Op → Parser A) → Local (suc n) (λ ts. h ts None)
      → ((o : Op) → Local n (some o)) → ((ts : Lexemes) (o : Op × Lexemes) → h ts (Some o) ≡ some o.0 o.1) → Local (suc n) (λ ts. h ts (next_operator ops ts))
  local-next_operator {A = A} n ops h some w k is = local-first n (λ ts. h ts (next_operator ops ts)) (λ ts. h ts None) refl step w
    where
      by : (symbol : Symbol) (o : Option Op) → ops symbol ≡ o → Step n (λ ts. h ts (next_operator ops ts)) (λ ts. h ts None) (Sign symbol)
      by symbol None e = stays (λ ts. ap (λ o. h (Sign symbol ∷ ts) (with_rest ts o)) e)
      by symbol (Some o) e = goes (some o) (λ ts. ap (λ o. h (Sign symbol ∷ ts) (with_rest ts o)) e ∙ is (Sign symbol ∷ ts) (o, ts)) (k o)

      step : (x : Lexeme) → Step n (λ ts. h ts (next_operator ops ts)) (λ ts. h ts None) x
      step (Sign symbol) = by symbol (ops symbol) refl
      step (Word word) = stays (λ ts. refl)
      step (Number k) = stays (λ ts. refl)
      step Big = stays (λ ts. refl)
      step (Text bytes) = stays (λ ts. refl)

  pub local-same : {A : Type 0} (n : ℕ) (p q : Parser A) → ((ts : Lexemes) → q ts ≡ p ts) → Local n p → Local n q
  local-same n p q is w = record {
    not_longer = λ ts lt. let F : Outcome _ → Type 0 = λ x. NotLonger ts x in subst F (sym (is ts)) (w.not_longer ts lt);
    along = λ ts us lt e. let P : Outcome _ → Type 0 = λ x. Same x (q us) ⊎ Past x in let Q : Outcome _ → Type 0 = λ x. Same (p ts) x ⊎ Past (p ts) in
        subst P (sym (is ts)) (subst Q (sym (is us)) (w.along ts us lt e));
  }

  abbrev chain_of : Level → Parser Term → Term → Lexemes → Option (Op × Lexemes) → Outcome (Term × Lexemes)
  chain_of at p left ts o = by_option o (Ok (left, ts)) (λ o. p o.1 >>= (λ x. r.chain (operator_of at) p (binary o.0 left x.0) x.1))

  chain-is : (at : Level) (left : Term) (ts : Lexemes) → r.chain (operator_of at) (r.operand term at) left ts ≡ chain_of at (r.operand term at) left ts (next_operator (operator_of at) ts)
  chain-is at left ts = go (next_operator (operator_of at) ts) refl
    where
      go : (o : Option (Op × Lexemes)) → next_operator (operator_of at) ts ≡ o → r.chain (operator_of at) (r.operand term at) left ts ≡ chain_of at (r.operand term at) left ts o
      go None e = chain-none (operator_of at) (r.operand term at) left ts e
      go (Some o) e = chain-some at left ts o e

  local-chain : (at : Level) (n : ℕ) → Local n (r.operand term at) → (k : ℕ) → k ≤ n → (left : Term) → Local k (r.chain (operator_of at) (r.operand term at) left)
  local-chain at n w zero h left = local-zero (r.chain (operator_of at) (r.operand term at) left)
  local-chain at n w (suc k) h left =
      let p : Parser Term = r.operand term at in
      local-same (suc k) (λ ts. chain_of at p left ts (next_operator (operator_of at) ts)) (r.chain (operator_of at) p left) (chain-is at left)
      (local-next_operator k (operator_of at) (chain_of at p left) (λ o ts. p ts >>= (λ x. r.chain (operator_of at) p (binary o left x.0) x.1)) (local-ok (suc k) left)
      (λ o. local-bind k p (λ x. r.chain (operator_of at) p (binary o left x.0) x.1) (local-weaken n k p (omega arith) w) (λ x. local-chain at n w k (omega arith) (binary o left x)))
      (λ ts o. refl))

  local-operations : (at : Level) (n : ℕ) → Local n (r.operand term at) → Local n (r.operations term at)
  unfolding r.joined
  local-operations at n w = local-bind n (r.operand term at) (λ x. r.chain (operator_of at) (r.operand term at) x.0 x.1) w (λ x. local-chain at n w n (omega arith) x)

  -- ---- the phrases of a term

  local-col : (n : ℕ) (word : List ℕ) → Local n (r.column word)
  unfolding r.column
  local-col n word = local-strip n s.Dot (r.column_with word) (λ rest. identifier rest >>= (λ x. Ok (col (Some word) x.0, x.1))) (local-ok n (col None word))
      (local-bind n identifier _ (local-identifier n) (λ x. local-ok n (col (Some word) x))) (λ ts rest. refl)

  local-value_test : (n : ℕ) (left : Term) (is : Bool) → Local n (r.value_test left is)
  unfolding r.value_test
  local-value_test n left is = local-strip n s.Null (r.truth_test left is) (λ rest. Ok (is_null left is, rest)) (local-expect n s.True (λ rest. Ok (is_true left is, rest)) (local-ok n (is_true left is)))
      (local-ok n (is_null left is)) (λ ts rest. refl)

  local-optional_test : (n : ℕ) (left : Term) → Local n (λ ts. r.optional_test left ts (strip s.Is ts))
  local-optional_test n left = local-strip n s.Is (r.optional_test left) (λ rest. r.is_test left rest (strip s.Not rest)) (local-ok n left)
      (local-strip n s.Not (r.is_test left) (r.value_test left false) (local-value_test n left true) (local-value_test n left false) (λ ts rest. refl)) (λ ts rest. refl)

  module _ (n : ℕ) (w : Local n term) where
    local-brackets : Local n (r.brackets term)
    unfolding r.brackets
    local-brackets = local-bind n term _ w (λ x. local-expect n s.Close (λ rest. Ok (x, rest)) (local-ok n x))

    local-choice : Local n (r.choice term)
    unfolding r.choice
    local-choice = local-expect n s.When _ (local-bind n term _ w (λ x. local-expect n s.Then _ (local-bind n term _ w (λ y. local-expect n s.Else _ (local-bind n term _ w (λ z.
        local-expect n s.End (λ rest. Ok (case x y z, rest)) (local-ok n (case x y z))))))))

    primary-step : (x : Lexeme) → Step n (r.primary term) (λ ts. Err ts) x
    primary-step (Sign symbol) = by symbol
      where
        by : (symbol : Symbol) → Step n (r.primary term) (λ ts. Err ts) (Sign symbol)
        by s.Null = goes _ (λ ts. refl) (local-ok n null)
        by s.Open = goes (r.brackets term) (λ ts. refl) local-brackets
        by s.Case = goes (r.choice term) (λ ts. refl) local-choice
        by _ = stays (λ ts. refl)
    primary-step (Word word) = goes (r.column word) (λ ts. refl) (local-col n word)
    primary-step (Number k) = goes _ (λ ts. refl) (local-ok n (int (pos k)))
    primary-step Big = stays (λ ts. refl)
    primary-step (Text bytes) = goes _ (λ ts. refl) (local-ok n (text bytes))

    local-primary : Local (suc n) (r.primary term)
    local-primary = local-first n (r.primary term) (λ ts. Err ts) refl primary-step (local-err (suc n))

    local-factor : Local (suc n) (r.factor term)
    unfolding r.factor
    local-factor = local-strip (suc n) s.Minus (r.signed term) _ local-primary (local-bind (suc n) (r.primary term) (λ x. Ok (neg x.0, x.1)) local-primary (λ x. local-ok (suc n) (neg x))) (λ ts rest. refl)

    local-sum : Local (suc n) (r.operations term l.Sum)
    local-sum = local-operations l.Sum (suc n) (local-operations l.Product (suc n) local-factor)

    local-test : Local (suc n) (r.full_test term)
    unfolding r.full_test
    local-test = local-bind (suc n) (r.sum term) _ local-sum (λ x. local-bind (suc n) (λ ts. r.compared term x ts (next_operator comparison_of ts)) (λ b. r.optional_test b.0 b.1 (strip s.Is b.1))
        (local-next_operator n comparison_of (r.compared term x) (λ o ts. r.sum term ts >>= (λ y. Ok (binary o x y.0, y.1))) (local-ok (suc n) x)
        (λ o. local-bind n (r.sum term) _ (local-weaken (suc n) n (r.sum term) (omega arith) local-sum) (λ y. local-ok n (binary o x y))) (λ ts o. refl))
        (λ y. local-optional_test (suc n) y))

    local-negation : Local (suc n) (r.negation term)
    unfolding r.negation
    local-negation = local-strip (suc n) s.Not (r.negated term) _ local-test (local-bind (suc n) (r.full_test term) (λ x. Ok (not x.0, x.1)) local-test (λ x. local-ok (suc n) (not x))) (λ ts rest. refl)

    local-terms : Local (suc n) (r.operations term l.Disjunction)
    local-terms = local-operations l.Disjunction (suc n) (local-operations l.Conjunction (suc n) local-negation)

  pub local-term : (n : ℕ) → Local n term
  local-term zero = local-zero term
  local-term (suc n) = local-same (suc n) (r.operations term l.Disjunction) term term-unfolds (local-terms n (local-term n))
