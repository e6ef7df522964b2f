-- The parser of terms is sound: it takes what the grammar derives, and the lexemes before a fault begin a term. Both are one proof, since a
-- completion of these lexemes is what the parser gives on the empty rest.
use Rattle.gp_grammar.proofs.Prelude.{◌≡◌, ℕ, zero, suc, pos, List, [], ◌∷◌, ◌++◌, length, Option, Some, None, Ok, Err, Bool, true, false, cond, refl, sym, ap, subst, append_assoc, append-nil, Symbol, Lexeme, Sign, Word, Number, Big, Text, Level, Op, Lexemes, Term, int, col, binary, neg, not, is_null, is_true, case, operator_of, comparison_of, Outcome, Parser, ◌>>=◌, is_symbol, strip, expected, identifier, next_operator, by_option, with_rest, Phrase, operand}
use Rattle.std.proofs.Common.{rules}
use denote.Enum.Bare.{same_true}
use Rattle.gp_lexer.specs.contracts.lexeme.Symbol.{the_type}
use Rattle.gp_lexer.specs.declared.lexeme.Symbol.TheVariants as s
use Rattle.gp_grammar.specs.declared.level.Level.TheVariants as l
use Rattle.gp_grammar.specs.Parsing as r
use Rattle.gp_grammar.specs.Parsing.{expect}
use Rattle.gp_grammar.proofs.Building as built
use Rattle.gp_grammar.proofs.Building.{Builds, BuildsTerm}
use Rattle.gp_grammar.specs.Grammar as g

-- the lexemes begin with a phrase of this tree, and the rest follows
pub record Parsed {A : Type 0} (P : Lexemes → A → Type 0) (ts rest : Lexemes) (x : A) : Type 0 where
  pub used : Lexemes
  pub split : ts ≡ used ++ rest
  pub is : P used x

-- the lexemes before the rest are the prefix of a phrase
pub record Viable {A : Type 0} (P : Lexemes → A → Type 0) (ts rest : Lexemes) : Type 0 where
  pub used : Lexemes
  pub split : ts ≡ used ++ rest
  pub more : Lexemes
  pub tree : A
  pub is : P (used ++ more) tree

abbrev pub Sound : {A : Type 0} → (Lexemes → A → Type 0) → Lexemes → Outcome (A × Lexemes) → Type 0
Sound P ts (Ok r) = Parsed P ts r.1 r.0
Sound P ts (Err rest) = Viable P ts rest

pub record Sentence {A : Type 0} (P : Lexemes → A → Type 0) : Type 0 where
  pub lexemes : Lexemes
  pub tree : A
  pub is : P lexemes tree

pub sentence : {A : Type 0} (P : Lexemes → A → Type 0) (ts : Lexemes) (o : Outcome (A × Lexemes)) → Sound P ts o → Sentence P
sentence P ts (Ok r) h = record { lexemes = h.used; tree = r.0; is = h.is }
sentence P ts (Err rest) h = record { lexemes = h.used ++ h.more; tree = h.tree; is = h.is }

pub sound-ok : {A : Type 0} (P : Lexemes → A → Type 0) (ts : Lexemes) (x : A) → P [] x → Sound P ts (Ok (x, ts))
sound-ok P ts x h = record { used = []; split = refl; is = h }

pub sound-err : {A : Type 0} (P : Lexemes → A → Type 0) (ts : Lexemes) → Sentence P → Sound {A = A} P ts (Err ts)
sound-err P ts h = record { used = []; split = refl; more = h.lexemes; tree = h.tree; is = h.is }

pub sound-phrase : {A : Type 0} (P Q : Lexemes → A → Type 0) (ts : Lexemes) (o : Outcome (A × Lexemes)) → ((b : Lexemes) (y : A) → P b y → Q b y) → Sound P ts o → Sound Q ts o
sound-phrase P Q ts (Ok r) k h = record { used = h.used; split = h.split; is = k h.used r.0 h.is }
sound-phrase P Q ts (Err rest) k h = record { used = h.used; split = h.split; more = h.more; tree = h.tree; is = k (h.used ++ h.more) h.tree h.is }

pub sound-shift : {A : Type 0} (P : Lexemes → A → Type 0) (prefix ts : Lexemes) (o : Outcome (A × Lexemes)) → Sound (λ b y. P (prefix ++ b) y) ts o → Sound P (prefix ++ ts) o
sound-shift P prefix ts (Ok r) h = record { used = prefix ++ h.used; split = rw h.split (sym (append_assoc prefix h.used r.1)); is = h.is }
sound-shift P prefix ts (Err rest) h = record {
  used = prefix ++ h.used;
  split = rw h.split (sym (append_assoc prefix h.used rest));
  more = h.more;
  tree = h.tree;
  is = rw append_assoc h.is;
}

pub sound-at : {A : Type 0} (P : Lexemes → A → Type 0) (ts us : Lexemes) (o : Outcome (A × Lexemes)) → ts ≡ us → Sound P us o → Sound P ts o
sound-at P ts us o e h = let F : Lexemes → Type 0 = λ x. Sound P x o in subst F (sym e) h

pub sound-bind : {A B : Type 0} (P : Lexemes → A → Type 0) (Q : Lexemes → B → Type 0) (ts : Lexemes) (p : Outcome (A × Lexemes)) (f : A × Lexemes → Outcome (B × Lexemes))
    → Sound P ts p → ((used rest : Lexemes) (x : A) → P used x → Sound (λ b y. Q (used ++ b) y) rest (f (x, rest))) → Sound Q ts (p >>= f)
sound-bind P Q ts (Ok r) f h k = sound-at Q ts (h.used ++ r.1) (f r) h.split (sound-shift Q h.used r.1 (f r) (k h.used r.1 r.0 h.is))
sound-bind P Q ts (Err rest) f h k =
    let s : Sentence (λ b y. Q ((h.used ++ h.more) ++ b) y) = sentence (λ b y. Q ((h.used ++ h.more) ++ b) y) [] (f (h.tree, [])) (k (h.used ++ h.more) [] h.tree h.is) in
    record { used = h.used; split = h.split; more = h.more ++ s.lexemes; tree = s.tree; is = rw (← append_assoc) s.is }

-- ---- symbols

same-sign : (symbol : Symbol) (t : Lexeme) → is_symbol symbol t ≡ true → t ≡ Sign symbol
same-sign symbol (Sign other) h = ap (λ x. Sign x) (same_true the_type (search rules) other symbol h)
same-sign symbol (Word word) h = cc
same-sign symbol (Number n) h = cc
same-sign symbol Big h = cc
same-sign symbol (Text bytes) h = cc

pub if-some : (b : Bool) (ts rest : Lexemes) → cond b (Some ts) None ≡ Some rest → (b ≡ true) × (ts ≡ rest)
if-some true ts rest h = (refl, cc)
if-some false ts rest h = cc

pub strip-split : (symbol : Symbol) (ts rest : Lexemes) → strip symbol ts ≡ Some rest → ts ≡ Sign symbol ∷ rest
strip-split symbol [] rest h = cc
strip-split symbol (t ∷ ts) rest h =
    let w : (is_symbol symbol t ≡ true) × (ts ≡ rest) = if-some (is_symbol symbol t) ts rest h in
    let a : t ≡ Sign symbol = same-sign symbol t w.0 in
    let b : ts ≡ rest = w.1 in
    cc

expected-sound : {B : Type 0} (symbol : Symbol) (Q : Lexemes → B → Type 0) (ts : Lexemes) (f : Lexemes → Outcome (B × Lexemes)) (o : Option Lexemes) → strip symbol ts ≡ o
    → ((rest : Lexemes) → Sound (λ b y. Q (Sign symbol ∷ b) y) rest (f rest)) → Sound Q ts (expected ts o >>= f)
expected-sound symbol Q ts f None e k =
    let s : Sentence (λ b y. Q (Sign symbol ∷ b) y) = sentence (λ b y. Q (Sign symbol ∷ b) y) [] (f []) (k []) in
    sound-err Q ts (record { lexemes = Sign symbol ∷ s.lexemes; tree = s.tree; is = s.is })
expected-sound symbol Q ts f (Some rest) e k =
    sound-at Q ts (Sign symbol ∷ rest) (f rest) (strip-split symbol ts rest e) (sound-shift Q (Sign symbol ∷ []) rest (f rest) (k rest))

pub expect-sound : {B : Type 0} (symbol : Symbol) (Q : Lexemes → B → Type 0) (ts : Lexemes) (f : Lexemes → Outcome (B × Lexemes))
    → ((rest : Lexemes) → Sound (λ b y. Q (Sign symbol ∷ b) y) rest (f rest)) → Sound Q ts (expect symbol ts >>= f)
unfolding expect
expect-sound symbol Q ts f k = expected-sound symbol Q ts f (strip symbol ts) refl k

pub identifier-sound : {B : Type 0} (Q : Lexemes → B → Type 0) (ts : Lexemes) (f : List ℕ × Lexemes → Outcome (B × Lexemes))
    → ((word : List ℕ) (rest : Lexemes) → Sound (λ b y. Q (Word word ∷ b) y) rest (f (word, rest))) → Sound Q ts (identifier ts >>= f)
identifier-sound Q ts f k = sound-bind (λ b word. b ≡ Word word ∷ []) Q ts (identifier ts) f (one ts)
    (λ used rest word e. let F : Lexemes → Type 0 = λ u. Sound (λ b y. Q (u ++ b) y) rest (f (word, rest)) in subst F (sym e) (k word rest))
  where
    some_name : Sentence {A = List ℕ} (λ b word. b ≡ Word word ∷ [])
    some_name = record { lexemes = Word [] ∷ []; tree = []; is = refl }

    one : (ts : Lexemes) → Sound (λ b word. b ≡ Word word ∷ []) ts (identifier ts)
    one [] = sound-err _ [] some_name
    one (Sign symbol ∷ ts) = sound-err _ _ some_name
    one (Word word ∷ ts) = record { used = Word word ∷ []; split = refl; is = refl }
    one (Number n ∷ ts) = sound-err _ _ some_name
    one (Big ∷ ts) = sound-err _ _ some_name
    one (Text bytes ∷ ts) = sound-err _ _ some_name

-- ---- operators

pub record OperatorAt (ops : Symbol → Option Op) (ts : Lexemes) (o : Op × Lexemes) : Type 0 where
  pub symbol : Symbol
  pub split : ts ≡ Sign symbol ∷ o.1
  pub is : ops symbol ≡ Some o.0

with_rest-split : (symbol : Symbol) (ts : Lexemes) (found : Option Op) (o : Op × Lexemes) → with_rest ts found ≡ Some o → (found ≡ Some o.0) × (ts ≡ o.1)
with_rest-split symbol ts None o h = cc
with_rest-split symbol ts (Some op) o h = let e : (op, ts) ≡ o = cc in (ap (λ x. Some x.0) e, ap (λ x. x.1) e)

pub next_operator-split : (ops : Symbol → Option Op) (ts : Lexemes) (o : Op × Lexemes) → next_operator ops ts ≡ Some o → OperatorAt ops ts o
next_operator-split ops [] o h = cc
next_operator-split ops (Sign symbol ∷ ts) o h =
    let w : (ops symbol ≡ Some o.0) × (ts ≡ o.1) = with_rest-split symbol ts (ops symbol) o h in
    record { symbol = symbol; split = ap (λ x. Sign symbol ∷ x) w.1; is = w.0 }
next_operator-split ops (Word word ∷ ts) o h = cc
next_operator-split ops (Number n ∷ ts) o h = cc
next_operator-split ops (Big ∷ ts) o h = cc
next_operator-split ops (Text bytes ∷ ts) o h = cc

is-along : (p : Phrase) (a b : Lexemes) (y : Term) → a ≡ b → Builds p a y → Builds p b y
is-along p a b y e i = let F : Lexemes → Type 0 = λ u. Builds p u y in subst F e i

-- a phrase whose first lexemes are these
abbrev After : Level → Lexemes → Lexemes → Term → Type 0
After at prefix b y = Builds (g.operations at) (prefix ++ b) y

chain_step-sound : (at : Level) (part : Parser Term) → ((ts : Lexemes) → Sound (Builds (operand at)) ts (part ts)) → (prefix : Lexemes) (left : Term) → Builds (g.operations at) prefix left
    → (next : Term → Parser Term) → ((prefix : Lexemes) (left : Term) (ts : Lexemes) → Builds (g.operations at) prefix left → Sound (After at prefix) ts (next left ts))
    → (ts : Lexemes) (o : Option (Op × Lexemes)) → next_operator (operator_of at) ts ≡ o
    → Sound (After at prefix) ts (by_option o (Ok (left, ts)) (λ o. part o.1 >>= (λ r. next (binary o.0 left r.0) r.1)))
chain_step-sound at part sound prefix left is next more ts None e = sound-ok (After at prefix) ts left (rw append-nil is)
chain_step-sound at part sound prefix left is next more ts (Some o) e =
    let w : OperatorAt (operator_of at) ts o = next_operator-split (operator_of at) ts o e in
    let f : Term × Lexemes → Outcome (Term × Lexemes) = λ r. next (binary o.0 left r.0) r.1 in
    sound-at (After at prefix) ts (Sign w.symbol ∷ o.1) (part o.1 >>= f) w.split
    (sound-shift (After at prefix) (Sign w.symbol ∷ []) o.1 (part o.1 >>= f)
    (sound-bind (Builds (operand at)) (λ b y. Builds (g.operations at) (prefix ++ (Sign w.symbol ∷ b)) y) o.1 (part o.1) f (sound o.1)
    (λ used rest y h. sound-phrase (After at (prefix ++ (Sign w.symbol ∷ used))) (λ b z. Builds (g.operations at) (prefix ++ (Sign w.symbol ∷ (used ++ b))) z) rest (f (y, rest))
    (λ b z i. is-along (g.operations at) _ _ z (append_assoc prefix (Sign w.symbol ∷ used) b) i)
    (more (prefix ++ (Sign w.symbol ∷ used)) (binary o.0 left y) rest (built.operation at o.0 w.symbol prefix used left y w.is is h)))))

chain_within-sound : (at : Level) (part : Parser Term) → ((ts : Lexemes) → Sound (Builds (operand at)) ts (part ts)) → (n : ℕ) (prefix : Lexemes) (left : Term) (ts : Lexemes)
    → Builds (g.operations at) prefix left → Sound (After at prefix) ts (r.chain_within (operator_of at) part n left ts)
unfolding r.chain_within
chain_within-sound at part sound zero prefix left ts is = sound-ok (After at prefix) ts left (rw append-nil is)
chain_within-sound at part sound (suc n) prefix left ts is =
    chain_step-sound at part sound prefix left is (r.chain_within (operator_of at) part n) (λ prefix left ts is. chain_within-sound at part sound n prefix left ts is) ts (next_operator (operator_of at) ts) refl

pub joined-sound : (at : Level) (part : Parser Term) → ((ts : Lexemes) → Sound (Builds (operand at)) ts (part ts)) → (ts : Lexemes) → Sound (Builds (g.operations at)) ts (r.joined (operator_of at) part ts)
unfolding r.joined r.chain
joined-sound at part sound ts =
    sound-bind (Builds (operand at)) (Builds (g.operations at)) ts (part ts) (λ x. r.chain (operator_of at) part x.0 x.1) (sound ts)
    (λ used rest x is. chain_within-sound at part sound (length rest) used x rest (built.one_operand at used x is))

-- ---- after the first lexeme of a column or a test

column_with-sound : (word : List ℕ) (ts : Lexemes) (o : Option Lexemes) → strip s.Dot ts ≡ o → Sound (λ b y. Builds g.primary (Word word ∷ b) y) ts (r.column_with word ts o)
column_with-sound word ts None e = sound-ok _ ts (col None word) (built.column word)
column_with-sound word ts (Some rest) e =
    sound-at _ ts (Sign s.Dot ∷ rest) (r.column_with word ts (Some rest)) (strip-split s.Dot ts rest e)
    (sound-shift (λ b y. Builds g.primary (Word word ∷ b) y) (Sign s.Dot ∷ []) rest (identifier rest >>= (λ r. Ok (col (Some word) r.0, r.1)))
    (identifier-sound (λ b y. Builds g.primary (Word word ∷ Sign s.Dot ∷ b) y) rest (λ r. Ok (col (Some word) r.0, r.1))
    (λ name rest. sound-ok _ rest (col (Some word) name) (built.qualified_column word name))))

pub column-sound : (word : List ℕ) (ts : Lexemes) → Sound (λ b y. Builds g.primary (Word word ∷ b) y) ts (r.column word ts)
unfolding r.column
column-sound word ts = column_with-sound word ts (strip s.Dot ts) refl

-- these lexemes are a comparison, IS, and NOT or none, so that NULL or TRUE completes a test
pub record Tests (prefix : Lexemes) (left : Term) (is : Bool) : Type 0 where
  pub of_null : Builds g.test (prefix ++ (Sign s.Null ∷ [])) (is_null left is)
  pub of_true : Builds g.test (prefix ++ (Sign s.True ∷ [])) (is_true left is)

truth_test-sound : (prefix : Lexemes) (left : Term) (is : Bool) → Tests prefix left is → (ts : Lexemes) (o : Option Lexemes) → strip s.Null ts ≡ o
    → Sound (λ b y. Builds g.test (prefix ++ b) y) ts (r.truth_test left is ts o)
truth_test-sound prefix left is h ts None e =
    expect-sound s.True (λ b y. Builds g.test (prefix ++ b) y) ts (λ rest. Ok (is_true left is, rest)) (λ rest. sound-ok _ rest (is_true left is) h.of_true)
truth_test-sound prefix left is h ts (Some rest) e =
    record { used = Sign s.Null ∷ []; split = strip-split s.Null ts rest e; is = h.of_null }

value_test-sound : (prefix : Lexemes) (left : Term) (is : Bool) → Tests prefix left is → (ts : Lexemes) → Sound (λ b y. Builds g.test (prefix ++ b) y) ts (r.value_test left is ts)
unfolding r.value_test
value_test-sound prefix left is h ts = truth_test-sound prefix left is h ts (strip s.Null ts) refl

is_test-sound : (a : Lexemes) (left : Term) → Builds g.comparison a left → (ts : Lexemes) (o : Option Lexemes) → strip s.Not ts ≡ o
    → Sound (λ b y. Builds g.test (a ++ (Sign s.Is ∷ b)) y) ts (r.is_test left ts o)
is_test-sound a left is ts None e =
    sound-phrase (λ b y. Builds g.test ((a ++ (Sign s.Is ∷ [])) ++ b) y) _ ts (r.value_test left true ts) (λ b y i. is-along g.test _ _ y (append_assoc a (Sign s.Is ∷ []) b) i)
    (value_test-sound (a ++ (Sign s.Is ∷ [])) left true (record { of_null = rw append_assoc (built.null_test a left is); of_true = rw append_assoc (built.true_test a left is) }) ts)
is_test-sound a left is ts (Some rest) e =
    sound-at _ ts (Sign s.Not ∷ rest) (r.value_test left false rest) (strip-split s.Not ts rest e)
    (sound-shift (λ b y. Builds g.test (a ++ (Sign s.Is ∷ b)) y) (Sign s.Not ∷ []) rest (r.value_test left false rest)
    (sound-phrase (λ b y. Builds g.test ((a ++ (Sign s.Is ∷ Sign s.Not ∷ [])) ++ b) y) _ rest (r.value_test left false rest) (λ b y i. is-along g.test _ _ y (append_assoc a (Sign s.Is ∷ Sign s.Not ∷ []) b) i)
    (value_test-sound (a ++ (Sign s.Is ∷ Sign s.Not ∷ [])) left false
    (record { of_null = rw append_assoc (built.not_null_test a left is); of_true = rw append_assoc (built.not_true_test a left is) }) rest)))

optional_test-sound : (a : Lexemes) (left : Term) → Builds g.comparison a left → (ts : Lexemes) (o : Option Lexemes) → strip s.Is ts ≡ o
    → Sound (λ b y. Builds g.test (a ++ b) y) ts (r.optional_test left ts o)
optional_test-sound a left is ts None e = sound-ok _ ts left (rw append-nil (built.no_test a left is))
optional_test-sound a left is ts (Some rest) e =
    sound-at _ ts (Sign s.Is ∷ rest) (r.is_test left rest (strip s.Not rest)) (strip-split s.Is ts rest e)
    (sound-shift (λ b y. Builds g.test (a ++ b) y) (Sign s.Is ∷ []) rest (r.is_test left rest (strip s.Not rest)) (is_test-sound a left is rest (strip s.Not rest) refl))

-- ---- parsers over a sound parser of the terms in brackets

a_zero : Sentence (Builds g.primary)
a_zero = record { lexemes = Number 0 ∷ []; tree = int (pos 0); is = built.number 0 }

module _ (f : Parser Term) (sound : (ts : Lexemes) → Sound BuildsTerm ts (f ts)) where
  brackets-sound : (ts : Lexemes) → Sound (λ b y. Builds g.primary (Sign s.Open ∷ b) y) ts (r.brackets f ts)
  unfolding r.brackets
  brackets-sound ts =
      sound-bind BuildsTerm (λ b y. Builds g.primary (Sign s.Open ∷ b) y) ts (f ts) (λ i. expect s.Close i.1 >>= (λ rest. Ok (i.0, rest))) (sound ts)
      (λ used rest x is. expect-sound s.Close (λ b y. Builds g.primary (Sign s.Open ∷ (used ++ b)) y) rest (λ rest. Ok (x, rest))
      (λ rest. sound-ok _ rest x (built.brackets used x is)))

  choice-sound : (ts : Lexemes) → Sound (λ b y. Builds g.primary (Sign s.Case ∷ b) y) ts (r.choice f ts)
  unfolding r.choice
  choice-sound ts =
      expect-sound s.When (λ b y. Builds g.primary (Sign s.Case ∷ b) y) ts _ (λ ts1. sound-bind BuildsTerm (λ b y. Builds g.primary (Sign s.Case ∷ Sign s.When ∷ b) y) ts1 (f ts1) _ (sound ts1) (λ a ts2 x ha.
      expect-sound s.Then (λ b y. Builds g.primary (Sign s.Case ∷ Sign s.When ∷ (a ++ b)) y) ts2 _ (λ ts3. sound-bind BuildsTerm (λ b y. Builds g.primary (Sign s.Case ∷ Sign s.When ∷ (a ++ (Sign s.Then ∷ b))) y) ts3 (f ts3) _ (sound ts3) (λ b ts4 y hb.
      expect-sound s.Else (λ c z. Builds g.primary (Sign s.Case ∷ Sign s.When ∷ (a ++ (Sign s.Then ∷ (b ++ c)))) z) ts4 _ (λ ts5. sound-bind BuildsTerm (λ c z. Builds g.primary (Sign s.Case ∷ Sign s.When ∷ (a ++ (Sign s.Then ∷ (b ++ (Sign s.Else ∷ c))))) z) ts5 (f ts5) _ (sound ts5) (λ c ts6 z hc.
      expect-sound s.End (λ d t. Builds g.primary (Sign s.Case ∷ Sign s.When ∷ (a ++ (Sign s.Then ∷ (b ++ (Sign s.Else ∷ (c ++ d)))))) t) ts6 (λ rest. Ok (case x y z, rest)) (λ ts7.
      sound-ok _ ts7 (case x y z) (built.choice a b c x y z ha hb hc))))))))

  primary_by-sound : (symbol : Symbol) (ts : Lexemes) → Sound (Builds g.primary) (Sign symbol ∷ ts) (r.primary_by f symbol (Sign symbol ∷ ts) ts)
  primary_by-sound s.Null ts = record { used = Sign s.Null ∷ []; split = refl; is = built.null_literal }
  primary_by-sound s.Open ts = sound-shift (Builds g.primary) (Sign s.Open ∷ []) ts (r.brackets f ts) (brackets-sound ts)
  primary_by-sound s.Case ts = sound-shift (Builds g.primary) (Sign s.Case ∷ []) ts (r.choice f ts) (choice-sound ts)
  primary_by-sound _ ts = sound-err (Builds g.primary) _ a_zero

  primary-sound : (ts : Lexemes) → Sound (Builds g.primary) ts (r.primary f ts)
  primary-sound [] = sound-err (Builds g.primary) _ a_zero
  primary-sound (Sign symbol ∷ ts) = primary_by-sound symbol ts
  primary-sound (Word word ∷ ts) = sound-shift (Builds g.primary) (Word word ∷ []) ts (r.column word ts) (column-sound word ts)
  primary-sound (Number n ∷ ts) = record { used = Number n ∷ []; split = refl; is = built.number n }
  primary-sound (Big ∷ ts) = sound-err (Builds g.primary) _ a_zero
  primary-sound (Text bytes ∷ ts) = record { used = Text bytes ∷ []; split = refl; is = built.text_literal bytes }

  signed-sound : (ts : Lexemes) (o : Option Lexemes) → strip s.Minus ts ≡ o → Sound (Builds g.factor) ts (r.signed f ts o)
  signed-sound ts None e = sound-phrase (Builds g.primary) (Builds g.factor) ts (r.primary f ts) (λ b y i. built.not_signed b y i) (primary-sound ts)
  signed-sound ts (Some rest) e =
      sound-at (Builds g.factor) ts (Sign s.Minus ∷ rest) _ (strip-split s.Minus ts rest e)
      (sound-shift (Builds g.factor) (Sign s.Minus ∷ []) rest (r.primary f rest >>= (λ r. Ok (neg r.0, r.1)))
      (sound-bind (Builds g.primary) (λ b y. Builds g.factor (Sign s.Minus ∷ b) y) rest (r.primary f rest) (λ r. Ok (neg r.0, r.1)) (primary-sound rest)
      (λ used rest x is. sound-ok _ rest (neg x) (rw append-nil (built.signed used x is)))))

  factor-sound : (ts : Lexemes) → Sound (Builds g.factor) ts (r.factor f ts)
  unfolding r.factor
  factor-sound ts = signed-sound ts (strip s.Minus ts) refl

  sum-sound : (ts : Lexemes) → Sound (Builds (g.operations l.Sum)) ts (r.sum f ts)
  sum-sound = joined-sound l.Sum _ (joined-sound l.Product (r.factor f) factor-sound)

  compared-sound : (a : Lexemes) (left : Term) → Builds (g.operations l.Sum) a left → (ts : Lexemes) (o : Option (Op × Lexemes)) → next_operator comparison_of ts ≡ o
      → Sound (λ b y. Builds g.comparison (a ++ b) y) ts (r.compared f left ts o)
  compared-sound a left is ts None e = sound-ok _ ts left (rw append-nil (built.not_compared a left is))
  compared-sound a left is ts (Some o) e =
      let w : OperatorAt comparison_of ts o = next_operator-split comparison_of ts o e in
      sound-at _ ts (Sign w.symbol ∷ o.1) _ w.split
      (sound-shift (λ b y. Builds g.comparison (a ++ b) y) (Sign w.symbol ∷ []) o.1 (r.sum f o.1 >>= (λ r. Ok (binary o.0 left r.0, r.1)))
      (sound-bind (Builds (g.operations l.Sum)) (λ b y. Builds g.comparison (a ++ (Sign w.symbol ∷ b)) y) o.1 (r.sum f o.1) (λ r. Ok (binary o.0 left r.0, r.1)) (sum-sound o.1)
      (λ used rest x h. sound-ok _ rest (binary o.0 left x) (rw append-nil (built.compared o.0 w.symbol a used left x w.is is h)))))

  test-sound : (ts : Lexemes) → Sound (Builds g.test) ts (r.full_test f ts)
  unfolding r.full_test
  test-sound ts =
      sound-bind (Builds (g.operations l.Sum)) (Builds g.test) ts (r.sum f ts) _ (sum-sound ts) (λ a rest x is.
      sound-bind (λ b y. Builds g.comparison (a ++ b) y) (λ b y. Builds g.test (a ++ b) y) rest (r.compared f x rest (next_operator comparison_of rest)) (λ b. r.optional_test b.0 b.1 (strip s.Is b.1))
      (compared-sound a x is rest (next_operator comparison_of rest) refl)
      (λ b rest2 y is2. sound-phrase (λ c z. Builds g.test ((a ++ b) ++ c) z) (λ c z. Builds g.test (a ++ (b ++ c)) z) rest2 (r.optional_test y rest2 (strip s.Is rest2)) (λ c z i. rw (← append_assoc) i)
      (optional_test-sound (a ++ b) y is2 rest2 (strip s.Is rest2) refl)))

  negated-sound : (ts : Lexemes) (o : Option Lexemes) → strip s.Not ts ≡ o → Sound (Builds g.negation) ts (r.negated f ts o)
  negated-sound ts None e = sound-phrase (Builds g.test) (Builds g.negation) ts (r.full_test f ts) (λ b y i. built.not_negated b y i) (test-sound ts)
  negated-sound ts (Some rest) e =
      sound-at (Builds g.negation) ts (Sign s.Not ∷ rest) _ (strip-split s.Not ts rest e)
      (sound-shift (Builds g.negation) (Sign s.Not ∷ []) rest (r.full_test f rest >>= (λ r. Ok (not r.0, r.1)))
      (sound-bind (Builds g.test) (λ b y. Builds g.negation (Sign s.Not ∷ b) y) rest (r.full_test f rest) (λ r. Ok (not r.0, r.1)) (test-sound rest)
      (λ used rest x is. sound-ok _ rest (not x) (rw append-nil (built.negated used x is)))))

  negation-sound : (ts : Lexemes) → Sound (Builds g.negation) ts (r.negation f ts)
  unfolding r.negation
  negation-sound ts = negated-sound ts (strip s.Not ts) refl

  terms-sound : (ts : Lexemes) → Sound BuildsTerm ts (r.operations f l.Disjunction ts)
  terms-sound = joined-sound l.Disjunction _ (joined-sound l.Conjunction (r.negation f) negation-sound)

some_term : Sentence BuildsTerm
some_term = record {
  lexemes = Number 0 ∷ [];
  tree = int (pos 0);
  is = built.one_operand l.Disjunction _ _ (built.one_operand l.Conjunction _ _ (built.not_negated _ _ (built.no_test _ _ (built.not_compared _ _ (built.one_operand l.Sum _ _ (built.one_operand l.Product _ _ (built.not_signed _ _ (built.number 0))))))));
}

pub within-sound : (n : ℕ) (ts : Lexemes) → Sound BuildsTerm ts (r.term_within n ts)
unfolding r.term_within
within-sound zero ts = sound-err BuildsTerm ts some_term
within-sound (suc n) ts = terms-sound (r.term_within n) (within-sound n) ts

pub term-sound : (ts : Lexemes) → Sound BuildsTerm ts (r.term ts)
unfolding r.term
term-sound ts = within-sound (suc (length ts)) ts
