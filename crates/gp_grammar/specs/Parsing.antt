-- Machinery: the parser of terms as a function. A parser takes the lexemes of a line, and gives what it built and the lexemes after it,
-- or the lexemes from the fault on.
use Rattle.std.specs.Prelude.{ℕ, zero, suc, pos, Bool, true, false, [], ◌∷◌, length, Option, Some, None, Result, Ok, Err, if◌then◌else◌}
use denote.Enum.Bare.{sameb}
use Rattle.gp_lexer.specs.contracts.lexeme.Symbol.{the_type}
use Rattle.gp_lexer.specs.declared.lexeme.Symbol.{Symbol}
use Rattle.gp_lexer.specs.declared.lexeme.Symbol.TheVariants as s
use Rattle.gp_lexer.specs.declared.lexeme.Lexeme.{Lexeme}
use Rattle.gp_lexer.specs.declared.lexeme.Lexeme.TheVariants.{Symbol as Sign, Word, Number, Big, Text}
use Rattle.gp_grammar.specs.declared.level.Level.{Level}
use Rattle.gp_grammar.specs.declared.level.Level.TheVariants as l
use Rattle.gp_grammar.specs.declared.op.Op.{Op}
use Rattle.gp_grammar.specs.Syntax.{Lexemes, Bytes, Term, null, int, text, col}
use Rattle.gp_grammar.specs.Operators.{operator_of, comparison_of}
use Rattle.gp_grammar.specs.Capping.{binary, neg, not, is_null, is_true, case}

abbrev pub Outcome : Type 0 → Type 0
Outcome A = Result A Lexemes

abbrev pub Parser : Type 0 → Type 0
Parser A = Lexemes → Outcome (A × Lexemes)

infixl 10 ◌>>=◌
abbrev pub ◌>>=◌ : {A B : Type 0} → Outcome A → (A → Outcome B) → Outcome B
(Ok x) >>= f = f x
(Err rest) >>= f = Err rest

-- by cases on an option
abbrev pub by_option : {A B : Type 0} → Option A → B → (A → B) → B
by_option None none some = none
by_option (Some x) none some = some x

-- ---- symbols and names

abbrev pub is_symbol : Symbol → Lexeme → Bool
is_symbol symbol (Sign other) = sameb the_type other symbol
is_symbol symbol (Word name) = false
is_symbol symbol (Number n) = false
is_symbol symbol Big = false
is_symbol symbol (Text bytes) = false

-- the lexemes after this symbol, where it is the first
abbrev pub strip : Symbol → Lexemes → Option Lexemes
strip symbol [] = None
strip symbol (t ∷ ts) = if is_symbol symbol t then Some ts else None

abbrev pub expected : Lexemes → Option Lexemes → Outcome Lexemes
expected ts None = Err ts
expected ts (Some rest) = Ok rest

-- the lexemes after this symbol, which has to be the first
unfoldable pub expect : Symbol → Lexemes → Outcome Lexemes
expect symbol ts = expected ts (strip symbol ts)

-- a word that is no reserved word
abbrev pub identifier : Parser Bytes
identifier [] = Err []
identifier (Sign symbol ∷ ts) = Err (Sign symbol ∷ ts)
identifier (Word word ∷ ts) = Ok (word, ts)
identifier (Number n ∷ ts) = Err (Number n ∷ ts)
identifier (Big ∷ ts) = Err (Big ∷ ts)
identifier (Text bytes ∷ ts) = Err (Text bytes ∷ ts)

-- ---- operators

abbrev pub with_rest : Lexemes → Option Op → Option (Op × Lexemes)
with_rest ts None = None
with_rest ts (Some op) = Some (op, ts)

-- the operator that is the first lexeme, and the lexemes after it
abbrev pub next_operator : (Symbol → Option Op) → Lexemes → Option (Op × Lexemes)
next_operator ops [] = None
next_operator ops (Sign symbol ∷ ts) = with_rest ts (ops symbol)
next_operator ops (Word word ∷ ts) = None
next_operator ops (Number n ∷ ts) = None
next_operator ops (Big ∷ ts) = None
next_operator ops (Text bytes ∷ ts) = None

-- operators and operands after a left side, at most so many
unfoldable pub chain_within : (Symbol → Option Op) → Parser Term → ℕ → Term → Parser Term
chain_within ops part zero left ts = Ok (left, ts)
chain_within ops part (suc n) left ts = by_option (next_operator ops ts) (Ok (left, ts))
    (λ o. part o.1 >>= (λ r. chain_within ops part n (binary o.0 left r.0) r.1))

-- operators and operands after a left side; no line has more of them than lexemes
unfoldable pub chain : (Symbol → Option Op) → Parser Term → Term → Parser Term
chain ops part left ts = chain_within ops part (length ts) left ts

-- operands with operators between them, which group to the left
unfoldable pub joined : (Symbol → Option Op) → Parser Term → Parser Term
joined ops part ts = part ts >>= (λ r. chain ops part r.0 r.1)

-- ---- terms, over the parser of the terms in brackets and CASEs

abbrev pub column_with : Bytes → Lexemes → Option Lexemes → Outcome (Term × Lexemes)
column_with word ts None = Ok (col None word, ts)
column_with word ts (Some rest) = identifier rest >>= (λ r. Ok (col (Some word) r.0, r.1))

-- a column, after its first word
unfoldable pub column : Bytes → Parser Term
column word ts = column_with word ts (strip s.Dot ts)

abbrev pub truth_test : Term → Bool → Lexemes → Option Lexemes → Outcome (Term × Lexemes)
truth_test left is ts None = expect s.True ts >>= (λ rest. Ok (is_true left is, rest))
truth_test left is ts (Some rest) = Ok (is_null left is, rest)

-- NULL or TRUE
unfoldable pub value_test : Term → Bool → Parser Term
value_test left is ts = truth_test left is ts (strip s.Null ts)

abbrev pub is_test : Term → Lexemes → Option Lexemes → Outcome (Term × Lexemes)
is_test left ts None = value_test left true ts
is_test left ts (Some rest) = value_test left false rest

abbrev pub optional_test : Term → Lexemes → Option Lexemes → Outcome (Term × Lexemes)
optional_test left ts None = Ok (left, ts)
optional_test left ts (Some rest) = is_test left rest (strip s.Not rest)

module _ (term : Parser Term) where
  unfoldable pub brackets : Parser Term
  brackets ts = do
    inner ← term ts
    rest ← expect s.Close inner.1
    Ok (inner.0, rest)

  unfoldable pub choice : Parser Term
  choice ts = do
    rest ← expect s.When ts
    when ← term rest
    rest ← expect s.Then when.1
    first ← term rest
    rest ← expect s.Else first.1
    other ← term rest
    rest ← expect s.End other.1
    Ok (case when.0 first.0 other.0, rest)

  abbrev pub primary_by : Symbol → Lexemes → Lexemes → Outcome (Term × Lexemes)
  primary_by s.Null whole ts = Ok (null, ts)
  primary_by s.Open whole ts = brackets ts
  primary_by s.Case whole ts = choice ts
  primary_by _ whole ts = Err whole

  abbrev pub primary : Parser Term
  primary [] = Err []
  primary (Sign symbol ∷ ts) = primary_by symbol (Sign symbol ∷ ts) ts
  primary (Word word ∷ ts) = column word ts
  primary (Number n ∷ ts) = Ok (int (pos n), ts)
  primary (Big ∷ ts) = Err (Big ∷ ts)
  primary (Text bytes ∷ ts) = Ok (text bytes, ts)

  abbrev pub signed : Lexemes → Option Lexemes → Outcome (Term × Lexemes)
  signed ts None = primary ts
  signed ts (Some rest) = primary rest >>= (λ r. Ok (neg r.0, r.1))

  unfoldable pub factor : Parser Term
  factor ts = signed ts (strip s.Minus ts)

  abbrev pub sum : Parser Term
  sum = joined (operator_of l.Sum) (joined (operator_of l.Product) factor)

  abbrev pub compared : Term → Lexemes → Option (Op × Lexemes) → Outcome (Term × Lexemes)
  compared left ts None = Ok (left, ts)
  compared left ts (Some o) = sum o.1 >>= (λ r. Ok (binary o.0 left r.0, r.1))

  unfoldable pub full_test : Parser Term
  full_test ts = do
    left ← sum ts
    both ← compared left.0 left.1 (next_operator comparison_of left.1)
    optional_test both.0 both.1 (strip s.Is both.1)

  abbrev pub negated : Lexemes → Option Lexemes → Outcome (Term × Lexemes)
  negated ts None = full_test ts
  negated ts (Some rest) = full_test rest >>= (λ r. Ok (not r.0, r.1))

  unfoldable pub negation : Parser Term
  negation ts = negated ts (strip s.Not ts)

  -- the operands of a level
  abbrev pub operand : Level → Parser Term
  operand l.Disjunction = joined (operator_of l.Conjunction) negation
  operand l.Conjunction = negation
  operand l.Sum = joined (operator_of l.Product) factor
  operand l.Product = factor

  abbrev pub operations : Level → Parser Term
  operations at = joined (operator_of at) (operand at)

-- a term in which brackets and CASEs nest no deeper than this
unfoldable pub term_within : ℕ → Parser Term
term_within zero ts = Err ts
term_within (suc depth) ts = operations (term_within depth) l.Disjunction ts

-- a term; none nests deeper than it has lexemes
unfoldable pub term : Parser Term
term ts = term_within (suc (length ts)) ts

-- ---- whole lines

-- the end of the line has to be next
abbrev pub ended : {A : Type 0} → A × Lexemes → Outcome A
ended (x, []) = Ok x
ended (x, t ∷ ts) = Err (t ∷ ts)

-- the parser over a whole line
abbrev pub whole : {A : Type 0} → Parser A → Lexemes → Outcome A
whole p ts = p ts >>= ended
