-- Canonical lexemes nest no deeper than the term has levels.
use Rattle.gp_grammar.proofs.Prelude.{◌≡◌, ℕ, zero, suc, pos, negsuc, ◌≤◌, Bool, true, false, List, [], ◌∷◌, ◌++◌, Option, Some, None, refl, ap, arith, ◌∙◌, append_assoc, Sign, Text, Op, Lexemes, Term, null, int, text, col, term_lexemes, bracketed, symbol_of, is_too_deep, levels}
use Rattle.std.specs.Prelude.{ℤ}
use Rattle.gp_lexer.specs.declared.lexeme.Symbol.TheVariants as s
use Rattle.gp_grammar.specs.declared.op.Op.TheVariants as op
use Rattle.gp_grammar.specs.Syntax.{binary, neg, not, is_null, is_true, case}
use Rattle.gp_grammar.specs.Canonical.{number_lexemes, column_lexemes, is_lexemes}

-- the lexemes leave the room as it was, where there is this much
abbrev pub Balanced : ℕ → Lexemes → Type 0
Balanced n ts = (room : ℕ) (rest : Lexemes) → n ≤ room → is_too_deep room (ts ++ rest) ≡ is_too_deep room rest

pub both : (n : ℕ) (a b : Lexemes) → Balanced n a → Balanced n b → Balanced n (a ++ b)
both n a b f g room rest h = ap (is_too_deep room) (append_assoc a b rest) ∙ f room (b ++ rest) h ∙ g room rest h

pub in-brackets : (n : ℕ) (a : Lexemes) → Balanced n a → Balanced (suc n) (bracketed a)
in-brackets n a f zero rest h = absurd (omega arith)
in-brackets n a f (suc room) rest h = ap (is_too_deep room) (append_assoc a (Sign s.Close ∷ []) rest) ∙ f room (Sign s.Close ∷ rest) (omega arith)

sign-balanced : (o : Op) (n : ℕ) → Balanced n (Sign (symbol_of o) ∷ [])
sign-balanced op.Add n room rest h = refl
sign-balanced op.Sub n room rest h = refl
sign-balanced op.Mul n room rest h = refl
sign-balanced op.Eq n room rest h = refl
sign-balanced op.Ne n room rest h = refl
sign-balanced op.Lt n room rest h = refl
sign-balanced op.Le n room rest h = refl
sign-balanced op.Gt n room rest h = refl
sign-balanced op.Ge n room rest h = refl
sign-balanced op.And n room rest h = refl
sign-balanced op.Or n room rest h = refl

pub number-balanced : (n : ℕ) (z : ℤ) → Balanced n (number_lexemes z)
number-balanced n (pos m) room rest h = refl
number-balanced n (negsuc m) room rest h = refl

column-balanced : (n : ℕ) (item : Option (List ℕ)) (name : List ℕ) → Balanced n (column_lexemes item name)
column-balanced n None name room rest h = refl
column-balanced n (Some item) name room rest h = refl

is-null-balanced : (n : ℕ) (is : Bool) → Balanced n (is_lexemes is ++ (Sign s.Null ∷ []))
is-null-balanced n true room rest h = refl
is-null-balanced n false room rest h = refl

is-true-balanced : (n : ℕ) (is : Bool) → Balanced n (is_lexemes is ++ (Sign s.True ∷ []))
is-true-balanced n true room rest h = refl
is-true-balanced n false room rest h = refl

positive : (x : Term) → 1 ≤ levels x
positive null = omega arith
positive (int n) = omega arith
positive (text b) = omega arith
positive (col i c) = omega arith
positive (binary o x y) = omega arith
positive (neg x) = omega arith
positive (not x) = omega arith
positive (is_null x is) = omega arith
positive (is_true x is) = omega arith
positive (case x y z) = omega arith

minus-balanced : (n : ℕ) → Balanced n (Sign s.Minus ∷ [])
minus-balanced n room rest h = refl

not-balanced : (n : ℕ) → Balanced n (Sign s.Not ∷ [])
not-balanced n room rest h = refl

choice-split : (a b c rest : Lexemes) → (a ++ (Sign s.Then ∷ (b ++ (Sign s.Else ∷ (c ++ (Sign s.End ∷ [])))))) ++ rest
    ≡ a ++ (Sign s.Then ∷ (b ++ (Sign s.Else ∷ (c ++ (Sign s.End ∷ rest)))))
choice-split a b c rest = simp append_assoc

pub null-balanced : (n : ℕ) → Balanced n (Sign s.Null ∷ [])
null-balanced n room rest h = refl

pub text-balanced : (n : ℕ) (bytes : List ℕ) → Balanced n (Text bytes ∷ [])
text-balanced n bytes room rest h = refl

choice-balanced : (n : ℕ) (a b c : Lexemes) → Balanced n a → Balanced n b → Balanced n c
    → Balanced (suc n) (Sign s.Case ∷ Sign s.When ∷ (a ++ (Sign s.Then ∷ (b ++ (Sign s.Else ∷ (c ++ (Sign s.End ∷ [])))))))
choice-balanced n a b c f g h zero rest k = absurd (omega arith)
choice-balanced n a b c f g h (suc room) rest k =
    ap (is_too_deep room) (choice-split a b c rest)
    ∙ f room (Sign s.Then ∷ (b ++ (Sign s.Else ∷ (c ++ (Sign s.End ∷ rest))))) (omega arith)
    ∙ g room (Sign s.Else ∷ (c ++ (Sign s.End ∷ rest))) (omega arith)
    ∙ h room (Sign s.End ∷ rest) (omega arith)

-- a term of at most n + 1 levels has canonical lexemes that need room for n
pub term-balanced : (x : Term) (n : ℕ) → levels x ≤ suc n → Balanced n (term_lexemes x)
term-balanced null n h = null-balanced n
term-balanced (int z) n h = number-balanced n z
term-balanced (text bytes) n h = text-balanced n bytes
term-balanced (col item name) n h = column-balanced n item name
term-balanced (binary o x y) zero h = absurd (omega (arith, positive x))
term-balanced (binary o x y) (suc n) h =
    in-brackets n (term_lexemes x ++ (Sign (symbol_of o) ∷ term_lexemes y)) (both n (term_lexemes x) (Sign (symbol_of o) ∷ term_lexemes y) (term-balanced x n (omega arith)) (both n (Sign (symbol_of o) ∷ []) (term_lexemes y) (sign-balanced o n) (term-balanced y n (omega arith))))
term-balanced (neg x) zero h = absurd (omega (arith, positive x))
term-balanced (neg x) (suc n) h = in-brackets n (Sign s.Minus ∷ term_lexemes x) (both n (Sign s.Minus ∷ []) (term_lexemes x) (minus-balanced n) (term-balanced x n (omega arith)))
term-balanced (not x) zero h = absurd (omega (arith, positive x))
term-balanced (not x) (suc n) h = in-brackets n (Sign s.Not ∷ term_lexemes x) (both n (Sign s.Not ∷ []) (term_lexemes x) (not-balanced n) (term-balanced x n (omega arith)))
term-balanced (is_null x is) zero h = absurd (omega (arith, positive x))
term-balanced (is_null x is) (suc n) h = in-brackets n (term_lexemes x ++ (is_lexemes is ++ (Sign s.Null ∷ []))) (both n (term_lexemes x) (is_lexemes is ++ (Sign s.Null ∷ [])) (term-balanced x n (omega arith)) (is-null-balanced n is))
term-balanced (is_true x is) zero h = absurd (omega (arith, positive x))
term-balanced (is_true x is) (suc n) h = in-brackets n (term_lexemes x ++ (is_lexemes is ++ (Sign s.True ∷ []))) (both n (term_lexemes x) (is_lexemes is ++ (Sign s.True ∷ [])) (term-balanced x n (omega arith)) (is-true-balanced n is))
term-balanced (case x y z) zero h = absurd (omega (arith, positive x))
term-balanced (case x y z) (suc n) h = choice-balanced n (term_lexemes x) (term_lexemes y) (term_lexemes z) (term-balanced x n (omega arith)) (term-balanced y n (omega arith)) (term-balanced z n (omega arith))
