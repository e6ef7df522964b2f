-- A term within the limit on nodes is built as it is, and one past the limit is built past the limit.
use Rattle.gp_grammar.proofs.Prelude.{◌≡◌, ◌+◌, ◌<◌, ◌≤◌, Bool, true, false, cond, ltb, refl, sym, ap, subst, arith, ◌∙◌, ltb-false, ltb-true, MAX_NODES, Op, Term, nodes, is_large, capped}
use Rattle.gp_grammar.specs.Syntax as syntax
use Rattle.gp_grammar.specs.Capping.{binary, neg, not, is_null, is_true, case}

-- `built` is built for `x`
pub record Fair (x built : Term) : Type 0 where
  pub small : nodes x ≤ MAX_NODES → built ≡ x
  pub large : MAX_NODES < nodes x → MAX_NODES < nodes built

refl-fair : (x : Term) → Fair x x
refl-fair x = record { small = λ h. refl; large = λ h. h }

-- what is built small is small
small-back : (x built : Term) → Fair x built → nodes built ≤ MAX_NODES → nodes x ≤ MAX_NODES
small-back x built f l = by (ltb MAX_NODES (nodes x)) refl
  where
    by : (b : Bool) → ltb MAX_NODES (nodes x) ≡ b → nodes x ≤ MAX_NODES
    by true e = let k : MAX_NODES < nodes built = f.large (ltb-true MAX_NODES (nodes x) e) in absurd (omega arith)
    by false e = ltb-false MAX_NODES (nodes x) e

-- a part that is kept for the whole
kept : (x part built : Term) → Fair part built → nodes part < nodes x → MAX_NODES < nodes built → Fair x built
kept x part built f lt l = record {
  small = λ h. let e : built ≡ part = f.small (omega arith) in let k : nodes built ≡ nodes part = ap nodes e in absurd (omega arith);
  large = λ h. l;
}

-- both are the same
equal-fair : (x built : Term) → built ≡ x → Fair x built
equal-fair x built e = let P : Term → Type 0 = λ z. Fair x z in subst P (sym e) (refl-fair x)

unary-fair : (f : Term → Term) → ((z : Term) → nodes (f z) ≡ nodes z + 1) → (x built : Term) → Fair x built → (p : Bool) → is_large built ≡ p
    → Fair (f x) (cond p built (f built))
unary-fair f n x built h true e = kept (f x) x built h (omega (arith, n x)) (ltb-true MAX_NODES (nodes built) e)
unary-fair f n x built h false e = equal-fair (f x) (f built) (ap f (h.small (small-back x built h (ltb-false MAX_NODES (nodes built) e))))

neg-fair : (x : Term) → Fair x (capped x) → Fair (syntax.neg x) (neg (capped x))
unfolding neg
neg-fair x h = unary-fair (λ z. syntax.neg z) (λ z. refl) x (capped x) h (is_large (capped x)) refl

not-fair : (x : Term) → Fair x (capped x) → Fair (syntax.not x) (not (capped x))
unfolding not
not-fair x h = unary-fair (λ z. syntax.not z) (λ z. refl) x (capped x) h (is_large (capped x)) refl

is_null-fair : (x : Term) (b : Bool) → Fair x (capped x) → Fair (syntax.is_null x b) (is_null (capped x) b)
unfolding is_null
is_null-fair x b h = unary-fair (λ z. syntax.is_null z b) (λ z. refl) x (capped x) h (is_large (capped x)) refl

is_true-fair : (x : Term) (b : Bool) → Fair x (capped x) → Fair (syntax.is_true x b) (is_true (capped x) b)
unfolding is_true
is_true-fair x b h = unary-fair (λ z. syntax.is_true z b) (λ z. refl) x (capped x) h (is_large (capped x)) refl

same-small : (x built : Term) → Fair x built → is_large built ≡ false → built ≡ x
same-small x built h e = h.small (small-back x built h (ltb-false MAX_NODES (nodes built) e))

binary-by : (o : Op) (x y a b : Term) → Fair x a → Fair y b → (p q : Bool) → is_large a ≡ p → is_large b ≡ q
    → Fair (syntax.binary o x y) (cond p a (cond q b (syntax.binary o a b)))
binary-by o x y a b f g true q d e = kept (syntax.binary o x y) x a f (omega arith) (ltb-true MAX_NODES (nodes a) d)
binary-by o x y a b f g false true d e = kept (syntax.binary o x y) y b g (omega arith) (ltb-true MAX_NODES (nodes b) e)
binary-by o x y a b f g false false d e =
    equal-fair (syntax.binary o x y) (syntax.binary o a b) (ap (λ z. syntax.binary o z b) (same-small x a f d) ∙ ap (λ z. syntax.binary o x z) (same-small y b g e))

case-by : (x y z a b c : Term) → Fair x a → Fair y b → Fair z c → (p q r : Bool) → is_large a ≡ p → is_large b ≡ q → is_large c ≡ r
    → Fair (syntax.case x y z) (cond p a (cond q b (cond r c (syntax.case a b c))))
case-by x y z a b c f g h true q r d e i = kept (syntax.case x y z) x a f (omega arith) (ltb-true MAX_NODES (nodes a) d)
case-by x y z a b c f g h false true r d e i = kept (syntax.case x y z) y b g (omega arith) (ltb-true MAX_NODES (nodes b) e)
case-by x y z a b c f g h false false true d e i = kept (syntax.case x y z) z c h (omega arith) (ltb-true MAX_NODES (nodes c) i)
case-by x y z a b c f g h false false false d e i =
    equal-fair (syntax.case x y z) (syntax.case a b c) (ap (λ w. syntax.case w b c) (same-small x a f d) ∙ ap (λ w. syntax.case x w c) (same-small y b g e)
    ∙ ap (λ w. syntax.case x y w) (same-small z c h i))

binary-fair : (o : Op) (x y : Term) → Fair x (capped x) → Fair y (capped y) → Fair (syntax.binary o x y) (binary o (capped x) (capped y))
unfolding binary
binary-fair o x y f g = binary-by o x y (capped x) (capped y) f g (is_large (capped x)) (is_large (capped y)) refl refl

case-fair : (x y z : Term) → Fair x (capped x) → Fair y (capped y) → Fair z (capped z) → Fair (syntax.case x y z) (case (capped x) (capped y) (capped z))
unfolding case
case-fair x y z f g h = case-by x y z (capped x) (capped y) (capped z) f g h (is_large (capped x)) (is_large (capped y)) (is_large (capped z)) refl refl refl

pub capped-fair : (x : Term) → Fair x (capped x)
capped-fair syntax.null = refl-fair syntax.null
capped-fair (syntax.int n) = refl-fair (syntax.int n)
capped-fair (syntax.text b) = refl-fair (syntax.text b)
capped-fair (syntax.col i c) = refl-fair (syntax.col i c)
capped-fair (syntax.binary o x y) = binary-fair o x y (capped-fair x) (capped-fair y)
capped-fair (syntax.neg x) = neg-fair x (capped-fair x)
capped-fair (syntax.not x) = not-fair x (capped-fair x)
capped-fair (syntax.is_null x b) = is_null-fair x b (capped-fair x)
capped-fair (syntax.is_true x b) = is_true-fair x b (capped-fair x)
capped-fair (syntax.case x y z) = case-fair x y z (capped-fair x) (capped-fair y) (capped-fair z)
