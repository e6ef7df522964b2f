-- Laws of monomials: products are associative and commutative on all lists, a product of monomials adds counts, and a proper prefix sorts first.
use Rattle.std.proofs.Common.{◌≡◌, ℕ, zero, suc, ◌+◌, ◌≤◌, Bool, true, false, cond, [], ◌∷◌, ◌++◌, length, lit≤, refl, sym, ap, ◌∙◌, arith, inl, inr}
use Rattle.std.specs.Prelude.{min, unwrap_or, Some}
use Rattle.std.specs.Ordering.{is_eq, nat_cmp, ordering_reverse, ordering_then}
use Rattle.std.specs.Cmp.{Equal-is, alike_right, tied_itself, nat_cmp_total}
use Rattle.std.specs.declared.cmp.Ordering.{Ordering}
use Rattle.std.specs.declared.cmp.Ordering.TheVariants.{Less, Equal, Greater}
use Rattle.std.specs.FinMap.{find}
use Rattle.std.specs.FinMap.Entries.{by_order}
use Rattle.std.proofs.lemmas.Bool.{cases_Bool}
use Rattle.gp_base.specs.declared.token.Token.{Token}
use Rattle.gp_base.specs.Tokens.{Monomial, token_cmp, monomial_cmp, times, times_from, greatest_count}
use Rattle.gp_base.specs.MonomialForms.{power, ArePowers, IsMonomial}
use Rattle.gp_base.specs.TokenOrder.{token_cmp_total, token_cmp-exact}
use Rattle.gp_base.proofs.MonomialLemmas.{IsBelow, below_both, first_below, others_below, lesser_below, turned, first_ascending, others_ascending}

abbrev Pair : Type 0
Pair = Token × ℕ

-- a common token with both counts
abbrev joint : Pair → Pair → Pair
joint p q = (p.0, min (p.1 + q.1) greatest_count)

least_sum : (a b c m : ℕ) → min (min (a + b) m + c) m ≡ min (a + min (b + c) m) m
least_sum a b c m = omega arith

-- ---- one turn of a product

less_is : (p q : Pair) (ps qs : Monomial) → token_cmp p.0 q.0 ≡ Less → times (p ∷ ps) (q ∷ qs) ≡ p ∷ times ps (q ∷ qs)
less_is p q ps qs e = ap (λ o. by_order o (p ∷ times ps (q ∷ qs)) (joint p q ∷ times ps qs) (q ∷ times_from p (times ps) qs)) e

equal_is : (p q : Pair) (ps qs : Monomial) → token_cmp p.0 q.0 ≡ Equal → times (p ∷ ps) (q ∷ qs) ≡ joint p q ∷ times ps qs
equal_is p q ps qs e = ap (λ o. by_order o (p ∷ times ps (q ∷ qs)) (joint p q ∷ times ps qs) (q ∷ times_from p (times ps) qs)) e

greater_is : (p q : Pair) (ps qs : Monomial) → token_cmp p.0 q.0 ≡ Greater → times (p ∷ ps) (q ∷ qs) ≡ q ∷ times (p ∷ ps) qs
greater_is p q ps qs e = ap (λ o. by_order o (p ∷ times ps (q ∷ qs)) (joint p q ∷ times ps qs) (q ∷ times_from p (times ps) qs)) e

pub times-one : (a : Monomial) → times a [] ≡ a
times-one [] = refl
times-one (p ∷ ps) = ap (λ (more : Monomial). p ∷ more) (times-one ps)

-- ---- the order of tokens

less_equal : (a b c : Token) → token_cmp a b ≡ Less → token_cmp b c ≡ Equal → token_cmp a c ≡ Less
less_equal a b c e f = sym (alike_right token_cmp_total b c a f) ∙ e

greater_greater : (a b c : Token) → token_cmp a b ≡ Greater → token_cmp b c ≡ Greater → token_cmp a c ≡ Greater
greater_greater a b c e f = token_cmp_total.antisymm a c ∙ ap ordering_reverse (token_cmp_total.trans c b a (turned b c f) (turned a b e))

equal_any : (a b c : Token) → token_cmp a b ≡ Equal → token_cmp a c ≡ token_cmp b c
equal_any a b c e = token_cmp_total.congr a b c e

-- ---- associativity

-- one turn, given the law for shorter lists
turn : (p q r : Pair) (ps qs rs : Monomial) → ((a b c : Monomial) → suc (length a + (length b + length c)) ≤ suc (length ps) + (suc (length qs) + suc (length rs)) → times (times a b) c ≡ times a (times b c)) →
    (x y z : Ordering) → token_cmp p.0 q.0 ≡ x → token_cmp q.0 r.0 ≡ y → token_cmp p.0 r.0 ≡ z →
    times (times (p ∷ ps) (q ∷ qs)) (r ∷ rs) ≡ times (p ∷ ps) (times (q ∷ qs) (r ∷ rs))
turn p q r ps qs rs ih Less Less z e f g0 =
    let g : token_cmp p.0 r.0 ≡ Less = token_cmp_total.trans p.0 q.0 r.0 e f in
    ap (λ (m : Monomial). times m (r ∷ rs)) (less_is p q ps qs e)
    ∙ less_is p r (times ps (q ∷ qs)) rs g
    ∙ ap (λ (m : Monomial). p ∷ m) (ih ps (q ∷ qs) (r ∷ rs) (omega arith))
    ∙ ap (λ (m : Monomial). p ∷ times ps m) (less_is q r qs rs f)
    ∙ sym (ap (λ (m : Monomial). times (p ∷ ps) m) (less_is q r qs rs f) ∙ less_is p q ps (times qs (r ∷ rs)) e)
turn p q r ps qs rs ih Less Equal z e f g0 =
    let g : token_cmp p.0 r.0 ≡ Less = less_equal p.0 q.0 r.0 e f in
    ap (λ (m : Monomial). times m (r ∷ rs)) (less_is p q ps qs e)
    ∙ less_is p r (times ps (q ∷ qs)) rs g
    ∙ ap (λ (m : Monomial). p ∷ m) (ih ps (q ∷ qs) (r ∷ rs) (omega arith))
    ∙ ap (λ (m : Monomial). p ∷ times ps m) (equal_is q r qs rs f)
    ∙ sym (ap (λ (m : Monomial). times (p ∷ ps) m) (equal_is q r qs rs f) ∙ less_is p (joint q r) ps (times qs rs) e)
turn p q r ps qs rs ih Less Greater Less e f g =
    ap (λ (m : Monomial). times m (r ∷ rs)) (less_is p q ps qs e)
    ∙ less_is p r (times ps (q ∷ qs)) rs g
    ∙ ap (λ (m : Monomial). p ∷ m) (ih ps (q ∷ qs) (r ∷ rs) (omega arith))
    ∙ ap (λ (m : Monomial). p ∷ times ps m) (greater_is q r qs rs f)
    ∙ sym (ap (λ (m : Monomial). times (p ∷ ps) m) (greater_is q r qs rs f) ∙ less_is p r ps (times (q ∷ qs) rs) g)
turn p q r ps qs rs ih Less Greater Greater e f g =
    ap (λ (m : Monomial). times m (r ∷ rs)) (less_is p q ps qs e)
    ∙ greater_is p r (times ps (q ∷ qs)) rs g
    ∙ ap (λ (m : Monomial). r ∷ times m rs) (sym (less_is p q ps qs e))
    ∙ ap (λ (m : Monomial). r ∷ m) (ih (p ∷ ps) (q ∷ qs) rs (omega arith))
    ∙ sym (ap (λ (m : Monomial). times (p ∷ ps) m) (greater_is q r qs rs f) ∙ greater_is p r ps (times (q ∷ qs) rs) g)
turn p q r ps qs rs ih Less Greater Equal e f g =
    ap (λ (m : Monomial). times m (r ∷ rs)) (less_is p q ps qs e)
    ∙ equal_is p r (times ps (q ∷ qs)) rs g
    ∙ ap (λ (m : Monomial). joint p r ∷ m) (ih ps (q ∷ qs) rs (omega arith))
    ∙ sym (ap (λ (m : Monomial). times (p ∷ ps) m) (greater_is q r qs rs f) ∙ equal_is p r ps (times (q ∷ qs) rs) g)
turn p q r ps qs rs ih Greater Less z e f g0 =
    ap (λ (m : Monomial). times m (r ∷ rs)) (greater_is p q ps qs e)
    ∙ less_is q r (times (p ∷ ps) qs) rs f
    ∙ ap (λ (m : Monomial). q ∷ m) (ih (p ∷ ps) qs (r ∷ rs) (omega arith))
    ∙ sym (ap (λ (m : Monomial). times (p ∷ ps) m) (less_is q r qs rs f) ∙ greater_is p q ps (times qs (r ∷ rs)) e)
turn p q r ps qs rs ih Greater Equal z e f g0 =
    ap (λ (m : Monomial). times m (r ∷ rs)) (greater_is p q ps qs e)
    ∙ equal_is q r (times (p ∷ ps) qs) rs f
    ∙ ap (λ (m : Monomial). joint q r ∷ m) (ih (p ∷ ps) qs rs (omega arith))
    ∙ sym (ap (λ (m : Monomial). times (p ∷ ps) m) (equal_is q r qs rs f) ∙ greater_is p (joint q r) ps (times qs rs) e)
turn p q r ps qs rs ih Greater Greater z e f g0 =
    let g : token_cmp p.0 r.0 ≡ Greater = greater_greater p.0 q.0 r.0 e f in
    ap (λ (m : Monomial). times m (r ∷ rs)) (greater_is p q ps qs e)
    ∙ greater_is q r (times (p ∷ ps) qs) rs f
    ∙ ap (λ (m : Monomial). r ∷ times m rs) (sym (greater_is p q ps qs e))
    ∙ ap (λ (m : Monomial). r ∷ m) (ih (p ∷ ps) (q ∷ qs) rs (omega arith))
    ∙ sym (ap (λ (m : Monomial). times (p ∷ ps) m) (greater_is q r qs rs f) ∙ greater_is p r ps (times (q ∷ qs) rs) g)
turn p q r ps qs rs ih Equal Less z e f g0 =
    let g : token_cmp p.0 r.0 ≡ Less = equal_any p.0 q.0 r.0 e ∙ f in
    ap (λ (m : Monomial). times m (r ∷ rs)) (equal_is p q ps qs e)
    ∙ less_is (joint p q) r (times ps qs) rs g
    ∙ ap (λ (m : Monomial). joint p q ∷ m) (ih ps qs (r ∷ rs) (omega arith))
    ∙ sym (ap (λ (m : Monomial). times (p ∷ ps) m) (less_is q r qs rs f) ∙ equal_is p q ps (times qs (r ∷ rs)) e)
turn p q r ps qs rs ih Equal Greater z e f g0 =
    let g : token_cmp p.0 r.0 ≡ Greater = equal_any p.0 q.0 r.0 e ∙ f in
    ap (λ (m : Monomial). times m (r ∷ rs)) (equal_is p q ps qs e)
    ∙ greater_is (joint p q) r (times ps qs) rs g
    ∙ ap (λ (m : Monomial). r ∷ times m rs) (sym (equal_is p q ps qs e))
    ∙ ap (λ (m : Monomial). r ∷ m) (ih (p ∷ ps) (q ∷ qs) rs (omega arith))
    ∙ sym (ap (λ (m : Monomial). times (p ∷ ps) m) (greater_is q r qs rs f) ∙ greater_is p r ps (times (q ∷ qs) rs) g)
turn p q r ps qs rs ih Equal Equal z e f g0 =
    let g : token_cmp p.0 r.0 ≡ Equal = equal_any p.0 q.0 r.0 e ∙ f in
    ap (λ (m : Monomial). times m (r ∷ rs)) (equal_is p q ps qs e)
    ∙ equal_is (joint p q) r (times ps qs) rs g
    ∙ ap (λ (h : Pair). h ∷ times (times ps qs) rs) (λ i. (p.0, least_sum p.1 q.1 r.1 greatest_count i))
    ∙ ap (λ (m : Monomial). joint p (joint q r) ∷ m) (ih ps qs rs (omega arith))
    ∙ sym (ap (λ (m : Monomial). times (p ∷ ps) m) (equal_is q r qs rs f) ∙ equal_is p (joint q r) ps (times qs rs) e)

associative_upto : (n : ℕ) (a b c : Monomial) → length a + (length b + length c) ≤ n → times (times a b) c ≡ times a (times b c)
associative_upto n [] b c l = refl
associative_upto n (p ∷ ps) [] c l = ap (λ (m : Monomial). times m c) (times-one (p ∷ ps))
associative_upto n (p ∷ ps) (q ∷ qs) [] l = times-one (times (p ∷ ps) (q ∷ qs)) ∙ ap (times (p ∷ ps)) (sym (times-one (q ∷ qs)))
associative_upto zero (p ∷ ps) (q ∷ qs) (r ∷ rs) l = absurd (omega arith)
associative_upto (suc n) (p ∷ ps) (q ∷ qs) (r ∷ rs) l =
    turn p q r ps qs rs (λ a b c m. associative_upto n a b c (omega arith)) (token_cmp p.0 q.0) (token_cmp q.0 r.0) (token_cmp p.0 r.0) refl refl refl

pub times-associative : (a b c : Monomial) → times (times a b) c ≡ times a (times b c)
times-associative a b c = associative_upto (length a + (length b + length c)) a b c (omega arith)

-- ---- commutativity

joint-commutes : (p q : Pair) → token_cmp p.0 q.0 ≡ Equal → joint p q ≡ joint q p
joint-commutes p q e = λ i. (token_cmp-exact p.0 q.0 e i, sums i)
  where
    sums : min (p.1 + q.1) greatest_count ≡ min (q.1 + p.1) greatest_count
    sums = omega arith

commutative_upto : (n : ℕ) (a b : Monomial) → length a + length b ≤ n → times a b ≡ times b a
commutative_upto n [] b l = sym (times-one b)
commutative_upto n (p ∷ ps) [] l = times-one (p ∷ ps)
commutative_upto zero (p ∷ ps) (q ∷ qs) l = absurd (omega arith)
commutative_upto (suc n) (p ∷ ps) (q ∷ qs) l =
    elim (token_cmp p.0 q.0) as (λ o. token_cmp p.0 q.0 ≡ o → times (p ∷ ps) (q ∷ qs) ≡ times (q ∷ qs) (p ∷ ps)) [
      | Less ↦ λ e. less_is p q ps qs e ∙ ap (λ (m : Monomial). p ∷ m) (commutative_upto n ps (q ∷ qs) (omega arith)) ∙ sym (greater_is q p qs ps (token_cmp_total.antisymm q.0 p.0 ∙ ap ordering_reverse e))
      | Equal ↦ λ e. equal_is p q ps qs e ∙ ap (λ (m : Monomial). joint p q ∷ m) (commutative_upto n ps qs (omega arith)) ∙ ap (λ (h : Pair). h ∷ times qs ps) (joint-commutes p q e)
          ∙ sym (equal_is q p qs ps (token_cmp_total.antisymm q.0 p.0 ∙ ap ordering_reverse e))
      | Greater ↦ λ e. greater_is p q ps qs e ∙ ap (λ (m : Monomial). q ∷ m) (commutative_upto n (p ∷ ps) qs (omega arith)) ∙ sym (less_is q p qs ps (turned p.0 q.0 e))
    ] refl

pub times-commutative : (a b : Monomial) → times a b ≡ times b a
times-commutative a b = commutative_upto (length a + length b) a b (omega arith)

-- ---- counts

power_at : (token : Token) (p : Pair) (ps : Monomial) → is_eq (token_cmp token p.0) ≡ true → power (p ∷ ps) token ≡ p.1
power_at token p ps e = ap (λ (b : Bool). unwrap_or (cond b (Some p.1) (find token_cmp token ps)) 0) e

power_after : (token : Token) (p : Pair) (ps : Monomial) → is_eq (token_cmp token p.0) ≡ false → power (p ∷ ps) token ≡ power ps token
power_after token p ps e = ap (λ (b : Bool). unwrap_or (cond b (Some p.1) (find token_cmp token ps)) 0) e

-- a lesser token is absent
power_below : (token : Token) (ps : Monomial) → IsBelow token ps → power ps token ≡ 0
power_below token [] below = refl
power_below token (p ∷ ps) below = power_after token p ps (ap is_eq (first_below token p ps below)) ∙ power_below token ps (others_below token p ps below)

-- so is a token that ties with a lesser one
power_tied : (token other : Token) (ps : Monomial) → is_eq (token_cmp token other) ≡ true → IsBelow other ps → power ps token ≡ 0
power_tied token other ps e below = ap (power ps) (token_cmp-exact token other ((Equal-is (token_cmp token other)).0 e)) ∙ power_below other ps below

-- the counts of one pair and of the product of those after it
module _ (token : Token) (p : Pair) (ps : Monomial) (below : IsBelow p.0 ps) (bounded : p.1 ≤ greatest_count) (step : (others : Monomial) → IsMonomial others → power (times ps others) token ≡ min (power ps token + power others token) greatest_count) where
  counts_from : (others : Monomial) → IsMonomial others → power (times_from p (times ps) others) token ≡ min (power (p ∷ ps) token + power others token) greatest_count
  counts_from [] valid =
      let whole : p.1 ≡ min (p.1 + 0) greatest_count = omega arith in
      elim (cases_Bool (is_eq (token_cmp token p.0))) [
        | inl here ↦ power_at token p (times ps []) here ∙ whole ∙ ap (λ (n : ℕ). min (n + 0) greatest_count) (sym (power_at token p ps here))
        | inr later ↦ power_after token p (times ps []) later ∙ step [] valid ∙ ap (λ (n : ℕ). min (n + 0) greatest_count) (sym (power_after token p ps later))
      ]
  counts_from (q ∷ qs) valid =
      let under = first_ascending q qs valid.sorted in
      let valid_rest : IsMonomial qs = record { sorted = others_ascending q qs valid.sorted; powers = valid.powers.1 } in
      elim (token_cmp p.0 q.0) as (λ o. token_cmp p.0 q.0 ≡ o → power (by_order o (p ∷ times ps (q ∷ qs)) (joint p q ∷ times ps qs) (q ∷ times_from p (times ps) qs)) token ≡ min (power (p ∷ ps) token + power (q ∷ qs) token) greatest_count) [
        | Less ↦ λ e.
            let absent = below_both p.0 q qs e (lesser_below p.0 q.0 qs e under) in
            let whole : p.1 ≡ min (p.1 + 0) greatest_count = omega arith in
            elim (cases_Bool (is_eq (token_cmp token p.0))) [
              | inl here ↦ power_at token p (times ps (q ∷ qs)) here ∙ whole ∙ (λ i. min (sym (power_at token p ps here) i + sym (power_tied token p.0 (q ∷ qs) here absent) i) greatest_count)
              | inr later ↦ power_after token p (times ps (q ∷ qs)) later ∙ step (q ∷ qs) valid ∙ ap (λ (n : ℕ). min (n + power (q ∷ qs) token) greatest_count) (sym (power_after token p ps later))
            ]
        | Equal ↦ λ e.
            let same = sym (ap is_eq (alike_right token_cmp_total p.0 q.0 token e)) in
            elim (cases_Bool (is_eq (token_cmp token p.0))) [
              | inl here ↦ power_at token (joint p q) (times ps qs) here ∙ (λ i. min (sym (power_at token p ps here) i + sym (power_at token q qs (same ∙ here)) i) greatest_count)
              | inr later ↦ power_after token (joint p q) (times ps qs) later ∙ step qs valid_rest ∙ (λ i. min (sym (power_after token p ps later) i + sym (power_after token q qs (same ∙ later)) i) greatest_count)
            ]
        | Greater ↦ λ e.
            let less = turned p.0 q.0 e in
            let absent = below_both q.0 p ps less (lesser_below q.0 p.0 ps less below) in
            let whole : q.1 ≡ min (0 + q.1) greatest_count = omega (arith, valid.powers.0.1.1) in
            elim (cases_Bool (is_eq (token_cmp token q.0))) [
              | inl here ↦ power_at token q (times_from p (times ps) qs) here ∙ whole ∙ (λ i. min (sym (power_tied token q.0 (p ∷ ps) here absent) i + sym (power_at token q qs here) i) greatest_count)
              | inr later ↦ power_after token q (times_from p (times ps) qs) later ∙ counts_from qs valid_rest ∙ ap (λ (n : ℕ). min (power (p ∷ ps) token + n) greatest_count) (sym (power_after token q qs later))
            ]
      ] refl

bounded_power : (token : Token) (ps : Monomial) → ArePowers ps → power ps token ≤ greatest_count
bounded_power token [] powers = lit≤ tt
bounded_power token (p ∷ ps) powers = elim (cases_Bool (is_eq (token_cmp token p.0))) [
  | inl here ↦ omega (arith, power_at token p ps here, powers.0.1.1)
  | inr later ↦ omega (arith, power_after token p ps later, bounded_power token ps powers.1)
]

-- the counts of a token add up, and stop at the greatest count
pub times-counts : (a b : Monomial) (token : Token) → IsMonomial a → IsMonomial b → power (times a b) token ≡ min (power a token + power b token) greatest_count
times-counts [] b token left right = let bound = bounded_power token b right.powers in omega arith
times-counts (p ∷ ps) b token left right =
    let rest : IsMonomial ps = record { sorted = others_ascending p ps left.sorted; powers = left.powers.1 } in
    counts_from token p ps (first_ascending p ps left.sorted) left.powers.0.1.1 (λ others valid. times-counts ps others token rest valid) b right

-- ---- a proper prefix sorts first

pub monomial_prefix : (a : Monomial) (p : Pair) (b : Monomial) → monomial_cmp a (a ++ p ∷ b) ≡ Less
monomial_prefix [] p b = refl
monomial_prefix (q ∷ a) p b =
    ap (λ o. ordering_then (ordering_then o (nat_cmp q.1 q.1)) (monomial_cmp a (a ++ p ∷ b))) (tied_itself token_cmp_total q.0)
    ∙ ap (λ o. ordering_then o (monomial_cmp a (a ++ p ∷ b))) (tied_itself nat_cmp_total q.1)
    ∙ monomial_prefix a p b
